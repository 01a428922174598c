use Rattle.std.proofs.Common.{arith, ◌≡◌, ◌≢◌, ℕ, ◌+◌, ◌*◌, ◌<◌, ◌≤◌, ◌⊎◌, sym, ap, ◌∙◌, true, false, inl, inr, Some, None}
use Rattle.std.proofs.lemmas.Bool.{cases_eq, cases_lt, cases_Bool}
use Rattle.dpl_laminar.proofs.Numbers.{some_none}
use Rattle.dpl_laminar.specs.Changes.{Releases}
use Rattle.dpl_laminar.specs.Families.{Sets, IsLaminar, has}
use Rattle.dpl_tree.specs.steps.Forests.{free, outer, inner, Forest, IsForest, IsExposed, IsBroken, Opens, Walks, gap}
use Rattle.dpl_tree.specs.Mates.{IsExit, ArePairs}
use Rattle.dpl_tree.proofs.Growing.{place_cases, outer_in, inner_in, outer_inner_no, exit_one, exit_back}

-- an inner set of the tree is taken away, and its child that the tree enters stands in its place
pub opened : (n : ℕ) (f g : Sets) (load dist : ℕ → ℕ → ℕ) (x y : Forest) (set first m0 t0 room : ℕ)
    → IsLaminar n f → Releases n f set g → ArePairs n f load dist x.mate → IsForest n f load dist x
    → ArePairs n g load dist y.mate → n ≤ set → x.place set ≡ inner → IsExit n f x.mate set m0 t0
    → first < 2 * n → g.live first ≡ true → g.parent first ≡ None → f.parent first ≡ Some set
    → g.top (x.entry set) ≡ first → ((m : ℕ) → m < n → f.top m ≢ set → y.mate m ≡ x.mate m)
    → ((m : ℕ) × (t : ℕ) × IsExit n g y.mate first m t) → Opens x set first room y
    → IsBroken n g load dist y (gap first (f.top t0) room)
opened n f g load dist x y set first m0 t0 room lam q p tree pg ns ps ex fb fl fp fpar fe keep fexit o =
    let first_free : x.place first ≡ free = (elim (place_cases (x.place first)) [
      | inl z ↦ z
      | inr (inl z) ↦ some_none (f.parent first) set fpar (tree.tops first (outer_in z)).2
      | inr (inr z) ↦ some_none (f.parent first) set fpar (tree.tops first (inner_in z)).2
    ]) in
    let not_first = λ (i : ℕ) (k : x.place i ≢ free) (e : i ≡ first). k (ap x.place e ∙ first_free) in
    let set_not : set ≢ first = not_first set (inner_in ps) in
    -- an old set of the tree other than the one taken away
    let same = λ (i : ℕ) (k : x.place i ≢ free) (ne : i ≢ set). o.place_others i ne (not_first i k) in
    let back = λ (i : ℕ) (k : y.place i ≢ free) (nf : i ≢ first). (
    let ne : i ≢ set = λ e. k (ap y.place e ∙ o.place_set) in
    let r : (i ≢ set) × (y.place i ≡ x.place i) = (ne, o.place_others i ne nf) in r) in
    let keeps = λ (m i : ℕ) (hm : m < n) (ne : i ≢ set) (e : f.top m ≡ i). q.top_others m hm (λ z. ne (sym e ∙ z)) ∙ e in
    -- the top before, of a member whose top now is an old set of the tree
    let before = λ (m i : ℕ) (hm : m < n) (k : x.place i ≢ free) (e : g.top m ≡ i). (elim (cases_eq (f.top m) set) as (λ _. f.top m ≡ i) [
      | inr ne ↦ sym (q.top_others m hm ne) ∙ e
      | inl z ↦ absurd (
          let c = lam.children.covered set m ns (tree.tops set (inner_in ps)).0 hm (ap (λ a. f.holds a m) (sym z) ∙ lam.tops.top_holds m hm) in
          let v = lam.children.child set c.0 (tree.tops set (inner_in ps)).0 c.1 in
          some_none (f.parent c.0) set v.2 (ap f.parent (sym (q.top_inside c.0 m hm c.1 c.2) ∙ e) ∙ (tree.tops i k).2))
    ]) in
    let number = λ (i : ℕ) (k : x.place i ≢ free). o.tree_others i (not_first i k) in
    let hset : set < 2 * n = (tree.tops set (inner_in ps)).0 in
    -- exits of old sets, before and after
    let was = λ (i m t : ℕ) (k : x.place i ≢ free) (ne : i ≢ set) (w : IsExit n g y.mate i m t). (
    let fm : f.top m ≡ i = before m i w.below k w.top in
    let r : IsExit n f x.mate i m t = record { below = w.below; top = fm; paired = sym (keep m w.below (λ z. ne (sym fm ∙ z))) ∙ w.paired } in r) in
    let now = λ (i m t : ℕ) (ne : i ≢ set) (w : IsExit n f x.mate i m t). (
    let r : IsExit n g y.mate i m t = record {
      below = w.below;
      top = keeps m i w.below ne w.top;
      paired =
          keep m w.below (λ z. ne (sym w.top ∙ z)) ∙ w.paired;
    } in r) in
    let rank = λ (i : ℕ) (k : x.place i ≢ free). (elim (cases_lt (x.rank set) (x.rank i)) as
    (λ _. ((y.rank i ≡ x.rank i + room) × (x.rank set < x.rank i)) ⊎
    ((y.rank i ≡ x.rank i) × (x.rank i ≤ x.rank set))) [
      | inl h ↦ inl (o.rank_high i (not_first i k) h, h)
      | inr h ↦ inr (o.rank_low i (not_first i k) h, h)
    ]) in
    let rises = λ (i j : ℕ) (ki : x.place i ≢ free) (kj : x.place j ≢ free) (h : x.rank i < x.rank j). (
    elim (rank i ki) as (λ _. y.rank i < y.rank j) [
      | inl a ↦ elim (rank j kj) [
        | inl b ↦ omega (arith, a.0, b.0)
        | inr b ↦ omega (arith, a.1, b.1)
      ]
      | inr a ↦ elim (rank j kj) [
        | inl b ↦ omega (arith, a.0, b.0)
        | inr b ↦ omega (arith, a.0, b.0)
      ]
    ]) in
    let out = tree.inner_mate set m0 t0 ps ex in
    let h0 : t0 < n = p.range m0 t0 ex.below ex.paired in
    let out_not : f.top t0 ≢ set = λ e. outer_inner_no out.0 (ap x.place e ∙ ps) in
    let back0 = exit_back n f load dist x.mate p set m0 t0 ex in
    let out_rank : x.rank set < x.rank (f.top t0) = omega (arith, (tree.outer_mate (f.top t0) t0 m0 out.0 back0).1, ap x.rank ex.top) in
    let y_out : y.place (f.top t0) ≡ outer = same (f.top t0) (outer_in out.0) out_not ∙ out.0 in
    -- an old inner set that stays
    let old_inner = λ (i : ℕ) (e : y.place i ≡ inner) (nf : i ≢ first). (
    let w = back i (inner_in e) nf in
    let r : (i ≢ set) × (x.place i ≡ inner) = (w.0, sym w.1 ∙ e) in r) in
    let old_outer = λ (i : ℕ) (e : y.place i ≡ outer). (
    let nf : i ≢ first = λ z. outer_inner_no e (ap y.place z ∙ o.place_first) in
    let w = back i (outer_in e) nf in
    let r : (i ≢ set) × (x.place i ≡ outer) = (w.0, sym w.1 ∙ e) in r) in
    -- the outer set above a link
    let above_now = λ (i : ℕ) (e : x.place i ≡ inner). (
    let l = tree.link_outer i e in
    let ne : f.top (x.above i) ≢ set = λ z. outer_inner_no l.0 (ap x.place z ∙ ps) in
    let gt : g.top (x.above i) ≡ f.top (x.above i) = q.top_others (x.above i) (tree.link_range i e).0 ne in
    let r : (g.top (x.above i) ≡ f.top (x.above i)) × (y.place (f.top (x.above i)) ≡ outer) × (y.tree (f.top (x.above i)) ≡ x.tree i) =
    (gt, same (f.top (x.above i)) (outer_in l.0) ne ∙ l.0, number (f.top (x.above i)) (outer_in l.0) ∙ l.1) in r) in
    record {
      tops = λ i k. elim (cases_eq i first) [
        | inl e ↦ rw e (fb, fl, fp)
        | inr nf ↦
            let w = back i k nf in
            let v = tree.tops i (λ z. k (w.1 ∙ z)) in
            let nk : has (f.children set) i ≡ false = elim (cases_Bool (has (f.children set) i)) [
              | inl z ↦ some_none (f.parent i) set (lam.children.child set i hset z).2 v.2
              | inr z ↦ z
            ] in
            (v.0, q.live_others i w.0 ∙ v.1, q.parent_others i nk ∙ v.2)
      ];
      root_alone = λ i j ei ej ni nj e.
          let a = old_outer i ei in
          let b = old_outer j ej in
          tree.root_alone i j a.1 b.1 (λ m t w. ni m t (now i m t a.0 w)) (λ m t w. nj m t (now j m t b.0 w))
          (sym (number i (outer_in a.1)) ∙ e ∙ number j (outer_in b.1));
      outer_mate = λ i m t e no w.
          let h = old_outer i e in
          let b = was i m t (outer_in h.1) h.0 w in
          let v = tree.outer_mate i m t h.1 b in
          let ht : t < n = p.range m t b.below b.paired in
          let nt : f.top t ≢ set = λ z.
          let c = exit_one n f load dist x.mate p set t m m0 t0 (record { below = ht; top = z; paired = p.back m t b.below b.paired }) ex in
          no (sym b.top ∙ ap f.top c.1) in
          let gt : g.top t ≡ f.top t = q.top_others t ht nt in (
            ap y.place gt ∙ same (f.top t) (inner_in v.0) nt ∙ v.0,
            omega (arith, ap y.rank gt, rises (f.top t) i (inner_in v.0) (outer_in h.1) v.1),
            ap y.tree gt ∙ number (f.top t) (inner_in v.0) ∙ v.2 ∙ sym (number i (outer_in h.1)),
          );
      inner_pair = λ i e. elim (cases_eq i first) [
        | inl z ↦ rw z fexit
        | inr z ↦ let h = old_inner i e z in let w = tree.inner_pair i h.1 in (w.0, w.1, now i w.0 w.1 h.0 w.2)
      ];
      inner_mate = λ i m t e nf w.
          let h = old_inner i e nf in
          let b = was i m t (inner_in h.1) h.0 w in
          let v = tree.inner_mate i m t h.1 b in
          let nt : f.top t ≢ set = λ z. outer_inner_no v.0 (ap x.place z ∙ ps) in
          let gt : g.top t ≡ f.top t = q.top_others t (p.range m t b.below b.paired) nt in (
            ap y.place gt ∙ same (f.top t) (outer_in v.0) nt ∙ v.0,
            ap y.tree gt ∙ number (f.top t) (outer_in v.0) ∙ v.1 ∙ sym (number i (inner_in h.1)),
          );
      link_range = λ i e. elim (cases_eq i first) [
        | inl z ↦ let v = tree.link_range set ps in (omega (arith, v.0, ap y.above z, o.above_first), omega (arith, v.1, ap y.entry z, o.entry_first))
        | inr z ↦ let v = tree.link_range i (old_inner i e z).1 in let l = o.link_others i z in (omega (arith, v.0, l.0), omega (arith, v.1, l.1))
      ];
      link_entry = λ i e. elim (cases_eq i first) [
        | inl z ↦ ap g.top (ap y.entry z ∙ o.entry_first) ∙ fe ∙ sym z
        | inr z ↦
            let h = old_inner i e z in
            let k : f.top (x.entry i) ≡ i = tree.link_entry i h.1 in
            ap g.top (o.link_others i z).1 ∙ keeps (x.entry i) i (tree.link_range i h.1).1 h.0 k
      ];
      link_outer = λ i e. elim (cases_eq i first) [
        | inl z ↦
            let v = above_now set ps in
            let up : g.top (y.above i) ≡ f.top (x.above set) = ap g.top (ap y.above z ∙ o.above_first) ∙ v.0 in
            (ap y.place up ∙ v.1, ap y.tree up ∙ v.2 ∙ sym (ap y.tree z ∙ o.tree_first))
        | inr z ↦
            let h = (old_inner i e z).1 in
            let v = above_now i h in
            let up : g.top (y.above i) ≡ f.top (x.above i) = ap g.top (o.link_others i z).0 ∙ v.0 in
            (ap y.place up ∙ v.1, ap y.tree up ∙ v.2 ∙ sym (number i (inner_in h)))
      ];
      link_rank = λ i e. elim (cases_eq i first) [
        | inl z ↦
            let v = above_now set ps in
            let l = tree.link_outer set ps in
            let low = o.rank_low (f.top (x.above set)) (not_first _ (outer_in l.0)) (omega (arith, tree.link_rank set ps)) in
            omega (arith, ap (λ a. y.rank (g.top a)) (ap y.above z ∙ o.above_first), ap y.rank v.0, low, tree.link_rank set ps, ap y.rank z, o.rank_first)
        | inr z ↦
            let h = old_inner i e z in
            let v = above_now i h.1 in
            omega (
              arith,
              ap (λ a. y.rank (g.top a)) (o.link_others i z).0,
              ap y.rank v.0,
              rises (f.top (x.above i)) i (outer_in (tree.link_outer i h.1).0) (inner_in h.1) (tree.link_rank i h.1),
            )
      ];
      link_tight = λ i e. elim (cases_eq i first) [
        | inl z ↦
            let a : y.above i ≡ x.above set = ap y.above z ∙ o.above_first in
            let b : y.entry i ≡ x.entry set = ap y.entry z ∙ o.entry_first in
            ap (λ c. load c (y.entry i)) a ∙ ap (load (x.above set)) b ∙ tree.link_tight set ps ∙
            sym (ap (λ c. dist c (y.entry i)) a ∙ ap (dist (x.above set)) b)
        | inr z ↦
            let l = o.link_others i z in
            ap (λ c. load c (y.entry i)) l.0 ∙ ap (load (x.above i)) l.1 ∙ tree.link_tight i (old_inner i e z).1 ∙
            sym (ap (λ c. dist c (y.entry i)) l.0 ∙ ap (dist (x.above i)) l.1)
      ];
      cur_inner = o.place_first;
      out_outer = y_out;
      room_left = omega (arith, o.rank_first, o.rank_high (f.top t0) (not_first _ (outer_in out.0)) out_rank, out_rank);
      same = o.tree_first ∙ sym out.1 ∙ sym (number (f.top t0) (outer_in out.0));
    }

-- where the mate of the last inner set is the outer set that was left out, the tree is whole
pub healed : (n : ℕ) (f : Sets) (load dist : ℕ → ℕ → ℕ) (x : Forest) (cur out room m t : ℕ)
    → ArePairs n f load dist x.mate → IsBroken n f load dist x (gap cur out room) → IsExit n f x.mate cur m t
    → f.top t ≡ out → IsForest n f load dist x
healed n f load dist x cur out room m t p b ex e =
    let back = exit_back n f load dist x.mate p cur m t ex in
    record {
      tops = b.tops;
      root_alone = b.root_alone;
      outer_mate = λ i s u k w. elim (cases_eq i out) [
        | inr ne ↦ b.outer_mate i s u k ne w
        | inl z ↦
            let one = exit_one n f load dist x.mate p i s u t m w (record { below = back.below; top = e ∙ sym z; paired = back.paired }) in
            let at : f.top u ≡ cur = ap f.top one.1 ∙ ex.top in
            (ap x.place at ∙ b.cur_inner, omega (arith, ap x.rank at, b.room_left, ap x.rank z), ap x.tree at ∙ b.same ∙ sym (ap x.tree z))
      ];
      inner_pair = b.inner_pair;
      inner_mate = λ i s u k w. elim (cases_eq i cur) [
        | inr ne ↦ b.inner_mate i s u k ne w
        | inl z ↦
            let one = exit_one n f load dist x.mate p i s u m t w (record { below = ex.below; top = ex.top ∙ sym z; paired = ex.paired }) in
            let at : f.top u ≡ out = ap f.top one.1 ∙ e in
            (ap x.place at ∙ b.out_outer, ap x.tree at ∙ sym b.same ∙ sym (ap x.tree z))
      ];
      link_range = b.link_range;
      link_entry = b.link_entry;
      link_outer = b.link_outer;
      link_rank = b.link_rank;
      link_tight = b.link_tight;
    }

-- one step along the ring
pub walked : (n : ℕ) (f : Sets) (load dist : ℕ → ℕ → ℕ) (x y : Forest) (cur out room o next m t a b : ℕ)
    → ArePairs n f load dist x.mate → IsBroken n f load dist x (gap cur out (room + 2))
    → IsExit n f x.mate cur m t → f.top t ≡ o → x.place o ≡ free → x.place next ≡ free → o ≢ next
    → ((o < 2 * n) × (f.live o ≡ true) × (f.parent o ≡ None))
    → ((next < 2 * n) × (f.live next ≡ true) × (f.parent next ≡ None)) → a < n → b < n → f.top a ≡ o
    → f.top b ≡ next → load a b ≡ dist a b → ((s : ℕ) × (u : ℕ) × IsExit n f x.mate next s u)
    → Walks x cur o next (a, b) y → IsBroken n f load dist y (gap next out room)
walked n f load dist x y cur out room o next m t a b p br ex to po pn on top_o top_n ha hb ta tb tight nexit w =
    let no = λ (i : ℕ) (k : x.place i ≢ free) (e : i ≡ o). k (ap x.place e ∙ po) in
    let nn = λ (i : ℕ) (k : x.place i ≢ free) (e : i ≡ next). k (ap x.place e ∙ pn) in
    let same = λ (i : ℕ) (k : x.place i ≢ free). w.place_others i (no i k) (nn i k) in
    let rank = λ (i : ℕ) (k : x.place i ≢ free). w.rank_others i (no i k) (nn i k) in
    let number = λ (i : ℕ) (k : x.place i ≢ free). w.tree_others i (no i k) (nn i k) in
    let was = λ (i s u : ℕ) (v : IsExit n f y.mate i s u). let r : IsExit n f x.mate i s u =
    record { below = v.below; top = v.top; paired = sym (w.mates s) ∙ v.paired } in r in
    let now = λ (i s u : ℕ) (v : IsExit n f x.mate i s u). let r : IsExit n f y.mate i s u =
    record { below = v.below; top = v.top; paired = w.mates s ∙ v.paired } in r in
    let back = exit_back n f load dist x.mate p cur m t ex in
    let cur_in = inner_in br.cur_inner in
    let old_outer = λ (i : ℕ) (e : y.place i ≡ outer) (ne : i ≢ o). (
    let nx : i ≢ next = λ z. outer_inner_no e (ap y.place z ∙ w.place_inner) in
    let r : x.place i ≡ outer = sym (w.place_others i ne nx) ∙ e in r) in
    let old_inner = λ (i : ℕ) (e : y.place i ≡ inner) (ne : i ≢ next). (
    let ni : i ≢ o = λ z. outer_inner_no (ap y.place z ∙ w.place_outer) e in
    let r : x.place i ≡ inner = sym (w.place_others i ni ne) ∙ e in r) in
    record {
      tops = λ i k. elim (cases_eq i o) [
        | inl e ↦ rw e top_o
        | inr ne ↦ elim (cases_eq i next) [
          | inl e ↦ rw e top_n
          | inr ne' ↦ br.tops i (λ z. k (w.place_others i ne ne' ∙ z))
        ]
      ];
      root_alone = λ i j ei ej ni nj e.
          let no_pair = λ (k : ℕ) (none : IsExposed n f y.mate k) (z : k ≡ o).
          none t m (now k t m (record { below = back.below; top = to ∙ sym z; paired = back.paired })) in
          let hi = old_outer i ei (no_pair i ni) in
          let hj = old_outer j ej (no_pair j nj) in
          br.root_alone i j hi hj (λ s u v. ni s u (now i s u v)) (λ s u v. nj s u (now j s u v))
          (sym (number i (outer_in hi)) ∙ e ∙ number j (outer_in hj));
      outer_mate = λ i s u e nout v. elim (cases_eq i o) [
        | inl z ↦
            let one = exit_one n f load dist x.mate p i s u t m (was i s u v) (record { below = back.below; top = to ∙ sym z; paired = back.paired }) in
            let at : f.top u ≡ cur = ap f.top one.1 ∙ ex.top in (
              ap y.place at ∙ same cur cur_in ∙ br.cur_inner,
              omega (arith, ap y.rank at, rank cur cur_in, ap y.rank z, w.rank_outer),
              ap y.tree at ∙ number cur cur_in ∙ sym (ap y.tree z ∙ w.tree_outer),
            )
        | inr z ↦
            let h = old_outer i e z in
            let k = br.outer_mate i s u h nout (was i s u v) in (
              same (f.top u) (inner_in k.0) ∙ k.0,
              omega (arith, rank (f.top u) (inner_in k.0), rank i (outer_in h), k.1),
              number (f.top u) (inner_in k.0) ∙ k.2 ∙ sym (number i (outer_in h)),
            )
      ];
      inner_pair = λ i e. elim (cases_eq i next) [
        | inl z ↦ rw z (nexit.0, nexit.1, now next nexit.0 nexit.1 nexit.2)
        | inr z ↦ let v = br.inner_pair i (old_inner i e z) in (v.0, v.1, now i v.0 v.1 v.2)
      ];
      inner_mate = λ i s u e ne v.
          let h = old_inner i e ne in
          elim (cases_eq i cur) [
            | inl z ↦
                let one = exit_one n f load dist x.mate p i s u m t (was i s u v) (record { below = ex.below; top = ex.top ∙ sym z; paired = ex.paired }) in
                let at : f.top u ≡ o = ap f.top one.1 ∙ to in
                (ap y.place at ∙ w.place_outer, ap y.tree at ∙ w.tree_outer ∙ sym (ap y.tree z ∙ number cur cur_in))
            | inr z ↦
                let k = br.inner_mate i s u h z (was i s u v) in
                (same (f.top u) (outer_in k.0) ∙ k.0, number (f.top u) (outer_in k.0) ∙ k.1 ∙ sym (number i (inner_in h)))
          ];
      link_range = λ i e. elim (cases_eq i next) [
        | inl z ↦ (omega (arith, ap y.above z, w.above), omega (arith, ap y.entry z, w.entry))
        | inr z ↦ let v = br.link_range i (old_inner i e z) in let l = w.link_others i z in (omega (arith, v.0, l.0), omega (arith, v.1, l.1))
      ];
      link_entry = λ i e. elim (cases_eq i next) [
        | inl z ↦ ap f.top (ap y.entry z ∙ w.entry) ∙ tb ∙ sym z
        | inr z ↦ ap f.top (w.link_others i z).1 ∙ br.link_entry i (old_inner i e z)
      ];
      link_outer = λ i e. elim (cases_eq i next) [
        | inl z ↦
            let up : f.top (y.above i) ≡ o = ap f.top (ap y.above z ∙ w.above) ∙ ta in
            (ap y.place up ∙ w.place_outer, ap y.tree up ∙ w.tree_outer ∙ sym (ap y.tree z ∙ w.tree_inner))
        | inr z ↦
            let h = old_inner i e z in
            let l = br.link_outer i h in
            let up : f.top (y.above i) ≡ f.top (x.above i) = ap f.top (w.link_others i z).0 in (
              ap y.place up ∙ same (f.top (x.above i)) (outer_in l.0) ∙ l.0,
              ap y.tree up ∙ number (f.top (x.above i)) (outer_in l.0) ∙ l.1 ∙ sym (number i (inner_in h)),
            )
      ];
      link_rank = λ i e. elim (cases_eq i next) [
        | inl z ↦ omega (arith, ap (λ c. y.rank (f.top c)) (ap y.above z ∙ w.above), ap y.rank ta, w.rank_outer, ap y.rank z, w.rank_inner)
        | inr z ↦
            let h = old_inner i e z in
            omega (
              arith,
              ap (λ c. y.rank (f.top c)) (w.link_others i z).0,
              rank (f.top (x.above i)) (outer_in (br.link_outer i h).0),
              rank i (inner_in h),
              br.link_rank i h,
            )
      ];
      link_tight = λ i e. elim (cases_eq i next) [
        | inl z ↦
            let ea : y.above i ≡ a = ap y.above z ∙ w.above in
            let eb : y.entry i ≡ b = ap y.entry z ∙ w.entry in
            ap (λ c. load c (y.entry i)) ea ∙ ap (load a) eb ∙ tight ∙ sym (ap (λ c. dist c (y.entry i)) ea ∙ ap (dist a) eb)
        | inr z ↦
            let l = w.link_others i z in
            ap (λ c. load c (y.entry i)) l.0 ∙ ap (load (x.above i)) l.1 ∙ br.link_tight i (old_inner i e z) ∙
            sym (ap (λ c. dist c (y.entry i)) l.0 ∙ ap (dist (x.above i)) l.1)
      ];
      cur_inner = w.place_inner;
      out_outer = same out (outer_in br.out_outer) ∙ br.out_outer;
      room_left = omega (arith, w.rank_inner, rank out (outer_in br.out_outer), br.room_left);
      same = w.tree_inner ∙ br.same ∙ sym (number out (outer_in br.out_outer));
    }
