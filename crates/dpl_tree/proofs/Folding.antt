use Rattle.std.proofs.Common.{arith, ◌≡◌, ◌≢◌, ℕ, ◌<◌, ◌≤◌, refl, sym, ap, ◌∙◌, true, false, inl, inr, Option, Some, List}
use Rattle.std.proofs.lemmas.Bool.{cases_eq, cases_Bool}
use Rattle.std.proofs.lemmas.Option.{same_Some}
use Rattle.dpl_laminar.proofs.Numbers.{some_none, true_false, cases_Option}
use Rattle.dpl_laminar.specs.Changes.{AreTops, Gathers}
use Rattle.dpl_laminar.specs.Families.{Sets, IsLaminar, has}
use Rattle.dpl_tree.specs.steps.Forests.{free, outer, inner, Forest, IsForest, IsExposed, IsCycle, Folds}
use Rattle.dpl_tree.specs.Mates.{IsExit, ArePairs, DropsInside}
use Rattle.dpl_tree.proofs.Growing.{outer_in, inner_in, outer_inner_no, exit_back}

-- what a new mate was before
pub was_mate : (n : ℕ) (g : Sets) (mate new : ℕ → Option ℕ) → DropsInside n g mate new → (m t : ℕ) → m < n
    → new m ≡ Some t → (mate m ≡ Some t) × (g.top m ≢ g.top t)
was_mate n g mate new d m t hm k = elim (cases_Option (mate m)) [
  | inl none ↦ some_none (new m) t k (d.unpaired m hm none)
  | inr w ↦ elim (cases_eq (g.top m) (g.top w.0)) [
    | inl e ↦ some_none (new m) t k (d.inside m w.0 hm w.1 e)
    | inr ne ↦
        let e : w.0 ≡ t = same_Some _ _ (sym (d.outside m w.0 hm w.1 ne) ∙ k) in
        (w.1 ∙ ap Some e, λ z. ne (z ∙ ap g.top (sym e)))
  ]
]

-- the tops before and after
pub record Tops (n : ℕ) (f g : Sets) (cs : List ℕ) (set : ℕ) : Type 0 where
  pub inside : (m : ℕ) → m < n → g.top m ≡ set → has cs (f.top m) ≡ true
  pub outside : (m i : ℕ) → m < n → g.top m ≡ i → i ≢ set → (f.top m ≡ i) × (has cs i ≡ false)

pub tops_of : (n : ℕ) (f g : Sets) (cs : List ℕ) (set : ℕ) → IsLaminar n f → Gathers n f cs set g → Tops n f g cs set
tops_of n f g cs set p q = record {
  inside = λ m h e. elim (cases_Bool (has cs (f.top m))) [
    | inl k ↦ k
    | inr k ↦ true_false (f.live set) (ap f.live (sym e ∙ q.top_others m h k) ∙ p.tops.top_live m h) q.was_free
  ];
  outside = λ m i h e ne. elim (cases_Bool (has cs (f.top m))) [
    | inl k ↦ absurd (ne (sym e ∙ q.top_inside m h k))
    | inr k ↦ let z : f.top m ≡ i = sym (q.top_others m h k) ∙ e in (z, ap (has cs) (sym z) ∙ k)
  ];
}

-- only the set where the ways meet keeps its pair
pub only_meet : (n : ℕ) (f g : Sets) (x : Forest) (cs : List ℕ) (set meet m t : ℕ) → Gathers n f cs set g
    → IsCycle n f x cs meet → m < n → t < n → has cs (f.top m) ≡ true → x.mate m ≡ Some t → g.top m ≢ g.top t
    → (f.top m ≡ meet)
only_meet n f g x cs set meet m t q c hm ht k e ne = elim (cases_eq (f.top m) meet) [
  | inl z ↦ z
  | inr z ↦
      let kt = c.closed (f.top m) m t k z (record { below = hm; top = refl; paired = e }) in
      absurd (ne (q.top_inside m hm k ∙ sym (q.top_inside t ht kt)))
]

pub folded_pairs : (n : ℕ) (f g : Sets) (load dist : ℕ → ℕ → ℕ) (x : Forest) (new : ℕ → Option ℕ) (cs : List ℕ) (set meet : ℕ)
    → IsLaminar n f → Gathers n f cs set g → ArePairs n f load dist x.mate → IsCycle n f x cs meet
    → DropsInside n g x.mate new → ArePairs n g load dist new
folded_pairs n f g load dist x new cs set meet lam q p c d =
    let ts = tops_of n f g cs set lam q in
    let was = λ (m t : ℕ) (hm : m < n) (k : new m ≡ Some t). was_mate n g x.mate new d m t hm k in
    record {
      range = λ m t hm k. p.range m t hm (was m t hm k).0;
      back = λ m t hm k. let w = was m t hm k in d.outside t m (p.range m t hm w.0) (p.back m t hm w.0) (λ e. w.1 (sym e));
      leaves = λ m t hm k. (was m t hm k).1;
      tight = λ m t hm k. p.tight m t hm (was m t hm k).0;
      alone = λ m s t u hm hs e k l.
          let w = was m t hm k in
          let v = was s u hs l in
          elim (cases_Bool (has cs (f.top m))) [
            | inl a ↦
                let at_set : g.top s ≡ set = sym e ∙ q.top_inside m hm a in
                let b = ts.inside s hs at_set in
                let fm = only_meet n f g x cs set meet m t q c hm (p.range m t hm w.0) a w.0 w.1 in
                let fs = only_meet n f g x cs set meet s u q c hs (p.range s u hs v.0) b v.0 v.1 in
                p.alone m s t u hm hs (fm ∙ sym fs) w.0 v.0
            | inr a ↦
                let gm : g.top m ≡ f.top m = q.top_others m hm a in
                let ns : f.top m ≢ set = λ z. true_false (f.live set) (ap f.live (sym z) ∙ lam.tops.top_live m hm) q.was_free in
                p.alone m s t u hm hs (sym (ts.outside s (f.top m) hs (sym e ∙ gm) ns).0) w.0 v.0
          ];
    }

pub folded : (n : ℕ) (f g : Sets) (load dist : ℕ → ℕ → ℕ) (x y : Forest) (cs : List ℕ) (set meet : ℕ)
    → IsLaminar n f → AreTops n f cs → Gathers n f cs set g → ArePairs n f load dist x.mate
    → IsForest n f load dist x → IsCycle n f x cs meet → DropsInside n g x.mate y.mate → Folds x cs meet set y
    → IsForest n g load dist y
folded n f g load dist x y cs set meet lam at q p tree c d o =
    let ts = tops_of n f g cs set lam q in
    let live_not = λ (i : ℕ) (l : f.live i ≡ true) (e : i ≡ set). true_false {P = ⊥} (f.live set) (ap f.live (sym e) ∙ l) q.was_free in
    let tree_not = λ (i : ℕ) (k : x.place i ≢ free). live_not i (tree.tops i k).1 in
    let set_out = (elim (cases_Bool (has cs set)) as (λ _. has cs set ≡ false) [
      | inl k ↦ true_false (f.live set) (at.are_live set k) q.was_free
      | inr k ↦ k
    ]) in
    -- a set that stands in the new tree and is not the new one
    let old = λ (i : ℕ) (k : y.place i ≢ free) (ne : i ≢ set). (
    let out : has cs i ≡ false = elim (cases_Bool (has cs i)) [
      | inl z ↦ absurd (k (o.place_child i z))
      | inr z ↦ z
    ] in
    let r : (has cs i ≡ false) × (y.place i ≡ x.place i) = (out, o.place_others i ne out) in r) in
    let was = λ (m t : ℕ) (hm : m < n) (k : y.mate m ≡ Some t). was_mate n g x.mate y.mate d m t hm k in
    -- an exit of an old set that stays
    let exit_old = λ (i m t : ℕ) (ne : i ≢ set) (w : IsExit n g y.mate i m t). (
    let r : IsExit n f x.mate i m t = record { below = w.below; top = (ts.outside m i w.below w.top ne).0; paired = (was m t w.below w.paired).0 } in r) in
    let exit_new = λ (i m t : ℕ) (out : has cs i ≡ false) (w : IsExit n f x.mate i m t). (
    let ht : t < n = p.range m t w.below w.paired in
    let gm : g.top m ≡ i = q.top_others m w.below (ap (has cs) w.top ∙ out) ∙ w.top in
    let ni : i ≢ set = λ e. live_not (f.top m) (lam.tops.top_live m w.below) (w.top ∙ e) in
    let ne : g.top m ≢ g.top t = λ e. p.leaves m t w.below w.paired (w.top ∙ sym (ts.outside t i ht (sym e ∙ gm) ni).0) in
    let r : IsExit n g y.mate i m t = record { below = w.below; top = gm; paired = d.outside m t w.below w.paired ne } in r) in
    -- the mate of the meeting set lies outside
    let meet_mate = λ (m t : ℕ) (w : IsExit n f x.mate meet m t). (
    let v = tree.outer_mate meet m t c.meet_outer w in
    let out : has cs (f.top t) ≡ false = elim (cases_Bool (has cs (f.top t))) [
      | inl z ↦ absurd (omega (arith, v.1, c.ranks (f.top t) z))
      | inr z ↦ z
    ] in
    let r : (has cs (f.top t) ≡ false) × (x.place (f.top t) ≡ inner) × (x.rank (f.top t) < x.rank meet) × (x.tree (f.top t) ≡ x.tree meet) = (out, v.0, v.1, v.2) in r) in
    let set_exit = λ (m t : ℕ) (w : IsExit n g y.mate set m t). (
    let v = was m t w.below w.paired in
    let ht : t < n = p.range m t w.below v.0 in
    let fm = only_meet n f g x cs set meet m t q c w.below ht (ts.inside m w.below w.top) v.0 v.1 in
    let r : IsExit n f x.mate meet m t = record { below = w.below; top = fm; paired = v.0 } in r) in
    -- where the top of a member of an outer set is now
    let outer_now = λ (m : ℕ) (hm : m < n) (e : x.place (f.top m) ≡ outer).
    (elim (cases_Bool (has cs (f.top m))) as (λ _. (y.place (g.top m) ≡ outer) ×
    (y.rank (g.top m) ≤ x.rank (f.top m)) × (y.tree (g.top m) ≡ x.tree (f.top m))) [
      | inl k ↦
          let gm = q.top_inside m hm k in
          (ap y.place gm ∙ o.place_set, omega (arith, ap y.rank gm, o.rank_set, c.ranks (f.top m) k), ap y.tree gm ∙ o.tree_set ∙ sym (c.same (f.top m) k))
      | inr k ↦
          let gm = q.top_others m hm k in
          let nm = tree_not (f.top m) (outer_in e) in
          (ap y.place gm ∙ o.place_others (f.top m) nm k ∙ e, omega (arith, ap y.rank gm, o.rank_others (f.top m) nm), ap y.tree gm ∙ o.tree_others (f.top m) nm)
    ]) in
    let not_set = λ (i : ℕ) (e : y.place i ≡ inner) (z : i ≡ set). outer_inner_no {P = ⊥} o.place_set (ap y.place (sym z) ∙ e) in
    let inner_old = λ (i : ℕ) (e : y.place i ≡ inner). (
    let w = old i (inner_in e) (not_set i e) in
    let r : (has cs i ≡ false) × (x.place i ≡ inner) = (w.0, sym w.1 ∙ e) in r) in
    -- what has no pair now had none
    let meet_bare = λ (i : ℕ) (z : i ≡ set) (none : IsExposed n g y.mate i). (
    let r : IsExposed n f x.mate meet = λ m t w.
    let v = meet_mate m t w in
    let ht : t < n = p.range m t w.below w.paired in
    let gm : g.top m ≡ set = q.top_inside m w.below (ap (has cs) w.top ∙ c.meet_in) in
    let gt : g.top t ≡ f.top t = q.top_others t ht v.0 in
    let ne : g.top m ≢ g.top t = λ a. live_not (f.top t) (lam.tops.top_live t ht) (sym gt ∙ sym a ∙ gm) in
    none m t (record { below = w.below; top = gm ∙ sym z; paired = d.outside m t w.below w.paired ne }) in r) in
    let old_bare = λ (i : ℕ) (out : has cs i ≡ false) (none : IsExposed n g y.mate i). (
    let r : IsExposed n f x.mate i = λ m t w. none m t (exit_new i m t out w) in r) in
    -- the new set and an old one are not both without a pair
    let not_both = λ (i j : ℕ) (z : i ≡ set) (ne : j ≢ set) (ej : y.place j ≡ outer) (ni : IsExposed n g y.mate i)
    (nj : IsExposed n g y.mate j) (e : y.tree i ≡ y.tree j). (
    let v = old j (outer_in ej) ne in
    let one : meet ≡ j = tree.root_alone meet j c.meet_outer (sym v.1 ∙ ej) (meet_bare i z ni) (old_bare j v.0 nj)
    (sym (ap y.tree z ∙ o.tree_set) ∙ e ∙ o.tree_others j ne) in
    let r : ⊥ = true_false (has cs j) (ap (has cs) (sym one) ∙ c.meet_in) v.0 in r) in
    record {
      tops = λ i k. elim (cases_eq i set) [
        | inl e ↦ rw e (q.below, q.live_set, q.parent_others set set_out ∙ lam.children.dead_parent set q.below q.was_free)
        | inr ne ↦
            let w = old i k ne in
            let v = tree.tops i (λ z. k (w.1 ∙ z)) in
            (v.0, q.live_others i ne ∙ v.1, q.parent_others i w.0 ∙ v.2)
      ];
      root_alone = λ i j ei ej ni nj e. elim (cases_eq i set) [
        | inl z ↦ elim (cases_eq j set) [
          | inl k ↦ z ∙ sym k
          | inr k ↦ absurd (not_both i j z k ej ni nj e)
        ]
        | inr z ↦ elim (cases_eq j set) [
          | inl k ↦ absurd (not_both j i k z ei nj ni (sym e))
          | inr k ↦
              let vi = old i (outer_in ei) z in
              let vj = old j (outer_in ej) k in
              tree.root_alone i j (sym vi.1 ∙ ei) (sym vj.1 ∙ ej) (old_bare i vi.0 ni) (old_bare j vj.0 nj)
              (sym (o.tree_others i z) ∙ e ∙ o.tree_others j k)
        ]
      ];
      outer_mate = λ i m t e w. elim (cases_eq i set) [
        | inl z ↦
            let b = set_exit m t (record { below = w.below; top = w.top ∙ z; paired = w.paired }) in
            let v = meet_mate m t b in
            let ht : t < n = p.range m t b.below b.paired in
            let gt : g.top t ≡ f.top t = q.top_others t ht v.0 in
            let nt = tree_not (f.top t) (inner_in v.1) in (
              ap y.place gt ∙ o.place_others (f.top t) nt v.0 ∙ v.1,
              omega (arith, ap y.rank gt, o.rank_others (f.top t) nt, v.2, ap y.rank z, o.rank_set),
              ap y.tree gt ∙ o.tree_others (f.top t) nt ∙ v.3 ∙ sym (ap y.tree z ∙ o.tree_set),
            )
        | inr z ↦
            let h = old i (outer_in e) z in
            let b = exit_old i m t z w in
            let v = tree.outer_mate i m t (sym h.1 ∙ e) b in
            let ht : t < n = p.range m t b.below b.paired in
            let out : has cs (f.top t) ≡ false = elim (cases_Bool (has cs (f.top t))) [
              | inl k ↦
                  let tm : f.top t ≢ meet = λ a. outer_inner_no c.meet_outer (ap x.place (sym a) ∙ v.0) in
                  let up = c.closed (f.top t) t m k tm (exit_back n f load dist x.mate p i m t b) in
                  true_false (has cs (f.top m)) up (ap (has cs) b.top ∙ h.0)
              | inr k ↦ k
            ] in
            let gt : g.top t ≡ f.top t = q.top_others t ht out in
            let nt = tree_not (f.top t) (inner_in v.0) in (
              ap y.place gt ∙ o.place_others (f.top t) nt out ∙ v.0,
              omega (arith, ap y.rank gt, o.rank_others (f.top t) nt, v.1, o.rank_others i z),
              ap y.tree gt ∙ o.tree_others (f.top t) nt ∙ v.2 ∙ sym (o.tree_others i z),
            )
      ];
      inner_pair = λ i e.
          let h = inner_old i e in
          let w = tree.inner_pair i h.1 in
          (w.0, w.1, exit_new i w.0 w.1 h.0 w.2);
      inner_mate = λ i m t e w.
          let h = inner_old i e in
          let b = exit_old i m t (not_set i e) w in
          let v = tree.inner_mate i m t h.1 b in
          let now = outer_now t (p.range m t b.below b.paired) v.0 in
          (now.0, now.2 ∙ v.1 ∙ sym (o.tree_others i (not_set i e)));
      link_range = λ i e.
          let v = tree.link_range i (inner_old i e).1 in
          (omega (arith, v.0, o.above i (not_set i e)), omega (arith, v.1, o.entry i (not_set i e)));
      link_entry = λ i e.
          let h = inner_old i e in
          let k : f.top (x.entry i) ≡ i = tree.link_entry i h.1 in
          ap g.top (o.entry i (not_set i e)) ∙ q.top_others (x.entry i) (tree.link_range i h.1).1 (ap (has cs) k ∙ h.0) ∙ k;
      link_outer = λ i e.
          let h = inner_old i e in
          let up = o.above i (not_set i e) in
          let v = tree.link_outer i h.1 in
          let now = outer_now (x.above i) (tree.link_range i h.1).0 v.0 in
          (ap (λ z. y.place (g.top z)) up ∙ now.0, ap (λ z. y.tree (g.top z)) up ∙ now.2 ∙ v.1 ∙ sym (o.tree_others i (not_set i e)));
      link_rank = λ i e.
          let h = inner_old i e in
          omega (
            arith,
            ap (λ z. y.rank (g.top z)) (o.above i (not_set i e)),
            (outer_now (x.above i) (tree.link_range i h.1).0 (tree.link_outer i h.1).0).1,
            tree.link_rank i h.1,
            o.rank_others i (not_set i e),
          );
      link_tight = λ i e.
          let a = o.above i (not_set i e) in
          let b = o.entry i (not_set i e) in
          ap (λ z. load z (y.entry i)) a ∙ ap (load (x.above i)) b ∙ tree.link_tight i (inner_old i e).1 ∙
          sym (ap (λ z. dist z (y.entry i)) a ∙ ap (dist (x.above i)) b);
    }
