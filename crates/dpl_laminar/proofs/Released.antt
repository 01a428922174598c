-- A family after the children of a top became tops in its place.
use Rattle.std.proofs.Common.{arith, ◌≡◌, ◌≢◌, ℕ, zero, suc, ◌+◌, ◌-◌, ◌*◌, ◌%◌, ◌<◌, ◌≤◌, sym, ap, ◌∙◌, Bool, true}
use Rattle.std.proofs.Common.{false, cond, inl, inr, length, get_or, Some, None}
use Rattle.std.proofs.lemmas.Bool.{cases_eq, cases_Bool}
use Rattle.std.proofs.lemmas.Option.{same_Some}
use Rattle.dpl_laminar.specs.Loads.{size_of}
use Rattle.dpl_laminar.specs.Families.{Sets, IsLaminar, has}
use Rattle.dpl_laminar.specs.Changes.{Releases}
use Rattle.dpl_laminar.proofs.Sums.{sum_same}
use Rattle.dpl_laminar.proofs.Numbers.{has_at, true_false, some_none, cases_Option}

-- a set of odd size has a member
pub some_member : (n : ℕ) (set : ℕ → Bool) → size_of n set % 2 ≡ 1 → (m : ℕ) × (m < n) × (set m ≡ true)
some_member zero set odd = absurd (omega arith)
some_member (suc n) set odd = elim (cases_Bool (set n)) [
  | inl t ↦ (n, omega arith, t)
  | inr f ↦
      let bit : Bool → ℕ = λ z. cond z 1 0 in
      let w = some_member n set (omega (arith, odd, ap bit f)) in
      (w.0, omega (arith, w.1), w.2)
]

-- a set has members that a child of it does not hold
pub child_misses : (n : ℕ) (f : Sets) → IsLaminar n f → (d c : ℕ) → n ≤ d → d < 2 * n → f.live d ≡ true
    → has (f.children d) c ≡ true → (x : ℕ) × (x < n) × (f.holds d x ≡ true) × (f.holds c x ≡ false)
child_misses n f p d c nd hd live k =
    let i = d - n in
    let e : n + i ≡ d = omega arith in
    let w = p.children.children_odd i (omega arith) (ap f.live e ∙ live) in
    let long : 3 ≤ length (f.children d) = omega (arith, w.1, ap (λ z. length (f.children z)) e) in
    let from = λ (b : ℕ) (kb : has (f.children d) b ≡ true) (ne : b ≢ c). (
    let v = p.children.child d b hd kb in
    let m = some_member n (f.holds b) (p.sets.odd b v.0 v.1) in
    let miss : f.holds c m.0 ≡ false = elim (cases_Bool (f.holds c m.0)) [
      | inl t ↦ absurd (ne (p.children.apart d b c m.0 hd m.1 kb k m.2 t))
      | inr t ↦ t
    ] in
    let r : (x : ℕ) × (x < n) × (f.holds d x ≡ true) × (f.holds c x ≡ false) = (m.0, m.1, p.children.child_holds d b m.0 hd m.1 kb m.2, miss) in r) in
    elim (cases_eq (get_or (f.children d) 0 0) c) [
      | inl same ↦ from (get_or (f.children d) 1 0) (has_at (f.children d) 1 (omega arith))
          (λ other. p.children.distinct d 0 1 hd (omega arith) (omega arith) (same ∙ sym other))
      | inr ne ↦ from (get_or (f.children d) 0 0) (has_at (f.children d) 0 (omega arith)) ne
    ]

pub released : (n : ℕ) (f g : Sets) (set : ℕ) → IsLaminar n f → n ≤ set → set < 2 * n → f.live set ≡ true
    → f.parent set ≡ None → Releases n f set g → IsLaminar n g
released n f g set p ns hs live top q =
    let kids = f.children set in
    let single_out = λ (i : ℕ) (h : i < n) (e : i ≡ set). let z : ⊥ = absurd (omega arith) in z in
    let alive = λ (i : ℕ) (l : g.live i ≡ true) (e : i ≡ set). true_false {P = ⊥} (g.live i) l (ap g.live e ∙ q.live_set) in
    let old = λ (i : ℕ) (l : g.live i ≡ true). sym (q.live_others i (alive i l)) ∙ l in
    let held = λ (i m : ℕ) (hm : m < n) (k : g.holds i m ≡ true) (e : i ≡ set). true_false {P = ⊥} (g.holds i m) k
    (ap (λ z. g.holds z m) e ∙ q.holds_set m hm) in
    let was = λ (i m : ℕ) (hi : i < 2 * n) (hm : m < n) (k : g.holds i m ≡ true). sym (q.holds_others i m hi (held i m hm k) hm) ∙ k in
    let not_top = λ (i d : ℕ) (k : f.parent i ≡ Some d) (e : i ≡ set). some_none {P = ⊥} (f.parent i) d k (ap f.parent e ∙ top) in
    let no_kid = (elim (cases_Bool (has kids set)) as (λ _. has kids set ≡ false) [
      | inl k ↦ some_none (f.parent set) set (p.children.child set set hs k).2 top
      | inr k ↦ k
    ]) in
    let empty = λ (c : ℕ) (k : has (g.children set) c ≡ true). true_false {P = ⊥} (has (g.children set) c) k (ap (λ z. has z c) q.children_set) in
    -- the new top of a member of the set
    let new_top = λ (m : ℕ) (hm : m < n) (e : f.top m ≡ set). (
    let w = p.children.covered set m ns hs hm (ap (λ z. f.holds z m) (sym e) ∙ p.tops.top_holds m hm) in
    let v = p.children.child set w.0 hs w.1 in
    let nw = not_top w.0 set v.2 in
    let r : (c : ℕ) × (c < 2 * n) × (has kids c ≡ true) × (f.holds c m ≡ true) × (g.top m ≡ c) × (g.live c ≡ true) ×
    (g.holds c m ≡ true) × (g.parent c ≡ None) =
    (w.0, v.0, w.1, w.2, q.top_inside w.0 m hm w.1 w.2, q.live_others w.0 nw ∙ v.1, q.holds_others w.0 m v.0 nw hm ∙ w.2, q.parent_child w.0 w.1) in r) in
    record {
      sets = record {
        single_live = λ i h. q.live_others i (single_out i h) ∙ p.sets.single_live i h;
        single = λ i m h k. q.holds_others i m (omega arith) (single_out i h) k ∙ p.sets.single i m h k;
        dead = λ i m h k l. elim (cases_eq i set) [
          | inl e ↦ ap (λ z. g.holds z m) e ∙ q.holds_set m k
          | inr e ↦ q.holds_others i m h e k ∙ p.sets.dead i m h k (sym (q.live_others i e) ∙ l)
        ];
        odd = λ i h l. ap (λ z. z % 2) (sum_same n _ _ (λ m k. ap (λ z. cond z 1 0) (q.holds_others i m h (alive i l) k))) ∙ p.sets.odd i h (old i l);
        nested = λ i j m a b hi hj hm ha hb im jm ia ja jb.
            q.holds_others i b hi (held i m hm im) hb ∙
            p.sets.nested i j m a b hi hj hm ha hb (was i m hi hm im) (was j m hj hm jm) (was i a hi ha ia)
            (sym (q.holds_others j a hj (held j m hm jm) ha) ∙ ja) (was j b hj hb jb);
        named = λ i h l.
            let w = p.sets.named i h (old (n + i) l) in
            let an : w.1.0 < n = omega (arith, w.1.1) in (
              q.holds_others (n + i) i (omega arith) (alive (n + i) l) h ∙ w.0,
              (w.1.0, w.1.1, q.holds_others (n + i) w.1.0 (omega arith) (alive (n + i) l) an ∙ w.1.2),
            );
      };
      tops = record {
        top_range = λ m h. elim (cases_eq (f.top m) set) [
          | inl e ↦ let r = new_top m h e in omega (arith, r.1, r.4)
          | inr e ↦ omega (arith, q.top_others m h e, p.tops.top_range m h)
        ];
        top_live = λ m h. elim (cases_eq (f.top m) set) [
          | inl e ↦ let r = new_top m h e in ap g.live r.4 ∙ r.5
          | inr e ↦ ap g.live (q.top_others m h e) ∙ q.live_others (f.top m) e ∙ p.tops.top_live m h
        ];
        top_holds = λ m h. elim (cases_eq (f.top m) set) [
          | inl e ↦ let r = new_top m h e in ap (λ z. g.holds z m) r.4 ∙ r.6
          | inr e ↦ ap (λ z. g.holds z m) (q.top_others m h e) ∙ q.holds_others (f.top m) m (p.tops.top_range m h) e h ∙ p.tops.top_holds m h
        ];
        top_parent = λ m h. elim (cases_eq (f.top m) set) [
          | inl e ↦ let r = new_top m h e in ap g.parent r.4 ∙ r.7
          | inr e ↦ ap g.parent (q.top_others m h e) ∙ (elim (cases_Bool (has kids (f.top m))) [
            | inl k ↦ q.parent_child (f.top m) k
            | inr k ↦ q.parent_others (f.top m) k ∙ p.tops.top_parent m h
          ])
        ];
        top_alone = λ i m hi hm none im. elim (cases_Bool (has kids i)) [
          | inl k ↦ q.top_inside i m hm k (was i m hi hm im)
          | inr k ↦
              let ti : f.top m ≡ i = p.tops.top_alone i m hi hm (sym (q.parent_others i k) ∙ none) (was i m hi hm im) in
              q.top_others m hm (λ e. held i m hm im (sym ti ∙ e)) ∙ ti
        ];
        top_shared = λ i m b hi hm hb im ib.
            let im' = was i m hi hm im in
            let ib' = was i b hi hb ib in
            let tt' : f.top m ≡ f.top b = p.tops.top_shared i m b hi hm hb im' ib' in
            elim (cases_eq (f.top m) set) [
              | inr e ↦ q.top_others m hm e ∙ tt' ∙ sym (q.top_others b hb (λ k. e (tt' ∙ k)))
              | inl e ↦
                  let r = new_top m hm e in
                  let in_c : f.holds r.0 b ≡ true = elim (cases_Option (f.parent i)) [
                    | inl none ↦ absurd (held i m hm im (sym (p.tops.top_alone i m hi hm none im') ∙ e))
                    | inr some ↦
                        let li : f.live i ≡ true = elim (cases_Bool (f.live i)) [
                          | inl l ↦ l
                          | inr l ↦ true_false (f.holds i m) im' (p.sets.dead i m hi hm l)
                        ] in
                        let w = p.children.parent_range i some.0 hi li some.1 in
                        let x = child_misses n f p some.0 i w.0 w.1 w.2 w.3 in
                        let dm : f.holds some.0 m ≡ true = p.children.child_holds some.0 i m w.1 hm w.3 im' in
                        let tx : f.top x.0 ≡ set = p.tops.top_shared some.0 x.0 m w.1 x.1 hm x.2 dm ∙ e in
                        let sx : f.holds set x.0 ≡ true = ap (λ z. f.holds z x.0) (sym tx) ∙ p.tops.top_holds x.0 x.1 in
                        p.children.between set r.0 i m x.0 b hs hi hm x.1 hb r.2 r.3 im' sx x.3 ib'
                  ] in
                  r.4 ∙ sym (q.top_inside r.0 b hb r.2 in_c)
            ];
      };
      children = record {
        dead_parent = λ i h l. elim (cases_eq i set) [
          | inl e ↦ ap g.parent e ∙ q.parent_others set no_kid ∙ top
          | inr e ↦
              let lf : f.live i ≡ false = sym (q.live_others i e) ∙ l in
              elim (cases_Bool (has kids i)) [
                | inl k ↦ q.parent_child i k
                | inr k ↦ q.parent_others i k ∙ p.children.dead_parent i h lf
              ]
        ];
        parent_range = λ i d hi l e. elim (cases_Bool (has kids i)) [
          | inl k ↦ some_none (g.parent i) d e (q.parent_child i k)
          | inr k ↦
              let w = p.children.parent_range i d hi (old i l) (sym (q.parent_others i k) ∙ e) in
              let nd : d ≢ set = λ s. true_false (has kids i) (ap (λ z. has (f.children z) i) (sym s) ∙ w.3) k in
              (w.0, w.1, q.live_others d nd ∙ w.2, ap (λ z. has z i) (q.children_others d nd) ∙ w.3)
        ];
        child = λ d c hd k. elim (cases_eq d set) [
          | inl e ↦ absurd (empty c (ap (λ z. has (g.children z) c) (sym e) ∙ k))
          | inr e ↦
              let w = p.children.child d c hd (sym (ap (λ z. has z c) (q.children_others d e)) ∙ k) in
              let nk : has kids c ≡ false = elim (cases_Bool (has kids c)) [
                | inl t ↦ absurd (e (same_Some _ _ (sym w.2 ∙ (p.children.child set c hs t).2)))
                | inr t ↦ t
              ] in
              (w.0, q.live_others c (not_top c d w.2) ∙ w.1, q.parent_others c nk ∙ w.2)
        ];
        child_holds = λ d c m hd hm k cm. elim (cases_eq d set) [
          | inl e ↦ absurd (empty c (ap (λ z. has (g.children z) c) (sym e) ∙ k))
          | inr e ↦
              let kc : has (f.children d) c ≡ true = sym (ap (λ z. has z c) (q.children_others d e)) ∙ k in
              q.holds_others d m hd e hm ∙ p.children.child_holds d c m hd hm kc (was c m (p.children.child d c hd kc).0 hm cm)
        ];
        covered = λ d m nd hd hm dm.
            let e = held d m hm dm in
            let w = p.children.covered d m nd hd hm (was d m hd hm dm) in
            let v = p.children.child d w.0 hd w.1 in
            (w.0, ap (λ z. has z w.0) (q.children_others d e) ∙ w.1, q.holds_others w.0 m v.0 (not_top w.0 d v.2) hm ∙ w.2);
        apart = λ d c b m hd hm kc kb cm bm. elim (cases_eq d set) [
          | inl e ↦ absurd (empty c (ap (λ z. has (g.children z) c) (sym e) ∙ kc))
          | inr e ↦
              let kc' : has (f.children d) c ≡ true = sym (ap (λ z. has z c) (q.children_others d e)) ∙ kc in
              let kb' : has (f.children d) b ≡ true = sym (ap (λ z. has z b) (q.children_others d e)) ∙ kb in
              p.children.apart d c b m hd hm kc' kb' (was c m (p.children.child d c hd kc').0 hm cm) (was b m (p.children.child d b hd kb').0 hm bm)
        ];
        distinct = λ d i j hd ij jl same. elim (cases_eq d set) [
          | inl e ↦ absurd (omega (arith, jl, ap length (ap g.children e ∙ q.children_set)))
          | inr e ↦
              let ch : g.children d ≡ f.children d = q.children_others d e in
              p.children.distinct d i j hd ij (omega (arith, jl, ap length ch)) (sym (ap (λ z. get_or z i 0) ch) ∙ same ∙ ap (λ z. get_or z j 0) ch)
        ];
        between = λ d c i m b v hd hi hm hb hv k cm im db ib iv.
            let e = held d b hb db in
            let kc : has (f.children d) c ≡ true = sym (ap (λ z. has z c) (q.children_others d e)) ∙ k in
            let w = p.children.child d c hd kc in
            q.holds_others c v w.0 (not_top c d w.2) hv ∙
            p.children.between d c i m b v hd hi hm hb hv kc (was c m w.0 hm cm) (was i m hi hm im)
            (was d b hd hb db) (sym (q.holds_others i b hi (held i m hm im) hb) ∙ ib) (was i v hi hv iv);
        childless = λ i h. ap length (q.children_others i (single_out i h)) ∙ p.children.childless i h;
        children_odd = λ i h l.
            let ch : length (g.children (n + i)) ≡ length (f.children (n + i)) = ap length (q.children_others (n + i) (alive (n + i) l)) in
            let w = p.children.children_odd i h (old (n + i) l) in
            (ap (λ z. z % 2) ch ∙ w.0, omega (arith, ch, w.1));
        children_dead = λ i h l. elim (cases_eq (n + i) set) [
          | inl e ↦ ap (λ z. length (g.children z)) e ∙ ap length q.children_set
          | inr e ↦ ap length (q.children_others (n + i) e) ∙ p.children.children_dead i h (sym (q.live_others (n + i) e) ∙ l)
        ];
      };
    }
