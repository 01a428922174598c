use Rattle.std.proofs.Common.{arith, ◌≡◌, ◌≢◌, ℕ, zero, suc, ◌<◌, ◌≤◌, ◌⊎◌, refl, sym, ap, ◌∙◌, inl, inr, Option}
use Rattle.std.proofs.lemmas.Bool.{cases_eq}
use Rattle.std.proofs.lemmas.Option.{same_Some}
use Rattle.dpl_laminar.specs.Families.{Sets, IsLaminar}
use Rattle.dpl_laminar.proofs.Numbers.{some_none, cases_Option}
use Rattle.dpl_tree.specs.steps.Forests.{Place, free, outer, inner, Forest, IsForest, IsExposed, Grows}
use Rattle.dpl_tree.specs.Mates.{IsExit, ArePairs}

pub place_cases : (a : Place) → (a ≡ free) ⊎ ((a ≡ outer) ⊎ (a ≡ inner))
place_cases free = inl refl
place_cases outer = inr (inl refl)
place_cases inner = inr (inr refl)

pub outer_in : {a : Place} → a ≡ outer → a ≢ free
outer_in e z = let no : outer ≡ free = sym e ∙ z in cc

pub inner_in : {a : Place} → a ≡ inner → a ≢ free
inner_in e z = let no : inner ≡ free = sym e ∙ z in cc

pub outer_inner_no : {P : Type 0} {a : Place} → a ≡ outer → a ≡ inner → P
outer_inner_no e z = let no : outer ≡ inner = sym e ∙ z in cc

-- one exit a top
pub exit_one : (n : ℕ) (f : Sets) (load dist : ℕ → ℕ → ℕ) (mate : ℕ → Option ℕ) → ArePairs n f load dist mate
    → (i m t s u : ℕ) → IsExit n f mate i m t → IsExit n f mate i s u → (m ≡ s) × (t ≡ u)
exit_one n f load dist mate p i m t s u a b =
    let e : m ≡ s = p.alone m s t u a.below b.below (a.top ∙ sym b.top) a.paired b.paired in
    (e, same_Some _ _ (sym a.paired ∙ ap mate e ∙ b.paired))

-- the other end of a pair
pub exit_back : (n : ℕ) (f : Sets) (load dist : ℕ → ℕ → ℕ) (mate : ℕ → Option ℕ) → ArePairs n f load dist mate
    → (i m t : ℕ) → IsExit n f mate i m t → IsExit n f mate (f.top t) t m
exit_back n f load dist mate p i m t a = record { below = p.range m t a.below a.paired; top = refl; paired = p.back m t a.below a.paired }

exit_below : (n : ℕ) (f : Sets) (mate : ℕ → Option ℕ) (i k : ℕ) → k ≤ n
    → ((m : ℕ) × (t : ℕ) × IsExit n f mate i m t) ⊎ ((m t : ℕ) → m < k → IsExit n f mate i m t → ⊥)
exit_below n f mate i zero h = inr (λ m t l w. absurd (omega (arith, l)))
exit_below n f mate i (suc k) h = elim (exit_below n f mate i k (omega (arith, h))) [
  | inl w ↦ inl w
  | inr none ↦ elim (cases_eq (f.top k) i) [
    | inr ne ↦ inr (λ m t l w. elim (cases_eq m k) [
      | inl e ↦ ne (ap f.top (sym e) ∙ w.top)
      | inr e ↦ none m t (omega (arith, l, e)) w
    ])
    | inl top ↦ elim (cases_Option (mate k)) [
      | inl bare ↦ inr (λ m t l w. elim (cases_eq m k) [
        | inl e ↦ some_none {P = ⊥} (mate m) t w.paired (ap mate e ∙ bare)
        | inr e ↦ none m t (omega (arith, l, e)) w
      ])
      | inr v ↦ inl (k, v.0, record { below = omega (arith, h); top = top; paired = v.1 })
    ]
  ]
]

-- a top set has a pair, or has none
pub exit_cases : (n : ℕ) (f : Sets) (mate : ℕ → Option ℕ) (i : ℕ)
    → ((m : ℕ) × (t : ℕ) × IsExit n f mate i m t) ⊎ IsExposed n f mate i
exit_cases n f mate i = elim (exit_below n f mate i n (omega arith)) [
  | inl w ↦ inl w
  | inr none ↦ inr (λ m t w. none m t w.below w)
]

-- the mate of a set outside of the tree is outside too
pub mate_outside : (n : ℕ) (f : Sets) (load dist : ℕ → ℕ → ℕ) (x : Forest) → ArePairs n f load dist x.mate
    → IsForest n f load dist x → (i m t : ℕ) → x.place i ≡ free → IsExit n f x.mate i m t
    → x.place (f.top t) ≡ free
mate_outside n f load dist x p tree i m t e a =
    let b = exit_back n f load dist x.mate p i m t a in
    let at : x.place (f.top m) ≡ free = ap x.place a.top ∙ e in
    elim (place_cases (x.place (f.top t))) [
      | inl z ↦ z
      | inr (inl z) ↦ absurd (inner_in (tree.outer_mate (f.top t) t m z b).0 at)
      | inr (inr z) ↦ absurd (outer_in (tree.inner_mate (f.top t) t m z b).0 at)
    ]

-- a tight pair from an outer member to a set outside of the tree that has a mate: both are taken into the tree
pub grown : (n : ℕ) (f : Sets) (load dist : ℕ → ℕ → ℕ) (x y : Forest) (s t m o : ℕ) → IsLaminar n f
    → ArePairs n f load dist x.mate → IsForest n f load dist x → s < n → t < n → x.place (f.top s) ≡ outer
    → x.place (f.top t) ≡ free → load s t ≡ dist s t → IsExit n f x.mate (f.top t) m o → Grows f x s t o y
    → IsForest n f load dist y
grown n f load dist x y s t m o lam p tree hs ht ps pt tight ex g =
    let po : x.place (f.top o) ≡ free = mate_outside n f load dist x p tree (f.top t) m o pt ex in
    let ho : o < n = p.range m o ex.below ex.paired in
    let back = exit_back n f load dist x.mate p (f.top t) m o ex in
    let differ : f.top t ≢ f.top o = λ e. p.leaves m o ex.below ex.paired (ex.top ∙ e) in
    -- a set of the old tree is neither of the two
    let old = λ (i : ℕ) (k : x.place i ≢ free). let r : (i ≢ f.top t) × (i ≢ f.top o) = ((λ e. k (ap x.place e ∙ pt)), (λ e. k (ap x.place e ∙ po))) in r in
    let same = λ (i : ℕ) (k : x.place i ≢ free). g.place_others i (old i k).0 (old i k).1 in
    let rank = λ (i : ℕ) (k : x.place i ≢ free). g.rank_others i (old i k).0 (old i k).1 in
    let number = λ (i : ℕ) (k : x.place i ≢ free). g.tree_others i (old i k).0 (old i k).1 in
    let out_s = outer_in ps in
    let was = λ (i a b : ℕ) (w : IsExit n f y.mate i a b). let r : IsExit n f x.mate i a b =
    record { below = w.below; top = w.top; paired = sym (g.mates a) ∙ w.paired } in r in
    let now = λ (i a b : ℕ) (w : IsExit n f x.mate i a b). let r : IsExit n f y.mate i a b =
    record { below = w.below; top = w.top; paired = g.mates a ∙ w.paired } in r in
    -- an outer set without a pair is neither of the two
    let bare = λ (i : ℕ) (e : y.place i ≡ outer) (none : IsExposed n f y.mate i).
    (let r : (i ≢ f.top t) × (i ≢ f.top o) = (
      (λ z. outer_inner_no e (ap y.place z ∙ g.place_inner)),
      (λ z. none o m (now i o m (record { below = ho; top = sym z; paired = back.paired }))),
    ) in r) in
    record {
      tops = λ i k. elim (cases_eq i (f.top t)) [
        | inl e ↦ rw e (lam.tops.top_range t ht, lam.tops.top_live t ht, lam.tops.top_parent t ht)
        | inr ne ↦ elim (cases_eq i (f.top o)) [
          | inl e ↦ rw e (lam.tops.top_range o ho, lam.tops.top_live o ho, lam.tops.top_parent o ho)
          | inr ne' ↦ tree.tops i (λ z. k (g.place_others i ne ne' ∙ z))
        ]
      ];
      root_alone = λ i j ei ej ni nj e.
          let vi = bare i ei ni in
          let vj = bare j ej nj in
          tree.root_alone i j (sym (g.place_others i vi.0 vi.1) ∙ ei) (sym (g.place_others j vj.0 vj.1) ∙ ej)
          (λ a b w. ni a b (now i a b w)) (λ a b w. nj a b (now j a b w))
          (sym (g.tree_others i vi.0 vi.1) ∙ e ∙ g.tree_others j vj.0 vj.1);
      outer_mate = λ i a b e w. elim (cases_eq i (f.top o)) [
        | inl k ↦
            let one = exit_one n f load dist x.mate p i a b o m (was i a b w) (record { below = ho; top = sym k; paired = back.paired }) in
            let tb : f.top b ≡ f.top t = ap f.top one.1 ∙ ex.top in (
              ap y.place tb ∙ g.place_inner,
              omega (arith, ap y.rank tb, ap y.rank k, g.rank_inner, g.rank_outer),
              ap y.tree tb ∙ g.tree_inner ∙ sym (ap y.tree k ∙ g.tree_outer),
            )
        | inr k ↦ elim (cases_eq i (f.top t)) [
          | inl z ↦ outer_inner_no e (ap y.place z ∙ g.place_inner)
          | inr z ↦
              let e' : x.place i ≡ outer = sym (g.place_others i z k) ∙ e in
              let v = tree.outer_mate i a b e' (was i a b w) in (
                same (f.top b) (inner_in v.0) ∙ v.0,
                omega (arith, v.1, rank (f.top b) (inner_in v.0), rank i (outer_in e')),
                number (f.top b) (inner_in v.0) ∙ v.2 ∙ sym (number i (outer_in e')),
              )
        ]
      ];
      inner_pair = λ i e. elim (cases_eq i (f.top t)) [
        | inl k ↦ rw k (m, o, now (f.top t) m o ex)
        | inr k ↦ elim (cases_eq i (f.top o)) [
          | inl z ↦ outer_inner_no (ap y.place z ∙ g.place_outer) e
          | inr z ↦ let w = tree.inner_pair i (sym (g.place_others i k z) ∙ e) in (w.0, w.1, now i w.0 w.1 w.2)
        ]
      ];
      inner_mate = λ i a b e w. elim (cases_eq i (f.top t)) [
        | inl k ↦
            let one = exit_one n f load dist x.mate p i a b m o (was i a b w) (record { below = ex.below; top = ex.top ∙ sym k; paired = ex.paired }) in
            (ap y.place (ap f.top one.1) ∙ g.place_outer, ap y.tree (ap f.top one.1) ∙ g.tree_outer ∙ sym (ap y.tree k ∙ g.tree_inner))
        | inr k ↦ elim (cases_eq i (f.top o)) [
          | inl z ↦ outer_inner_no (ap y.place z ∙ g.place_outer) e
          | inr z ↦
              let e' : x.place i ≡ inner = sym (g.place_others i k z) ∙ e in
              let v = tree.inner_mate i a b e' (was i a b w) in
              (same (f.top b) (outer_in v.0) ∙ v.0, number (f.top b) (outer_in v.0) ∙ v.1 ∙ sym (number i (inner_in e')))
        ]
      ];
      link_range = λ i e. elim (cases_eq i (f.top t)) [
        | inl k ↦ (omega (arith, ap y.above k, g.above), omega (arith, ap y.entry k, g.entry))
        | inr k ↦ elim (cases_eq i (f.top o)) [
          | inl z ↦ outer_inner_no (ap y.place z ∙ g.place_outer) e
          | inr z ↦ let v = tree.link_range i (sym (g.place_others i k z) ∙ e) in let l = g.link_others i k in
              (omega (arith, v.0, l.0), omega (arith, v.1, l.1))
        ]
      ];
      link_entry = λ i e. elim (cases_eq i (f.top t)) [
        | inl k ↦ ap f.top (ap y.entry k ∙ g.entry) ∙ sym k
        | inr k ↦ elim (cases_eq i (f.top o)) [
          | inl z ↦ outer_inner_no (ap y.place z ∙ g.place_outer) e
          | inr z ↦ ap f.top (g.link_others i k).1 ∙ tree.link_entry i (sym (g.place_others i k z) ∙ e)
        ]
      ];
      link_outer = λ i e. elim (cases_eq i (f.top t)) [
        | inl k ↦
            let up : y.above i ≡ s = ap y.above k ∙ g.above in (
              ap (λ z. y.place (f.top z)) up ∙ same (f.top s) out_s ∙ ps,
              ap (λ z. y.tree (f.top z)) up ∙ number (f.top s) out_s ∙ sym (ap y.tree k ∙ g.tree_inner),
            )
        | inr k ↦ elim (cases_eq i (f.top o)) [
          | inl z ↦ outer_inner_no (ap y.place z ∙ g.place_outer) e
          | inr z ↦
              let e' : x.place i ≡ inner = sym (g.place_others i k z) ∙ e in
              let v = tree.link_outer i e' in
              let up = (g.link_others i k).0 in (
                ap (λ q. y.place (f.top q)) up ∙ same (f.top (x.above i)) (outer_in v.0) ∙ v.0,
                ap (λ q. y.tree (f.top q)) up ∙ number (f.top (x.above i)) (outer_in v.0) ∙ v.1 ∙ sym (number i (inner_in e')),
              )
        ]
      ];
      link_rank = λ i e. elim (cases_eq i (f.top t)) [
        | inl k ↦ omega (arith, ap (λ z. y.rank (f.top z)) (ap y.above k ∙ g.above), rank (f.top s) out_s, ap y.rank k, g.rank_inner)
        | inr k ↦ elim (cases_eq i (f.top o)) [
          | inl z ↦ outer_inner_no (ap y.place z ∙ g.place_outer) e
          | inr z ↦
              let e' : x.place i ≡ inner = sym (g.place_others i k z) ∙ e in
              omega (
                arith,
                ap (λ q. y.rank (f.top q)) (g.link_others i k).0,
                rank (f.top (x.above i)) (outer_in (tree.link_outer i e').0),
                rank i (inner_in e'),
                tree.link_rank i e',
              )
        ]
      ];
      link_tight = λ i e. elim (cases_eq i (f.top t)) [
        | inl k ↦ ap (λ z. load z (y.entry i)) (ap y.above k ∙ g.above) ∙ ap (load s) (ap y.entry k ∙ g.entry) ∙ tight ∙
            sym (ap (λ z. dist z (y.entry i)) (ap y.above k ∙ g.above) ∙ ap (dist s) (ap y.entry k ∙ g.entry))
        | inr k ↦ elim (cases_eq i (f.top o)) [
          | inl z ↦ outer_inner_no (ap y.place z ∙ g.place_outer) e
          | inr z ↦
              let l = g.link_others i k in
              ap (λ q. load q (y.entry i)) l.0 ∙ ap (load (x.above i)) l.1 ∙
              tree.link_tight i (sym (g.place_others i k z) ∙ e) ∙
              sym (ap (λ q. dist q (y.entry i)) l.0 ∙ ap (dist (x.above i)) l.1)
        ]
      ];
    }
