use Rattle.std.proofs.Common.{arith, ◌≡◌, ◌≢◌, ℕ, zero, suc, ◌+◌, ◌*◌, ◌<◌, ◌≤◌, refl, sym, ap, ◌∙◌, subst, Bool, true, false, inl, inr, List}
use Rattle.std.proofs.lemmas.Bool.{cases_eq, cases_Bool}
use Rattle.dpl_laminar.proofs.Numbers.{true_false}
use Rattle.dpl_laminar.proofs.Sums.{sum_most}
use Rattle.dpl_laminar.specs.Changes.{Gathers, Releases}
use Rattle.dpl_laminar.specs.Families.{Sets, IsLaminar, has}
use Rattle.dpl_laminar.specs.Loads.{sum_below, load_in}
use Rattle.dpl_tree.specs.steps.Forests.{Place, free, outer, inner, Forest, IsForest, Shifts, Grows, Folds}
use Rattle.dpl_tree.specs.Mates.{IsExit, ArePairs}
use Rattle.dpl_tree.specs.Stages.{weight, as_number, potential}
use Rattle.dpl_tree.proofs.Growing.{place_cases, outer_in, outer_inner_no, mate_outside}
use Rattle.dpl_tree.proofs.Loads.{shift_tight, Balanced, both_free, outer_inner, inner_outer}

-- ---- a change of the values

balanced : (a b c d : Place) → a ≡ c → b ≡ d → Balanced c d → Balanced a b
balanced a b c d e e' k = subst (λ (z : Place). Balanced z b) (sym e) (subst (λ (z : Place). Balanced c z) (sym e') k)

pub shifted_pairs : (n : ℕ) (f : Sets) (dist : ℕ → ℕ → ℕ) (by : ℕ) (v v' : ℕ → ℕ) (x : Forest) → IsLaminar n f
    → Shifts (2 * n) f x.place by v v' → ArePairs n f (load_in (2 * n) v f.holds) dist x.mate
    → IsForest n f (load_in (2 * n) v f.holds) dist x → ArePairs n f (load_in (2 * n) v' f.holds) dist x.mate
shifted_pairs n f dist by v v' x lam sh p tree = record {
  range = p.range;
  back = p.back;
  leaves = p.leaves;
  tight = λ m t hm k.
      let ht = p.range m t hm k in
      let a : IsExit n f x.mate (f.top m) m t = record { below = hm; top = refl; paired = k } in
      let b : Balanced (x.place (f.top m)) (x.place (f.top t)) = elim (place_cases (x.place (f.top m))) [
        | inl z ↦ balanced _ _ free free z (mate_outside n f _ dist x p tree (f.top m) m t z a) both_free
        | inr (inl z) ↦ balanced _ _ outer inner z (tree.outer_mate (f.top m) m t z a).0 outer_inner
        | inr (inr z) ↦ balanced _ _ inner outer z (tree.inner_mate (f.top m) m t z a).0 inner_outer
      ] in
      shift_tight n f lam x.place by v v' dist sh m t hm ht (inr (p.leaves m t hm k, b)) (p.tight m t hm k);
  alone = p.alone;
}

pub shifted_tree : (n : ℕ) (f : Sets) (dist : ℕ → ℕ → ℕ) (by : ℕ) (v v' : ℕ → ℕ) (x : Forest) → IsLaminar n f
    → Shifts (2 * n) f x.place by v v' → IsForest n f (load_in (2 * n) v f.holds) dist x
    → IsForest n f (load_in (2 * n) v' f.holds) dist x
shifted_tree n f dist by v v' x lam sh tree = record {
  tops = tree.tops;
  root_alone = tree.root_alone;
  outer_mate = tree.outer_mate;
  inner_pair = tree.inner_pair;
  inner_mate = tree.inner_mate;
  link_range = tree.link_range;
  link_entry = tree.link_entry;
  link_outer = tree.link_outer;
  link_rank = tree.link_rank;
  link_tight = λ i e.
      let r = tree.link_range i e in
      let pe : x.place (f.top (x.entry i)) ≡ inner = ap x.place (tree.link_entry i e) ∙ e in
      let po = (tree.link_outer i e).0 in
      shift_tight n f lam x.place by v v' dist sh (x.above i) (x.entry i) r.0 r.1
      (inr ((λ z. outer_inner_no po (ap x.place z ∙ pe)), balanced _ _ outer inner po pe outer_inner))
      (tree.link_tight i e);
}

-- ---- what falls with each turn

pub sum_less : (n : ℕ) (f g : ℕ → ℕ) (a : ℕ) → a < n → f a < g a → ((m : ℕ) → m < n → f m ≤ g m) → sum_below n f < sum_below n g
sum_less zero f g a h l e = absurd (omega arith)
sum_less (suc n) f g a h l e = elim (cases_eq a n) [
  | inl z ↦ omega (arith, l, ap f z, ap g z, sum_most n f g (λ m k. e m (omega arith)))
  | inr z ↦ omega (arith, sum_less n f g a (omega arith) l (λ m k. e m (omega arith)), e n (omega arith))
]

weight_same : (a b : Place) (j k : ℕ) → a ≡ b → j ≤ k → weight a j ≤ weight b k
weight_same a b j k e h = subst (λ (z : Place). weight a j ≤ weight z k) e (least a j k h) where
  least : (c : Place) (i l : ℕ) → i ≤ l → weight c i ≤ weight c l
  least free i l h = h
  least outer i l h = omega arith
  least inner i l h = h

weight_outer : (a : Place) (j : ℕ) → a ≡ outer → weight a j ≡ 0
weight_outer a j e = ap (λ z. weight z j) e

weight_most : (a : Place) (j : ℕ) → weight a j ≤ j
weight_most free j = omega arith
weight_most outer j = omega arith
weight_most inner j = omega arith

weight_full : (a : Place) (j : ℕ) → a ≢ outer → weight a j ≡ j
weight_full free j ne = refl
weight_full outer j ne = absurd (ne refl)
weight_full inner j ne = refl

pub grown_falls : (n : ℕ) (f : Sets) (load dist : ℕ → ℕ → ℕ) (x y : Forest) (s t m o : ℕ) → IsLaminar n f
    → ArePairs n f load dist x.mate → IsForest n f load dist x → x.place (f.top t) ≡ free
    → IsExit n f x.mate (f.top t) m o → Grows f x s t o y → potential n f y.place < potential n f x.place
grown_falls n f load dist x y s t m o lam p tree pt ex g =
    let po : x.place (f.top o) ≡ free = mate_outside n f load dist x p tree (f.top t) m o pt ex in
    let ho : o < n = p.range m o ex.below ex.paired in
    sum_less n _ _ o ho
    (omega (
      arith,
      weight_outer (y.place (f.top o)) (1 + as_number (f.live (n + o))) g.place_outer,
      weight_full (x.place (f.top o)) (1 + as_number (f.live (n + o))) (λ z. outer_in z po),
    ))
    (λ i h. elim (cases_eq (f.top i) (f.top o)) [
      | inl e ↦ omega (arith, weight_outer (y.place (f.top i)) (1 + as_number (f.live (n + i))) (ap y.place e ∙ g.place_outer))
      | inr ne ↦ elim (cases_eq (f.top i) (f.top t)) [
        | inl e ↦ omega (
          arith,
          weight_most (y.place (f.top i)) (1 + as_number (f.live (n + i))),
          weight_full (x.place (f.top i)) (1 + as_number (f.live (n + i))) (λ z. outer_in z (ap x.place e ∙ pt)),
        )
        | inr ne' ↦ weight_same _ _ _ _ (g.place_others (f.top i) ne' ne) (omega arith)
      ]
    ])

pub folded_falls : (n : ℕ) (f g : Sets) (load dist : ℕ → ℕ → ℕ) (x y : Forest) (cs : List ℕ) (set meet r c : ℕ)
    → IsLaminar n f → Gathers n f cs set g → IsForest n f load dist x → Folds x cs meet set y → set ≡ n + r
    → has cs (f.top r) ≡ true → has cs c ≡ true → x.place c ≡ inner
    → potential n g y.place < potential n f x.place
folded_falls n f g load dist x y cs set meet r c lam q tree o er hr hc pc =
    let ex = tree.inner_pair c pc in
    let m0 : ℕ = ex.0 in
    let zero_at = λ (i : ℕ) (h : i < n) (k : has cs (f.top i) ≡ true). weight_outer (y.place (g.top i))
    (1 + as_number (g.live (n + i))) (ap y.place (q.top_inside i h k) ∙ o.place_set) in
    sum_less n _ _ m0 ex.2.below
    (omega (
      arith,
      zero_at m0 ex.2.below (ap (has cs) ex.2.top ∙ hc),
      weight_full (x.place (f.top m0)) (1 + as_number (f.live (n + m0)))
          (λ z. outer_inner_no z (ap x.place ex.2.top ∙ pc)),
    ))
    (λ i h. elim (cases_Bool (has cs (f.top i))) [
      | inl k ↦ omega (arith, zero_at i h k)
      | inr k ↦
          let gi : g.top i ≡ f.top i = q.top_others i h k in
          let ni : f.top i ≢ set = λ z. true_false (f.live set) (ap f.live (sym z) ∙ lam.tops.top_live i h) q.was_free in
          let li : n + i ≢ set = λ z. true_false (has cs (f.top i)) (ap (λ a. has cs (f.top a)) (let e : i ≡ r = omega (arith, z, er) in e) ∙ hr) k in
          weight_same _ _ _ _ (ap y.place gi ∙ o.place_others (f.top i) ni k) (omega (arith, ap as_number (q.live_others (n + i) li)))
    ])

pub opened_falls : (n : ℕ) (f g : Sets) (x y : Forest) (set r : ℕ) → IsLaminar n f → Releases n f set g
    → x.place set ≡ inner → f.live set ≡ true → set ≡ n + r → r < n → f.top r ≡ set
    → ((m : ℕ) → m < n → f.top m ≢ set → y.place (g.top m) ≡ x.place (f.top m))
    → potential n g y.place < potential n f x.place
opened_falls n f g x y set r lam q ps ls er hr tr same =
    let lives = λ (i : ℕ). (elim (cases_eq (n + i) set) as (λ _. as_number (g.live (n + i)) ≤ as_number (f.live (n + i))) [
      | inl z ↦ omega (arith, ap (λ a. as_number (g.live a)) z, ap as_number q.live_set)
      | inr z ↦ omega (arith, ap as_number (q.live_others (n + i) z))
    ]) in
    sum_less n _ _ r hr
    (omega (
      arith,
      weight_most (y.place (g.top r)) (1 + as_number (g.live (n + r))),
      weight_full (x.place (f.top r)) (1 + as_number (f.live (n + r))) (λ z. outer_inner_no z (ap x.place tr ∙ ps)),
      ap (λ a. as_number (g.live a)) (sym er),
      ap as_number q.live_set,
      ap (λ a. as_number (f.live a)) (sym er),
      ap as_number ls,
    ))
    (λ i h. elim (cases_eq (f.top i) set) [
      | inl z ↦ omega (
        arith,
        weight_most (y.place (g.top i)) (1 + as_number (g.live (n + i))),
        weight_full (x.place (f.top i)) (1 + as_number (f.live (n + i))) (λ a. outer_inner_no a (ap x.place z ∙ ps)),
        lives i,
      )
      | inr z ↦ weight_same _ _ _ _ (same i h z) (omega (arith, lives i))
    ])

pub potential_most : (n : ℕ) (f : Sets) (place : ℕ → Place) → potential n f place ≤ 2 * n
potential_most n f place = most n where
  one : (b : Bool) → as_number b ≤ 1
  one true = omega arith
  one false = omega arith

  most : (k : ℕ) → sum_below k (λ m. weight (place (f.top m)) (1 + as_number (f.live (n + m)))) ≤ 2 * k
  most zero = omega arith
  most (suc k) = omega (arith, most k, weight_most (place (f.top k)) (1 + as_number (f.live (n + k))), one (f.live (n + k)))
