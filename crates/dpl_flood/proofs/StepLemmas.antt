-- Steps at faces while they are listed.
use Rattle.std.proofs.Common.{arith, ◌≡◌, ◌≢◌, ℕ, zero, suc, ◌+◌, ◌<◌, ◌≤◌, ◌==◌, refl, sym, ap, ◌∙◌, subst, true, false, cond}
use Rattle.std.proofs.Common.{inl, inr, List, [], ◌∷◌, ◌++◌, length, length-append, map, eq-eqb, true≢false}
use Rattle.std.specs.Prelude.{Contains, ◌||◌}
use Rattle.std.specs.List.{range_with_len}
use Rattle.std.proofs.lemmas.Bool.{cases_eq, cases_Bool, cond-true, cond-false, ne_eqb}
use Rattle.std.proofs.Math.Path.{subst₂}
use Rattle.std.proofs.lemmas.List.{append-nil}
use Rattle.std.proofs.lemmas.List.Elements.{Contains-push_cases, Contains-push, Contains-append_left, All-append, All-cons, All-nil}
use Rattle.dpl_list.specs.Rows.{of_key, rows_by}
use Rattle.dpl_list.proofs.Grouping.{of_key_yes, of_key_no}
use Rattle.dpl_list.proofs.Lists.{none_in}
use Rattle.dpl_dual.specs.declared.crosses.Cross.{Cross}
use Rattle.dpl_dual.specs.Chains.{IsAt, beyond}
use Rattle.dpl_dual.specs.Duals.{way_at}
use Rattle.dpl_flood.specs.declared.ways.Step.{Step}
use Rattle.dpl_flood.specs.Steps.{leaves, step_over, steps_below, steps_of, step_rows, IsStepFrom, AreListed}

leaves_first : (x : Cross) (f : ℕ) → x.f ≡ f → x.f ≢ x.g → leaves x f ≡ true
leaves_first x f e n = rw (eq-eqb x.f f e, ne_eqb x.f x.g n) refl

leaves_second : (x : Cross) (f : ℕ) → x.f ≢ f → x.g ≡ f → x.f ≢ x.g → leaves x f ≡ true
leaves_second x f m e n = rw (ne_eqb x.f f m, eq-eqb x.g f e, ne_eqb x.f x.g n) refl

leaves_not : (x : Cross) (f : ℕ) → x.f ≢ f → x.g ≢ f → leaves x f ≡ false
leaves_not x f m n = rw (ne_eqb x.f f m, ne_eqb x.g f n) refl

leaves_loop : (x : Cross) (f : ℕ) → x.f ≡ x.g → leaves x f ≡ false
leaves_loop x f e = elim (cases_Bool (x.f == f || x.g == f)) [
  | inl t ↦ rw (t, eq-eqb x.f x.g e) refl
  | inr t ↦ rw t refl
]

-- ---- what the steps of a face are

-- one step more, or none
more_yes : (ways : List Cross) (f w : ℕ) → leaves (way_at ways w) f ≡ true → steps_below ways f (w + 1) ≡ steps_below ways f w ++ step_over ways f w ∷ []
more_yes ways f w t =
    let next : w + 1 ≡ suc w = omega arith in
    ap (steps_below ways f) next ∙ ap (λ z. steps_below ways f w ++ z) (cond-true (leaves (way_at ways w) f) (step_over ways f w ∷ []) [] t)

more_no : (ways : List Cross) (f w : ℕ) → leaves (way_at ways w) f ≡ false → steps_below ways f (w + 1) ≡ steps_below ways f w
more_no ways f w t =
    let next : w + 1 ≡ suc w = omega arith in
    ap (steps_below ways f) next ∙ ap (λ z. steps_below ways f w ++ z) (cond-false (leaves (way_at ways w) f) (step_over ways f w ∷ []) [] t) ∙ append-nil (steps_below ways f w)

-- a way at a face that leads to another one has its step
pub each_below : (ways : List Cross) (f w n : ℕ) → w < n → IsAt (way_at ways w) f → (way_at ways w).f ≢ (way_at ways w).g → Contains (steps_below ways f n) (step_over ways f w)
each_below ways f w zero h at ne = absurd (omega (arith, h))
each_below ways f w (suc n) h at ne = elim (cases_eq w n) [
  | inl e ↦
      let x : Cross = way_at ways w in
      let yes : leaves x f ≡ true = elim (cases_eq x.f f) [
        | inl a ↦ leaves_first x f a ne
        | inr a ↦ leaves_second x f a (elim at [ inl b ↦ absurd (a b) | inr b ↦ b ]) ne
      ] in
      let is : steps_below ways f (suc w) ≡ steps_below ways f w ++ step_over ways f w ∷ [] =
      ap (λ z. steps_below ways f w ++ z) (cond-true (leaves x f) (step_over ways f w ∷ []) [] yes) in
      subst (λ k. Contains (steps_below ways f (suc k)) (step_over ways f w)) e
      (subst (λ z. Contains z (step_over ways f w)) (sym is) (Contains-push (steps_below ways f w) (step_over ways f w)))
  | inr m ↦ Contains-append_left (steps_below ways f n) (cond (leaves (way_at ways n) f) (step_over ways f n ∷ []) []) (step_over ways f w)
      (each_below ways f w n (omega (arith, h, m)) at ne)
]

-- where it leaves a face the face is one of its two, and the other one is another
leaves_is : (x : Cross) (f : ℕ) → leaves x f ≡ true → IsAt x f × (beyond x f ≢ f)
leaves_is x f t = elim (cases_eq x.f f) [
  | inl a ↦
      let ne : x.f ≢ x.g = λ q. absurd (wrong (leaves_loop x f q)) in
      (inl a, λ q. ne (a ∙ sym q ∙ cond-true (x.f == f) x.g x.f (eq-eqb x.f f a)))
  | inr a ↦ elim (cases_eq x.g f) [
    | inl b ↦ (inr b, λ q. a (sym (cond-false (x.f == f) x.g x.f (ne_eqb x.f f a)) ∙ q))
    | inr b ↦ absurd (wrong (leaves_not x f a b))
  ]
] where
  wrong : leaves x f ≡ false → ⊥
  wrong q = true≢false (sym t ∙ q)

-- each step is over such a way
pub only_below : (ways : List Cross) (f : ℕ) (y : Step) (n : ℕ) → n ≤ length ways → Contains (steps_below ways f n) y → IsStepFrom ways f y
only_below ways f y zero h c = none_in y c
only_below ways f y (suc n) h c = elim (cases_Bool (leaves (way_at ways n) f)) [
  | inl t ↦
      let P : List Step → Type 0 = λ z. Contains (steps_below ways f n ++ z) y in
      let q = leaves_is (way_at ways n) f t in
      elim (Contains-push_cases (steps_below ways f n) (step_over ways f n) y (subst P (cond-true (leaves (way_at ways n) f) (step_over ways f n ∷ []) [] t) c)) [
        | inl a ↦ only_below ways f y n (omega (arith, h)) a
        | inr a ↦ subst (IsStepFrom ways f) a (record { inside = omega (arith, h); at = q.0; to = refl; other = q.1 })
      ]
  | inr t ↦
      let P : List Step → Type 0 = λ z. Contains (steps_below ways f n ++ z) y in
      only_below ways f y n (omega (arith, h)) (subst (λ z. Contains z y) (append-nil (steps_below ways f n)) (subst P (cond-false (leaves (way_at ways n) f) (step_over ways f n ∷ []) [] t) c))
]

-- ---- two steps are listed for each way between two faces

-- before the first way nothing is listed
pub none_listed : (faces : ℕ) (ways : List Cross) → AreListed faces ways 0 [] []
none_listed faces ways = record {
  sizes = refl;
  below = All-nil (λ k. k < faces);
  each = λ f. refl;
}

-- a way from a face to itself has no step
pub loop_listed : (faces w : ℕ) (ways : List Cross) (keys : List ℕ) (steps : List Step) → AreListed faces ways w keys steps
    → (way_at ways w).f ≡ (way_at ways w).g → AreListed faces ways (w + 1) keys steps
loop_listed faces w ways keys steps p e = record {
  sizes = p.sizes;
  below = p.below;
  each = λ f. p.each f ∙ sym (more_no ways f w (leaves_loop (way_at ways w) f e));
}

-- a way between two faces has two
pub two_listed : (faces w : ℕ) (ways : List Cross) (keys : List ℕ) (steps : List Step) → AreListed faces ways w keys steps
    → (way_at ways w).f ≢ (way_at ways w).g → (way_at ways w).f < faces → (way_at ways w).g < faces
    → AreListed faces ways (w + 1) ((keys ++ (way_at ways w).f ∷ []) ++ (way_at ways w).g ∷ [])
    ((steps ++ record { to = (way_at ways w).g; way = w } ∷ []) ++ record { to = (way_at ways w).f; way = w } ∷ [])
two_listed faces w ways keys steps p n hf hg =
    let x : Cross = way_at ways w in
    let to_g : Step = record { to = x.g; way = w } in
    let to_f : Step = record { to = x.f; way = w } in
    let one : length (keys ++ x.f ∷ []) ≡ length (steps ++ to_g ∷ []) = omega (arith, p.sizes, length-append keys (x.f ∷ []), length-append steps (to_g ∷ [])) in
    record {
      sizes = omega (arith, one, length-append (keys ++ x.f ∷ []) (x.g ∷ []), length-append (steps ++ to_g ∷ []) (to_f ∷ []));
      below = All-append (λ k. k < faces) (keys ++ x.f ∷ []) (x.g ∷ [])
          (All-append (λ k. k < faces) keys (x.f ∷ []) p.below (All-cons (λ k. k < faces) x.f [] hf (All-nil (λ k. k < faces))))
          (All-cons (λ k. k < faces) x.g [] hg (All-nil (λ k. k < faces)));
      each = λ f. elim (cases_eq x.f f) [
        | inl e ↦
            let is : step_over ways f w ≡ to_g = ap (λ z. record { to = z; way = w }) (cond-true (x.f == f) x.g x.f (eq-eqb x.f f e)) in
            of_key_no f x.g to_f (keys ++ x.f ∷ []) (steps ++ to_g ∷ []) one (λ q. n (e ∙ sym q))
            ∙ of_key_yes f x.f to_g keys steps p.sizes e
            ∙ ap (λ z. z ++ to_g ∷ []) (p.each f) ∙ ap (λ z. steps_below ways f w ++ z ∷ []) (sym is)
            ∙ sym (more_yes ways f w (leaves_first x f e n))
        | inr m ↦ elim (cases_eq x.g f) [
          | inl e ↦
              let is : step_over ways f w ≡ to_f = ap (λ z. record { to = z; way = w }) (cond-false (x.f == f) x.g x.f (ne_eqb x.f f m)) in
              of_key_yes f x.g to_f (keys ++ x.f ∷ []) (steps ++ to_g ∷ []) one e
              ∙ ap (λ z. z ++ to_f ∷ []) (of_key_no f x.f to_g keys steps p.sizes m ∙ p.each f) ∙ ap (λ z. steps_below ways f w ++ z ∷ []) (sym is)
              ∙ sym (more_yes ways f w (leaves_second x f m e n))
          | inr k ↦ of_key_no f x.g to_f (keys ++ x.f ∷ []) (steps ++ to_g ∷ []) one k
              ∙ of_key_no f x.f to_g keys steps p.sizes m ∙ p.each f ∙ sym (more_no ways f w (leaves_not x f m k))
        ]
      ];
    }

map_same : {X : Type 0} (F G : ℕ → X) (xs : List ℕ) → ((f : ℕ) → F f ≡ G f) → map F xs ≡ map G xs
map_same F G [] h = refl
map_same F G (x ∷ xs) h = ap (λ z. z ∷ map F xs) (h x) ∙ ap (λ z. G x ∷ z) (map_same F G xs h)

-- after the last way all steps are listed
pub all_listed : (faces w : ℕ) (ways : List Cross) (keys : List ℕ) (steps : List Step) → AreListed faces ways w keys steps → length ways ≡ w
    → rows_by keys steps faces ≡ step_rows ways faces
all_listed faces w ways keys steps p e = map_same (λ k. of_key k keys steps) (steps_of ways) (range_with_len 0 faces)
    (λ f. p.each f ∙ ap (steps_below ways f) (sym e))

-- the same for lists that grew by one item after another
pub two_added : (faces w : ℕ) (ways : List Cross) (keys keys1 keys2 : List ℕ) (steps steps1 steps2 : List Step) (x : Cross) → x ≡ way_at ways w
    → x.f ≢ x.g → x.f < faces → x.g < faces → AreListed faces ways w keys steps
    → keys1 ≡ keys ++ x.f ∷ [] → steps1 ≡ steps ++ record { to = x.g; way = w } ∷ [] → keys2 ≡ keys1 ++ x.g ∷ [] → steps2 ≡ steps1 ++ record { to = x.f; way = w } ∷ []
    → AreListed faces ways (w + 1) keys2 steps2
two_added faces w ways keys keys1 keys2 steps steps1 steps2 x e n hf hg p k1 s1 k2 s2 =
    let To : ℕ → Step = λ z. record { to = z; way = w } in
    let y : Cross = way_at ways w in
    let ef : x.f ≡ y.f = ap (λ z. z.f) e in
    let eg : x.g ≡ y.g = ap (λ z. z.g) e in
    let k : keys2 ≡ (keys ++ y.f ∷ []) ++ y.g ∷ [] = k2 ∙ ap (λ z. z ++ x.g ∷ []) (k1 ∙ ap (λ z. keys ++ z ∷ []) ef) ∙ ap (λ z. (keys ++ y.f ∷ []) ++ z ∷ []) eg in
    let s : steps2 ≡ (steps ++ To y.g ∷ []) ++ To y.f ∷ [] = s2 ∙ ap (λ z. z ++ To x.f ∷ []) (s1 ∙ ap (λ z. steps ++ To z ∷ []) eg) ∙ ap (λ z. (steps ++ To y.g ∷ []) ++ To z ∷ []) ef in
    subst₂ (AreListed faces ways (w + 1)) (sym k) (sym s)
    (two_listed faces w ways keys steps p (λ q. n (ef ∙ q ∙ sym eg)) (omega (arith, hf, ef)) (omega (arith, hg, eg)))
