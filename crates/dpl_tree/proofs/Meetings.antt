-- Two ways up to where they meet.
use Rattle.std.proofs.Common.{arith, ◌≡◌, ◌≢◌, ℕ, zero, suc, ◌+◌, ◌*◌, ◌%◌, ◌<◌, ◌≤◌, ◌⊎◌, refl, sym, ap, ◌∙◌, subst}
use Rattle.std.proofs.Common.{Bool, true, false, cond, inl, inr, eqb, eq-eqb, ◌||◌, Some, List, [], ◌∷◌, ◌++◌, map, reverse}
use Rattle.std.proofs.Common.{length, get_or}
use Rattle.std.proofs.lemmas.Bool.{cases_eq, cases_lt, ne_eqb, cond-true, cond-false}
use Rattle.std.proofs.lemmas.List.{map-append, reverse-append, length-append, length-map, length-reverse, get_or-map, length_push}
use Rattle.std.proofs.lemmas.List.Folds.{list_any-append}
use Rattle.std.proofs.lemmas.List.Sorted.{list_any-IsPermutation, IsPermutation-reverse}
use Rattle.std.proofs.Math.Nat.{mod_self, mod-eq_of_lt}
use Rattle.dpl_laminar.specs.Families.{Sets, has, IsTie, next_in}
use Rattle.dpl_laminar.specs.Changes.{AreTops}
use Rattle.dpl_laminar.proofs.Numbers.{has_head, has_tail}
use Rattle.dpl_tree.specs.steps.Forests.{outer, inner, Forest, IsCycle}
use Rattle.dpl_tree.specs.Mates.{IsExit, loads}
use Rattle.dpl_tree.specs.Metrics.{AreSymmetric}
use Rattle.dpl_tree.specs.Stages.{IsStage}
use Rattle.dpl_tree.specs.steps.Joins.{IsWay, times_in, tops_from, tops_to, is_end, AreGathered, met_on, AreClimbing, ways}
use Rattle.dpl_tree.proofs.Growing.{place_cases, outer_in, inner_in, outer_inner_no, exit_one, exit_back}
use Rattle.dpl_tree.proofs.Events.{higher_pair}
use Rattle.dpl_tree.proofs.Ways.{load_turned}

abbrev pub one_if : ℕ → ℕ → ℕ
one_if x c = cond (eqb x c) 1 0

-- ---- how often

-- how often a number stands in two lists
pub times_append : (xs ys : List ℕ) (c : ℕ) → times_in (xs ++ ys) c ≡ times_in xs c + times_in ys c
times_append [] ys c = omega arith
times_append (x ∷ xs) ys c = omega (arith, times_append xs ys c)

bit_most : (x c : ℕ) → cond (eqb x c) 1 0 ≤ 1
bit_most x c = from (eqb x c) where
  from : (b : Bool) → cond b 1 0 ≤ 1
  from true = omega arith
  from false = omega arith

-- a number stands once for itself
pub bit_one : (x c : ℕ) → x ≡ c → one_if x c ≡ 1
bit_one x c e = cond-true {A = ℕ} (eqb x c) 1 0 (eq-eqb x c e)

-- and not for another one
pub bit_none : (x c : ℕ) → x ≢ c → one_if x c ≡ 0
bit_none x c ne = cond-false {A = ℕ} (eqb x c) 1 0 (ne_eqb x c ne)

-- a number that stands in a list is counted
pub times_has : (xs : List ℕ) (c : ℕ) → has xs c ≡ true → 0 < times_in xs c
times_has [] c h = let bad : false ≡ true = h in cc
times_has (x ∷ xs) c h = elim (cases_eq x c) [
  | inl e ↦ omega (arith, bit_one x c e)
  | inr ne ↦ omega (arith, times_has xs c (sym (has_tail x c xs ne) ∙ h))
]

-- a number that is counted stands in the list
pub has_times : (xs : List ℕ) (c : ℕ) → 0 < times_in xs c → has xs c ≡ true
has_times [] c h = absurd (omega (arith, h))
has_times (x ∷ xs) c h = elim (cases_eq x c) [
  | inl e ↦ has_head x c xs e
  | inr ne ↦ has_tail x c xs ne ∙ has_times xs c (omega (arith, h, bit_none x c ne))
]

times_at : (xs : List ℕ) (i : ℕ) → i < length xs → 0 < times_in xs (get_or xs i 0)
times_at [] i h = absurd (omega (arith, h))
times_at (x ∷ xs) zero h = omega (arith, bit_one x x refl)
times_at (x ∷ xs) (suc i) h = omega (arith, times_at xs i (omega (arith, h)))

-- what stands at most once stands at one place
pub once_apart : (xs : List ℕ) → ((c : ℕ) → times_in xs c ≤ 1) → (i j : ℕ) → i < j → j < length xs → get_or xs i 0 ≢ get_or xs j 0
once_apart [] once i j h l e = omega (arith, l)
once_apart (x ∷ xs) once i zero h l e = omega (arith, h)
once_apart (x ∷ xs) once zero (suc j) h l e = omega (arith, once (get_or xs j 0), bit_one x (get_or xs j 0) e, times_at xs j (omega (arith, l)))
once_apart (x ∷ xs) once (suc i) (suc j) h l e = once_apart xs (λ c. omega (arith, once c)) i j (omega (arith, h)) (omega (arith, l)) e

-- ---- ways

-- two ways that meet are one
pub way_append : (n : ℕ) (f : Sets) (dist : ℕ → ℕ → ℕ) (a b c : ℕ) (xs ys : List (ℕ × ℕ))
    → IsWay n f dist a xs b → IsWay n f dist b ys c → IsWay n f dist a (xs ++ ys) c
way_append n f dist a b c [] ys p q = subst (λ (z : ℕ). IsWay n f dist z ys c) (sym p) q
way_append n f dist a b c (x ∷ xs) ys p q = (p.0, p.1, p.2, p.3, way_append n f dist (f.top x.1) b c xs ys p.4 q)

-- the tops that a way leads from, with its end, are its start with those that it leads to
pub way_times : (n : ℕ) (f : Sets) (dist : ℕ → ℕ → ℕ) (a b : ℕ) (xs : List (ℕ × ℕ)) (c : ℕ)
    → IsWay n f dist a xs b
    → times_in (tops_from f xs) c + cond (eqb b c) 1 0 ≡ cond (eqb a c) 1 0 + times_in (tops_to f xs) c
way_times n f dist a b [] c p = omega (arith, ap (λ z. one_if z c) p)
way_times n f dist a b (x ∷ xs) c p = omega (arith, ap (λ z. one_if z c) p.2, way_times n f dist (f.top x.1) b xs c p.4)

-- a way begins at its first top
pub way_first : (n : ℕ) (f : Sets) (dist : ℕ → ℕ → ℕ) (a b : ℕ) (xs : List (ℕ × ℕ)) → IsWay n f dist a xs b
    → 0 < length xs → f.top (get_or xs 0 (0, 0)).0 ≡ a
way_first n f dist a b [] p h = absurd (omega (arith, h))
way_first n f dist a b (x ∷ xs) p h = p.2

-- each join leads to the top that the next one leads from
pub way_next : (n : ℕ) (f : Sets) (dist : ℕ → ℕ → ℕ) (a b i : ℕ) (xs : List (ℕ × ℕ)) → IsWay n f dist a xs b
    → suc i < length xs → f.top (get_or xs i (0, 0)).1 ≡ f.top (get_or xs (suc i) (0, 0)).0
way_next n f dist a b i [] p h = absurd (omega (arith, h))
way_next n f dist a b zero (x ∷ xs) p h = sym (way_first n f dist (f.top x.1) b xs p.4 (omega (arith, h)))
way_next n f dist a b (suc i) (x ∷ xs) p h = way_next n f dist (f.top x.1) b i xs p.4 (omega (arith, h))

-- a way ends at its last top
pub way_last : (n : ℕ) (f : Sets) (dist : ℕ → ℕ → ℕ) (a b i : ℕ) (xs : List (ℕ × ℕ)) → IsWay n f dist a xs b
    → i + 1 ≡ length xs → f.top (get_or xs i (0, 0)).1 ≡ b
way_last n f dist a b i [] p h = absurd (omega (arith, h))
way_last n f dist a b zero (x ∷ []) p h = p.4
way_last n f dist a b zero (x ∷ y ∷ xs) p h = absurd (omega (arith, h))
way_last n f dist a b (suc i) (x ∷ xs) p h = way_last n f dist (f.top x.1) b i xs p.4 (omega (arith, h))

-- what holds of each join
pub record IsStep (n : ℕ) (load dist : ℕ → ℕ → ℕ) (j : ℕ × ℕ) : Type 0 where
  pub from : j.0 < n
  pub to : j.1 < n
  pub tight : load j.0 j.1 ≡ dist j.0 j.1

-- each join of a way is tight
pub way_step : (n : ℕ) (f : Sets) (dist : ℕ → ℕ → ℕ) (a b i : ℕ) (xs : List (ℕ × ℕ)) → IsWay n f dist a xs b
    → i < length xs → IsStep n (loads n f) dist (get_or xs i (0, 0))
way_step n f dist a b i [] p h = absurd (omega (arith, h))
way_step n f dist a b zero (x ∷ xs) p h = record { from = p.0; to = p.1; tight = p.3 }
way_step n f dist a b (suc i) (x ∷ xs) p h = way_step n f dist (f.top x.1) b i xs p.4 (omega (arith, h))

-- ---- one step up

-- the two ends of the ways are alike
pub gathered_turned : (n : ℕ) (f : Sets) (x : Forest) (a b : ℕ) (met : ℕ → ℕ) → AreGathered n f x a b met → AreGathered n f x b a met
gathered_turned n f x a b met g = record {
  a_outer = g.b_outer;
  b_outer = g.a_outer;
  level = sym g.level;
  same = λ c h. g.same c h ∙ g.level;
  once = g.once;
  in_tree = g.in_tree;
  above = λ c h e. let w = g.above c h e in (w.1, w.0, w.3, w.2);
  ranks = λ c h. elim (g.ranks c h) [
    | inl z ↦ inr z
    | inr z ↦ inl z
  ];
  closed = g.closed;
}

-- the step from the outer set a over its pair (m, t)
pub gathered_more : (n : ℕ) (f : Sets) (dist : ℕ → ℕ → ℕ) (x : Forest) (a b m t : ℕ) (met new : ℕ → ℕ)
    → IsStage n f dist x → AreGathered n f x a b met → a ≢ b → x.rank b ≤ x.rank a → IsExit n f x.mate a m t
    → ((c : ℕ) → new c ≡ met c + (cond (eqb a c) 1 0 + cond (eqb (f.top t) c) 1 0))
    → AreGathered n f x (f.top (x.above (f.top t))) b new
gathered_more n f dist x a b m t met new st g ne low ex e =
    let tree = st.tree in
    let pairs = st.rest.pairs in
    let i : ℕ = f.top t in
    let up : ℕ = f.top (x.above i) in
    let o = tree.outer_mate a m t g.a_outer ex in
    let back = exit_back n f (loads n f) dist x.mate pairs a m t ex in
    let r1 : x.rank up < x.rank i = tree.link_rank i o.0 in
    let r2 : x.rank i < x.rank a = o.1 in
    let ai : a ≢ i = λ z. outer_inner_no g.a_outer (ap x.place z ∙ o.0) in
    let a_new : met a ≡ 0 = elim (cases_lt 0 (met a)) [
      | inl h ↦ absurd ((g.above a h g.a_outer).2 refl)
      | inr h ↦ omega (arith, h)
    ] in
    let i_new : met i ≡ 0 = elim (cases_lt 0 (met i)) [
      | inl h ↦ absurd (omega (arith, a_new, g.closed i t m h back, ap met ex.top))
      | inr h ↦ omega (arith, h)
    ] in
    -- a set that is met is an old one, or one of the two
    let cases = λ (c : ℕ) (h : 0 < new c). (elim (cases_eq a c) as (λ _. (0 < met c) ⊎ ((a ≡ c) ⊎ (i ≡ c))) [
      | inl z ↦ inr (inl z)
      | inr z ↦ elim (cases_eq i c) [
        | inl y ↦ inr (inr y)
        | inr y ↦ inl (omega (arith, h, e c, bit_none a c z, bit_none i c y))
      ]
    ]) in
    let old = λ (c : ℕ) (h : 0 < met c). let q : 0 < new c = omega (arith, h, e c) in q in
    let link = tree.link_outer i o.0 in
    let number : x.tree up ≡ x.tree a = link.1 ∙ o.2 in
    record {
      a_outer = link.0;
      b_outer = g.b_outer;
      level = number ∙ g.level;
      same = λ c h. elim (cases c h) [
        | inl z ↦ g.same c z ∙ sym number
        | inr (inl z) ↦ ap x.tree (sym z) ∙ sym number
        | inr (inr z) ↦ ap x.tree (sym z) ∙ sym link.1
      ];
      once = λ c. elim (cases_eq a c) [
        | inl z ↦ omega (arith, e c, bit_one a c z, bit_none i c (λ y. ai (z ∙ sym y)), ap met z, a_new)
        | inr z ↦ elim (cases_eq i c) [
          | inl y ↦ omega (arith, e c, bit_none a c z, bit_one i c y, ap met y, i_new)
          | inr y ↦ omega (arith, e c, bit_none a c z, bit_none i c y, g.once c)
        ]
      ];
      in_tree = λ c h. elim (cases c h) [
        | inl z ↦ g.in_tree c z
        | inr (inl z) ↦ outer_in (ap x.place (sym z) ∙ g.a_outer)
        | inr (inr z) ↦ inner_in (ap x.place (sym z) ∙ o.0)
      ];
      above = λ c h p. elim (cases c h) [
        | inl z ↦ let w = g.above c z p in (omega (arith, r1, r2, w.0), w.1, (λ y. omega (arith, r1, r2, w.0, ap x.rank y)), w.3)
        | inr (inl z) ↦ (
          omega (arith, r1, r2, ap x.rank z),
          omega (arith, low, ap x.rank z),
          (λ y. omega (arith, r1, r2, ap x.rank (z ∙ y))),
          (λ y. ne (z ∙ y)),
        )
        | inr (inr z) ↦ outer_inner_no p (ap x.place (sym z) ∙ o.0)
      ];
      ranks = λ c h. elim (cases c h) [
        | inl z ↦ elim (g.ranks c z) [
          | inl w ↦ inl (omega (arith, r1, r2, w))
          | inr w ↦ inr w
        ]
        | inr (inl z) ↦ inl (omega (arith, r1, r2, ap x.rank z))
        | inr (inr z) ↦ inl (omega (arith, r1, ap x.rank z))
      ];
      closed = λ c p q h w. elim (cases c h) [
        | inl z ↦ old (f.top q) (g.closed c p q z w)
        | inr (inl z) ↦
            let one = exit_one n f (loads n f) dist x.mate pairs c p q m t w (record { below = ex.below; top = ex.top ∙ z; paired = ex.paired }) in
            omega (arith, e (f.top q), bit_one i (f.top q) (ap f.top (sym one.1)))
        | inr (inr z) ↦
            let one = exit_one n f (loads n f) dist x.mate pairs c p q t m w (record { below = back.below; top = z; paired = back.paired }) in
            omega (arith, e (f.top q), bit_one a (f.top q) (sym ex.top ∙ ap f.top (sym one.1)))
      ];
    }

-- ---- ends of joins

or_left : (a b : Bool) → a ≡ true → (a || b) ≡ true
or_left a b e = ap (λ z. z || b) e

or_right : (a b : Bool) → b ≡ true → (a || b) ≡ true
or_right true b e = refl
or_right false b e = e

or_cases : (a b : Bool) → (a || b) ≡ true → (a ≡ true) ⊎ (b ≡ true)
or_cases true b e = inl refl
or_cases false b e = inr e

abbrev ends_at : ℕ → ℕ × ℕ → Bool
ends_at m j = eqb j.0 m || eqb j.1 m

ends_append : (xs ys : List (ℕ × ℕ)) (m : ℕ) → is_end (xs ++ ys) m ≡ (is_end xs m || is_end ys m)
ends_append xs ys m = list_any-append (ends_at m) xs ys

ends_kept : (xs ys : List (ℕ × ℕ)) (m : ℕ) → is_end xs m ≡ true → is_end (xs ++ ys) m ≡ true
ends_kept xs ys m e = ends_append xs ys m ∙ or_left (is_end xs m) (is_end ys m) e

ends_added : (xs ys : List (ℕ × ℕ)) (m : ℕ) → is_end ys m ≡ true → is_end (xs ++ ys) m ≡ true
ends_added xs ys m e = ends_append xs ys m ∙ or_right (is_end xs m) (is_end ys m) e

ends_reversed : (xs : List (ℕ × ℕ)) (m : ℕ) → is_end xs m ≡ true → is_end (reverse xs) m ≡ true
ends_reversed xs m e = sym (list_any-IsPermutation (ends_at m) xs (reverse xs) (IsPermutation-reverse xs)) ∙ e

-- the ends of a join that is put behind others, with one more after it
ends_first : (xs : List (ℕ × ℕ)) (y z : ℕ × ℕ) (m : ℕ) → y.0 ≡ m → is_end ((xs ++ y ∷ []) ++ z ∷ []) m ≡ true
ends_first xs y z m e = ends_kept (xs ++ y ∷ []) (z ∷ []) m (ends_added xs (y ∷ []) m
    (or_left (ends_at m y) false (or_left (eqb y.0 m) (eqb y.1 m) (eq-eqb y.0 m e))))

ends_second : (xs : List (ℕ × ℕ)) (y z : ℕ × ℕ) (m : ℕ) → y.1 ≡ m → is_end ((xs ++ y ∷ []) ++ z ∷ []) m ≡ true
ends_second xs y z m e = ends_kept (xs ++ y ∷ []) (z ∷ []) m (ends_added xs (y ∷ []) m
    (or_left (ends_at m y) false (or_right (eqb y.0 m) (eqb y.1 m) (eq-eqb y.1 m e))))

-- a member with a mate in a set that was met stands in the pair of the last step, or in a set met before
step_ends : (n : ℕ) (f : Sets) (dist : ℕ → ℕ → ℕ) (x : Forest) (a m u : ℕ) (met new : ℕ → ℕ) (p q : ℕ)
    → IsStage n f dist x → IsExit n f x.mate a m u
    → ((c : ℕ) → new c ≡ met c + (cond (eqb a c) 1 0 + cond (eqb (f.top u) c) 1 0))
    → p < n → x.mate p ≡ Some q → 0 < new (f.top p)
    → (0 < met (f.top p)) ⊎ ((m ≡ p) ⊎ (u ≡ p))
step_ends n f dist x a m u met new p q st ex e hp paired h =
    let pairs = st.rest.pairs in
    let back = exit_back n f (loads n f) dist x.mate pairs a m u ex in
    elim (cases_eq a (f.top p)) [
      | inl z ↦ inr (inl (exit_one n f (loads n f) dist x.mate pairs a m u p q ex (record { below = hp; top = sym z; paired = paired })).0)
      | inr z ↦ elim (cases_eq (f.top u) (f.top p)) [
        | inl y ↦ inr (inr (exit_one n f (loads n f) dist x.mate pairs (f.top u) u m p q back
            (record { below = hp; top = sym y; paired = paired })).0)
        | inr y ↦ inl (omega (arith, h, e (f.top p), bit_none a (f.top p) z, bit_none (f.top u) (f.top p) y))
      ]
    ]

-- ---- a turn of the climb

reverse_push : (xs : List (ℕ × ℕ)) (y : ℕ × ℕ) → reverse (xs ++ y ∷ []) ≡ y ∷ reverse xs
reverse_push xs y = reverse-append xs (y ∷ [])

times_two : (f : Sets) (g : ℕ × ℕ → ℕ) (xs : List (ℕ × ℕ)) (y z : ℕ × ℕ) (a i c : ℕ) → g y ≡ a → g z ≡ i
    → times_in (map g ((xs ++ y ∷ []) ++ z ∷ [])) c ≡ times_in (map g xs) c + (cond (eqb a c) 1 0 + cond (eqb i c) 1 0)
times_two f g xs y z a i c ey ez =
    let e1 : times_in (map g ((xs ++ y ∷ []) ++ z ∷ [])) c ≡ times_in (map g (xs ++ y ∷ [])) c + times_in
    (map g (z ∷ [])) c = ap (λ w. times_in w c) (map-append g (xs ++ y ∷ []) (z ∷ [])) ∙
    times_append (map g (xs ++ y ∷ [])) (map g (z ∷ [])) c in
    let e2 : times_in (map g (xs ++ y ∷ [])) c ≡ times_in (map g xs) c + times_in (map g (y ∷ [])) c =
    ap (λ w. times_in w c) (map-append g xs (y ∷ [])) ∙ times_append (map g xs) (map g (y ∷ [])) c in
    let y1 : times_in (map g (y ∷ [])) c ≡ cond (eqb a c) 1 0 + 0 = ap (λ w. cond (eqb w c) 1 0 + 0) ey in
    let z1 : times_in (map g (z ∷ [])) c ≡ cond (eqb i c) 1 0 + 0 = ap (λ w. cond (eqb w c) 1 0 + 0) ez in
    omega (arith, e1, e2, y1, z1)

push_length : (xs : List (ℕ × ℕ)) (y z : ℕ × ℕ) → length ((xs ++ y ∷ []) ++ z ∷ []) ≡ length xs + 2
push_length xs y z = omega (arith, length_push (xs ++ y ∷ []) z, length_push xs y)

-- what stands around one step up
pub record IsStepUp (n : ℕ) (f : Sets) (dist : ℕ → ℕ → ℕ) (x : Forest) (a m t : ℕ) : Type 0 where
  pub mate_in : f.top t < 2 * n
  pub hm : m < n
  pub ht : t < n
  pub ha : x.above (f.top t) < n
  pub he : x.entry (f.top t) < n
  pub entry : f.top (x.entry (f.top t)) ≡ f.top t
  pub tight_pair : loads n f m t ≡ dist m t
  pub tight_link : loads n f (x.above (f.top t)) (x.entry (f.top t)) ≡ dist (x.above (f.top t)) (x.entry (f.top t))

-- the step up from an outer set over its pair
pub step_of : (n : ℕ) (f : Sets) (dist : ℕ → ℕ → ℕ) (x : Forest) (a m t : ℕ) → IsStage n f dist x
    → x.place a ≡ outer → IsExit n f x.mate a m t → IsStepUp n f dist x a m t
step_of n f dist x a m t st pa ex =
    let o = st.tree.outer_mate a m t pa ex in
    let ht : t < n = st.rest.pairs.range m t ex.below ex.paired in
    record {
      mate_in = st.rest.laminar.tops.top_range t ht;
      hm = ex.below;
      ht = ht;
      ha = (st.tree.link_range (f.top t) o.0).0;
      he = (st.tree.link_range (f.top t) o.0).1;
      entry = st.tree.link_entry (f.top t) o.0;
      tight_pair = st.rest.pairs.tight m t ex.below ex.paired;
      tight_link = st.tree.link_tight (f.top t) o.0;
    }

-- the left way goes one step on
pub climbing_left : (n : ℕ) (f : Sets) (dist : ℕ → ℕ → ℕ) (x : Forest) (s t : ℕ) (left right : List (ℕ × ℕ)) (a b m u : ℕ)
    → AreSymmetric n dist → IsStage n f dist x → AreClimbing n f dist x (s, t) (ways left right a b) → a ≢ b
    → x.rank b ≤ x.rank a → IsExit n f x.mate a m u
    → AreClimbing n f dist x (s, t) (ways ((left ++ (u, m) ∷ []) ++ (x.above (f.top u), x.entry (f.top u)) ∷ []) right (f.top (x.above (f.top u))) b)
climbing_left n f dist x s t left right a b m u me st c ne low ex =
    let w = step_of n f dist x a m u st c.sets.a_outer ex in
    let i : ℕ = f.top u in
    let link : ℕ × ℕ = (x.above i, x.entry i) in
    let e : reverse ((left ++ (u, m) ∷ []) ++ link ∷ []) ≡ link ∷ (u, m) ∷ reverse left =
    reverse_push (left ++ (u, m) ∷ []) link ∙ ap (λ z. link ∷ z) (reverse_push left (u, m)) in
    let tight : loads n f u m ≡ dist u m = load_turned n f u m ∙ w.tight_pair ∙ me m u w.hm w.ht in
    let rest : IsWay n f dist (f.top m) (reverse left) (f.top s) =
    subst (λ (z : ℕ). IsWay n f dist z (reverse left) (f.top s)) (sym ex.top) c.way_left in
    let way : IsWay n f dist (f.top (x.above i)) (link ∷ (u, m) ∷ reverse left) (f.top s) =
    (w.ha, w.he, refl, w.tight_link, (w.ht, w.hm, sym w.entry, tight, rest)) in
    let longer : List (ℕ × ℕ) = (left ++ (u, m) ∷ []) ++ link ∷ [] in
    let more : (k : ℕ) → met_on f longer right k ≡ met_on f left right k + (cond (eqb a k) 1 0 + cond (eqb i k) 1 0) =
    λ k. omega (arith, times_two f (λ j. f.top j.1) left (u, m) link a i k ex.top w.entry) in
    record {
      way_left = subst (λ (z : List (ℕ × ℕ)). IsWay n f dist (f.top (x.above i)) z (f.top s)) (sym e) way;
      way_right = c.way_right;
      sets = gathered_more n f dist x a b m u (met_on f left right) _ st c.sets ne low ex more;
      even = omega (arith, c.even, push_length left (u, m) link);
      ends = λ p q hp paired h.
          elim (step_ends n f dist x a m u (met_on f left right) (met_on f longer right) p q st ex more hp paired h) [
            | inl old ↦ elim (or_cases (is_end left p) (is_end right p) (c.ends p q hp paired old)) [
              | inl z ↦ or_left (is_end longer p) (is_end right p)
                  (ends_kept (left ++ (u, m) ∷ []) (link ∷ []) p (ends_kept left ((u, m) ∷ []) p z))
              | inr z ↦ or_right (is_end longer p) (is_end right p) z
            ]
            | inr (inl z) ↦ or_left (is_end longer p) (is_end right p) (ends_second left (u, m) link p z)
            | inr (inr z) ↦ or_left (is_end longer p) (is_end right p) (ends_first left (u, m) link p z)
          ];
    }

-- the right way goes one step on
pub climbing_right : (n : ℕ) (f : Sets) (dist : ℕ → ℕ → ℕ) (x : Forest) (s t : ℕ) (left right : List (ℕ × ℕ)) (a b m u : ℕ)
    → AreSymmetric n dist → IsStage n f dist x → AreClimbing n f dist x (s, t) (ways left right a b) → a ≢ b
    → x.rank a ≤ x.rank b → IsExit n f x.mate b m u
    → AreClimbing n f dist x (s, t) (ways left ((right ++ (m, u) ∷ []) ++ (x.entry (f.top u), x.above (f.top u)) ∷ []) a (f.top (x.above (f.top u))))
climbing_right n f dist x s t left right a b m u me st c ne low ex =
    let w = step_of n f dist x b m u st c.sets.b_outer ex in
    let i : ℕ = f.top u in
    let link : ℕ × ℕ = (x.entry i, x.above i) in
    let tight : loads n f (x.entry i) (x.above i) ≡ dist (x.entry i) (x.above i) =
    load_turned n f (x.entry i) (x.above i) ∙ w.tight_link ∙ me (x.above i) (x.entry i) w.ha w.he in
    let first : IsWay n f dist b ((m, u) ∷ []) i = (w.hm, w.ht, ex.top, w.tight_pair, refl) in
    let second : IsWay n f dist i (link ∷ []) (f.top (x.above i)) = (w.he, w.ha, w.entry, tight, refl) in
    let longer : List (ℕ × ℕ) = (right ++ (m, u) ∷ []) ++ link ∷ [] in
    let more : (k : ℕ) → met_on f left longer k ≡ met_on f left right k + (cond (eqb b k) 1 0 + cond (eqb i k) 1 0) =
    λ k. omega (arith, times_two f (λ j. f.top j.0) right (m, u) link b i k ex.top w.entry) in
    record {
      way_left = c.way_left;
      way_right = way_append n f dist (f.top t) i (f.top (x.above i)) (right ++ (m, u) ∷ []) (link ∷ [])
          (way_append n f dist (f.top t) b i right ((m, u) ∷ []) c.way_right first) second;
      sets = gathered_turned n f x (f.top (x.above i)) a _
          (gathered_more n f dist x b a m u (met_on f left right) _ st (gathered_turned n f x a b _ c.sets)
          (λ z. ne (sym z)) low ex more);
      even = omega (arith, c.even, push_length right (m, u) link);
      ends = λ p q hp paired h.
          elim (step_ends n f dist x b m u (met_on f left right) (met_on f left longer) p q st ex more hp paired h) [
            | inl old ↦ elim (or_cases (is_end left p) (is_end right p) (c.ends p q hp paired old)) [
              | inl z ↦ or_left (is_end left p) (is_end longer p) z
              | inr z ↦ or_right (is_end left p) (is_end longer p)
                  (ends_kept (right ++ (m, u) ∷ []) (link ∷ []) p (ends_kept right ((m, u) ∷ []) p z))
            ]
            | inr (inl z) ↦ or_right (is_end left p) (is_end longer p) (ends_first right (m, u) link p z)
            | inr (inr z) ↦ or_right (is_end left p) (is_end longer p) (ends_second right (m, u) link p z)
          ];
    }

-- two ways that have not begun
pub climbing_begun : (n : ℕ) (f : Sets) (dist : ℕ → ℕ → ℕ) (x : Forest) (s t : ℕ) → x.place (f.top s) ≡ outer
    → x.place (f.top t) ≡ outer → x.tree (f.top s) ≡ x.tree (f.top t)
    → AreClimbing n f dist x (s, t) (ways [] [] (f.top s) (f.top t))
climbing_begun n f dist x s t ps pt same = record {
  way_left = refl;
  way_right = refl;
  sets = record {
    a_outer = ps;
    b_outer = pt;
    level = same;
    same = λ c h. absurd (omega (arith, h));
    once = λ c. omega arith;
    in_tree = λ c h. absurd (omega (arith, h));
    above = λ c h e. absurd (omega (arith, h));
    ranks = λ c h. absurd (omega (arith, h));
    closed = λ c m u h e. absurd (omega (arith, h));
  };
  even = refl;
  ends = λ m u hm e h. absurd (omega (arith, h));
}

-- ---- where the two ways meet

pub record IsFolding (n : ℕ) (f : Sets) (dist : ℕ → ℕ → ℕ) (x : Forest) (joins : List (ℕ × ℕ)) (meet : ℕ) : Type 0 where
  pub way : IsWay n f dist meet joins meet
  pub times : (c : ℕ) → times_in (tops_from f joins) c ≤ 1
  pub odd : length joins % 2 ≡ 1
  pub cycle : IsCycle n f x (tops_from f joins) meet
  pub some_inner : (c : ℕ) × (has (tops_from f joins) c ≡ true) × (x.place c ≡ inner)
  -- the member of each set but the one where they meet that has a mate is an end of them
  pub ends : (m t : ℕ) → m < n → x.mate m ≡ Some t → has (tops_from f joins) (f.top m) ≡ true → f.top m ≢ meet
      → is_end joins m ≡ true

times_reversed : (f : Sets) (xs : List (ℕ × ℕ)) (c : ℕ) → times_in (tops_to f (reverse xs)) c ≡ times_in (tops_to f xs) c
times_reversed f [] c = refl
times_reversed f (y ∷ ys) c =
    let e : reverse (y ∷ ys) ≡ reverse ys ++ y ∷ [] = reverse-append (y ∷ []) ys in
    let k : times_in (tops_to f (reverse ys ++ y ∷ [])) c ≡ times_in (tops_to f (reverse ys)) c + times_in
    (tops_to f (y ∷ [])) c = ap (λ w. times_in w c) (map-append (λ j. f.top j.1) (reverse ys) (y ∷ [])) ∙
    times_append (tops_to f (reverse ys)) (tops_to f (y ∷ [])) c in
    omega (arith, ap (λ w. times_in (tops_to f w) c) e, k, times_reversed f ys c)

some_met : (n : ℕ) (f : Sets) (dist : ℕ → ℕ → ℕ) (x : Forest) (s t meet : ℕ) (left right : List (ℕ × ℕ))
    → IsStage n f dist x → f.top s ≢ f.top t → AreClimbing n f dist x (s, t) (ways left right meet meet)
    → (k : ℕ) × (0 < met_on f left right k)
some_met n f dist x s t meet left right st apart c = elim (cases_eq meet (f.top t)) [
  | inr ne ↦ (
    f.top t,
    omega (
      arith,
      way_times n f dist (f.top t) meet right (f.top t) c.way_right,
      bit_one (f.top t) (f.top t) refl,
      bit_none meet (f.top t) ne,
    ),
  )
  | inl e ↦
      let ne : meet ≢ f.top s = λ z. apart (sym z ∙ e) in (
        f.top s,
        omega (
          arith,
          way_times n f dist meet (f.top s) (reverse left) (f.top s) c.way_left,
          bit_one (f.top s) (f.top s) refl,
          bit_none meet (f.top s) ne,
          times_reversed f left (f.top s),
        ),
      )
]

inner_met : (n : ℕ) (f : Sets) (dist : ℕ → ℕ → ℕ) (x : Forest) (meet : ℕ) (met : ℕ → ℕ) (children : List ℕ)
    → IsStage n f dist x → AreGathered n f x meet meet met → (k : ℕ) × (0 < met k)
    → ((k : ℕ) → 0 < met k → has children k ≡ true) → (k : ℕ) × (has children k ≡ true) × (x.place k ≡ inner)
inner_met n f dist x meet met children st g w here = elim (place_cases (x.place w.0)) [
  | inl z ↦ absurd (g.in_tree w.0 w.1 z)
  | inr (inr z) ↦ (w.0, here w.0 w.1, z)
  | inr (inl z) ↦
      let v = g.above w.0 w.1 z in
      let ex = higher_pair n f (loads n f) dist x st.tree w.0 meet z g.a_outer (g.same w.0 w.1) v.2 v.0 in
      let o = st.tree.outer_mate w.0 ex.0 ex.1 z ex.2 in
      (f.top ex.1, here (f.top ex.1) (g.closed w.0 ex.0 ex.1 w.1 ex.2), o.0)
]

-- two ways that meet go all around with their join
pub climbing_whole : (n : ℕ) (f : Sets) (dist : ℕ → ℕ → ℕ) (x : Forest) (s t meet : ℕ) (left right : List (ℕ × ℕ))
    → IsStage n f dist x → s < n → t < n → loads n f s t ≡ dist s t → f.top s ≢ f.top t
    → AreClimbing n f dist x (s, t) (ways left right meet meet)
    → IsFolding n f dist x (reverse left ++ (s, t) ∷ right) meet
climbing_whole n f dist x s t meet left right st hs ht tight apart c =
    let joins : List (ℕ × ℕ) = reverse left ++ (s, t) ∷ right in
    let g = c.sets in
    let met : ℕ → ℕ = met_on f left right in
    -- each child is the set where the ways meet, or was met
    let count = λ (k : ℕ). (
    let a1 : times_in (tops_from f joins) k ≡ times_in (tops_from f (reverse left)) k + times_in
    (tops_from f ((s, t) ∷ right)) k = ap (λ w. times_in w k)
    (map-append (λ j. f.top j.0) (reverse left) ((s, t) ∷ right)) ∙
    times_append (tops_from f (reverse left)) (tops_from f ((s, t) ∷ right)) k in
    let a2 = way_times n f dist meet (f.top s) (reverse left) k c.way_left in
    let a3 = times_reversed f left k in
    let r : times_in (tops_from f joins) k ≡ cond (eqb meet k) 1 0 + met k = omega (arith, a1, a2, a3) in r) in
    let meet_new : met meet ≡ 0 = elim (cases_lt 0 (met meet)) [
      | inl h ↦ absurd ((g.above meet h g.a_outer).2 refl)
      | inr h ↦ omega (arith, h)
    ] in
    let cases = λ (k : ℕ) (h : has (tops_from f joins) k ≡ true). (elim (cases_eq meet k) as (λ _. (meet ≡ k) ⊎ (0 < met k)) [
      | inl z ↦ inl z
      | inr z ↦ inr (omega (arith, times_has (tops_from f joins) k h, count k, bit_none meet k z))
    ]) in
    let here = λ (k : ℕ) (h : 0 < met k). has_times (tops_from f joins) k (omega (arith, count k, h)) in
    record {
      way = way_append n f dist meet (f.top s) meet (reverse left) ((s, t) ∷ right) c.way_left (hs, ht, refl, tight, c.way_right);
      times = λ k. elim (cases_eq meet k) [
        | inl z ↦ omega (arith, count k, bit_one meet k z, ap met z, meet_new)
        | inr z ↦ omega (arith, count k, bit_none meet k z, g.once k)
      ];
      odd = omega (arith, length-append (reverse left) ((s, t) ∷ right), length-reverse left, c.even);
      cycle = record {
        meet_in = has_times (tops_from f joins) meet (omega (arith, count meet, bit_one meet meet refl));
        meet_outer = g.a_outer;
        ranks = λ k h. elim (cases k h) [
          | inl z ↦ omega (arith, ap x.rank z)
          | inr z ↦ elim (g.ranks k z) [
            | inl w ↦ w
            | inr w ↦ w
          ]
        ];
        in_tree = λ k h. elim (cases k h) [
          | inl z ↦ outer_in (ap x.place (sym z) ∙ g.a_outer)
          | inr z ↦ g.in_tree k z
        ];
        closed = λ k m u h ne w. elim (cases k h) [
          | inl z ↦ absurd (ne (sym z))
          | inr z ↦ here (f.top u) (g.closed k m u z w)
        ];
        root_meets = λ k h none. elim (cases k h) [
          | inl z ↦ z
          | inr z ↦ elim (place_cases (x.place k)) [
            | inl y ↦ absurd (g.in_tree k z y)
            | inr (inl y) ↦
                let v = g.above k z y in
                let ex = higher_pair n f (loads n f) dist x st.tree k meet y g.a_outer (g.same k z) v.2 v.0 in
                absurd (none ex.0 ex.1 ex.2)
            | inr (inr y) ↦ let ex = st.tree.inner_pair k y in absurd (none ex.0 ex.1 ex.2)
          ]
        ];
        same = λ k h. elim (cases k h) [
          | inl z ↦ ap x.tree (sym z)
          | inr z ↦ g.same k z
        ];
      };
      some_inner = inner_met n f dist x meet met (tops_from f joins) st g (some_met n f dist x s t meet left right st apart c) here;
      ends = λ m u hm e k ne. elim (cases (f.top m) k) [
        | inl z ↦ absurd (ne (sym z))
        | inr z ↦ elim (or_cases (is_end left m) (is_end right m) (c.ends m u hm e z)) [
          | inl y ↦ ends_kept (reverse left) ((s, t) ∷ right) m (ends_reversed left m y)
          | inr y ↦ ends_added (reverse left) ((s, t) ∷ right) m (or_right (ends_at m (s, t)) (is_end right m) y)
        ]
      ];
    }

-- ---- the joins all around are those of a new set

-- there are more than one
three : (n : ℕ) (f : Sets) (dist : ℕ → ℕ → ℕ) (x : Forest) (joins : List (ℕ × ℕ)) (meet : ℕ)
    → IsStage n f dist x → IsFolding n f dist x joins meet → 2 ≤ length joins
three n f dist x [] meet st w = absurd (omega (arith, w.odd))
three n f dist x (j ∷ []) meet st w =
    let e = w.way.2 in
    let k = times_has (tops_from f (j ∷ [])) w.some_inner.0 w.some_inner.1 in
    elim (cases_eq (f.top j.0) w.some_inner.0) [
      | inl z ↦ outer_inner_no (w.cycle.meet_outer) (ap x.place (sym e ∙ z) ∙ w.some_inner.2)
      | inr z ↦ absurd (omega (arith, k, bit_none (f.top j.0) w.some_inner.0 z))
    ]
three n f dist x (j ∷ i ∷ js) meet st w = omega arith

-- the tops all around can become one set
pub folding_tops : (n : ℕ) (f : Sets) (dist : ℕ → ℕ → ℕ) (x : Forest) (joins : List (ℕ × ℕ)) (meet : ℕ)
    → IsStage n f dist x → IsFolding n f dist x joins meet → AreTops n f (tops_from f joins)
folding_tops n f dist x joins meet st w =
    let len : length (tops_from f joins) ≡ length joins = length-map joins (λ j. f.top j.0) in
    let top = λ (c : ℕ) (h : has (tops_from f joins) c ≡ true). st.tree.tops c (w.cycle.in_tree c h) in
    record {
      count_odd = ap (λ z. z % 2) len ∙ w.odd;
      several = omega (arith, len, w.odd, three n f dist x joins meet st w);
      below = λ c h. (top c h).0;
      are_live = λ c h. (top c h).1;
      parentless = λ c h. (top c h).2;
      distinct = once_apart (tops_from f joins) w.times;
    }

-- each join all around leads from one of them to the next
pub folding_joined : (n : ℕ) (f : Sets) (dist : ℕ → ℕ → ℕ) (x : Forest) (joins : List (ℕ × ℕ)) (meet i : ℕ)
    → IsStage n f dist x → IsFolding n f dist x joins meet → i < length joins
    → IsTie f (get_or (tops_from f joins) i 0) (next_in (tops_from f joins) i) (get_or joins i (0, 0))
folding_joined n f dist x joins meet i st w h =
    let lam = st.rest.laminar in
    let size = st.rest.size in
    let len : length (tops_from f joins) ≡ length joins = length-map joins (λ j. f.top j.0) in
    let s = way_step n f dist meet meet i joins w.way h in
    let at = λ (k : ℕ) (hk : k < length joins). get_or-map (λ j. f.top j.0) joins k (0, 0) 0 hk in
    let next : next_in (tops_from f joins) i ≡ f.top (get_or joins i (0, 0)).1 = elim (cases_eq (i + 1) (length joins)) [
      | inl last ↦
          let z : (i + 1) % length (tops_from f joins) ≡ 0 = ap (λ a. (i + 1) % a) (len ∙ sym last) ∙ mod_self (i + 1) in
          ap (λ a. get_or (tops_from f joins) a 0) z ∙ at 0 (omega (arith, h)) ∙
          way_first n f dist meet meet joins w.way (omega (arith, h)) ∙
          sym (way_last n f dist meet meet i joins w.way last)
      | inr more ↦
          let low : suc i < length joins = omega (arith, h, more) in
          let z : (i + 1) % length (tops_from f joins) ≡ suc i = mod-eq_of_lt (omega (arith, len, low)) ∙ omega arith in
          ap (λ a. get_or (tops_from f joins) a 0) z ∙ at (suc i) low ∙ sym (way_next n f dist meet meet i joins w.way low)
    ] in
    record {
      from_range = omega (arith, s.from, size);
      from = ap (λ a. f.holds a (get_or joins i (0, 0)).0) (at i h) ∙ lam.tops.top_holds (get_or joins i (0, 0)).0 s.from;
      to_range = omega (arith, s.to, size);
      to = ap (λ a. f.holds a (get_or joins i (0, 0)).1) next ∙ lam.tops.top_holds (get_or joins i (0, 0)).1 s.to;
    }
