-- Sums over passages, by passage and by edge.
use Rattle.std.proofs.Common.{arith, ◌≡◌, ◌≢◌, ℕ, zero, suc, ◌+◌, ◌*◌, ◌<◌, ◌≤◌, ◌==◌, refl, sym, ap, ◌∙◌, Bool, cond}
use Rattle.std.proofs.Common.{inl, inr, List, [], ◌∷◌, ◌++◌, map, length, get_or, take, eq-eqb}
use Rattle.std.specs.Prelude.{sum_by, count_by, All}
use Rattle.std.proofs.lemmas.List.{take_all}
use Rattle.std.proofs.lemmas.List.Sums.{sum_by-cons, sum_by-append, sum_by_more, sum_by_push}
use Rattle.std.proofs.lemmas.List.Elements.{All-head, All-tail}
use Rattle.std.proofs.lemmas.Bool.{ne_eqb, cases_eq, cases_Bool, cond-true, cond-false}
use Rattle.dpl_sign.specs.declared.walks.Cycle.{Cycle}
use Rattle.dpl_sign.specs.Packings.{load, passages, passages_of, bound_of}

-- the sum of f over the numbers below n
abbrev pub sum_to : (ℕ → ℕ) → ℕ → ℕ
sum_to f zero = 0
sum_to f (suc n) = f n + sum_to f n

-- a sum of parts that are no greater is no greater
pub sum_to_le : (f g : ℕ → ℕ) (n : ℕ) → ((k : ℕ) → k < n → f k ≤ g k) → sum_to f n ≤ sum_to g n
sum_to_le f g zero h = omega arith
sum_to_le f g (suc n) h = omega (arith, h n (omega arith), sum_to_le f g n (λ k l. h k (omega arith)))

-- sums of the same parts are the same
pub sum_to_same : (f g : ℕ → ℕ) (n : ℕ) → ((k : ℕ) → k < n → f k ≡ g k) → sum_to f n ≡ sum_to g n
sum_to_same f g zero h = refl
sum_to_same f g (suc n) h = omega (arith, h n (omega arith), sum_to_same f g n (λ k l. h k (omega arith)))

-- a sum of sums is the sum of both
pub sum_to_two : (f g : ℕ → ℕ) (n : ℕ) → sum_to (λ k. f k + g k) n ≡ sum_to f n + sum_to g n
sum_to_two f g zero = refl
sum_to_two f g (suc n) = omega (arith, sum_to_two f g n)

-- a sum of nothings is nothing
pub sum_to_zero : (n : ℕ) → sum_to (λ k. 0) n ≡ 0
sum_to_zero zero = refl
sum_to_zero (suc n) = omega (arith, sum_to_zero n)

-- a sum of doubles is the double of the sum
pub sum_to_twice : (f : ℕ → ℕ) (n : ℕ) → sum_to (λ k. 2 * f k) n ≡ 2 * sum_to f n
sum_to_twice f zero = refl
sum_to_twice f (suc n) = omega (arith, sum_to_twice f n)

-- a sum over a list by its places
sum_by_front : {X : Type 0} (f : X → ℕ) (xs : List X) (d : X) (n : ℕ) → n ≤ length xs → sum_by f (take n xs) ≡ sum_to (λ k. f (get_or xs k d)) n
sum_by_front f xs d zero h = refl
sum_by_front f xs d (suc n) h =
    let more : sum_by f (take (n + 1) xs) ≡ sum_by f (take n xs) + f (get_or xs n d) = sum_by_more f xs n d (omega arith) in
    let one : n + 1 ≡ suc n = omega arith in
    omega (arith, ap (λ k. sum_by f (take k xs)) one, more, sum_by_front f xs d n (omega arith))

-- a sum over a list is that over its places
pub sum_by_places : {X : Type 0} (f : X → ℕ) (xs : List X) (d : X) → sum_by f xs ≡ sum_to (λ k. f (get_or xs k d)) (length xs)
sum_by_places f xs d = ap (sum_by f) (sym (take_all (length xs) xs (omega arith))) ∙ sum_by_front f xs d (length xs) (omega arith)

-- the value at x, and nothing elsewhere
pub at : ℕ → ℕ → ℕ → ℕ
at x h e = cond (x == e) h 0

-- at its own place the value counts
pub at_same : (x h e : ℕ) → x ≡ e → at x h e ≡ h
unfolding at
at_same x h e k = rw (eq-eqb x e k, at)

-- at another place nothing counts
pub at_other : (x h e : ℕ) → x ≢ e → at x h e ≡ 0
unfolding at
at_other x h e k = rw (ne_eqb x e k, at)

sum_at_none : (v : ℕ → Bool) (x h n : ℕ) → n ≤ x → sum_to (λ e. cond (v e) (at x h e) 0) n ≡ 0
sum_at_none v x h zero k = refl
sum_at_none v x h (suc n) k =
    let here : cond (v n) (at x h n) 0 ≡ 0 = elim (cases_Bool (v n)) [
      | inl t ↦ cond-true (v n) _ 0 t ∙ at_other x h n (λ q. omega arith)
      | inr t ↦ cond-false (v n) _ 0 t
    ] in
    omega (arith, here, sum_at_none v x h n (omega arith))

sum_at : (v : ℕ → Bool) (x h n : ℕ) → x < n → sum_to (λ e. cond (v e) (at x h e) 0) n ≡ cond (v x) h 0
sum_at v x h zero k = absurd (omega arith)
sum_at v x h (suc n) k = elim (cases_eq x n) [
  | inl t ↦ omega (arith, sum_at_none v x h n (omega arith), ap (λ z. cond (v z) h 0) t, ap (λ z. cond (v n) z 0) (at_same x h n t))
  | inr t ↦
      let here : cond (v n) (at x h n) 0 ≡ 0 = elim (cases_Bool (v n)) [
        | inl b ↦ cond-true (v n) _ 0 b ∙ at_other x h n t
        | inr b ↦ cond-false (v n) _ 0 b
      ] in
      omega (arith, here, sum_at v x h n (omega arith))
]

-- a passage in front adds its half weight to the load of its edge
pub load_cons : (p : ℕ × ℕ) (ps : List (ℕ × ℕ)) (e : ℕ) → load (p ∷ ps) e ≡ at p.0 p.1 e + load ps e
unfolding at
load_cons p ps e = sum_by-cons (λ q. cond (q.0 == e) q.1 0) p ps

-- the half weights of the passages of some edges, by passage
pub passed : (ℕ → Bool) → List (ℕ × ℕ) → ℕ
passed v ps = sum_by (λ p. cond (v p.0) p.1 0) ps

-- a passage in front adds its half weight where its edge is chosen
pub passed_cons : (v : ℕ → Bool) (p : ℕ × ℕ) (ps : List (ℕ × ℕ)) → passed v (p ∷ ps) ≡ cond (v p.0) p.1 0 + passed v ps
unfolding passed
passed_cons v p ps = sum_by-cons (λ q. cond (v q.0) q.1 0) p ps

-- the chosen passages of two lists add up
pub passed_append : (v : ℕ → Bool) (ps qs : List (ℕ × ℕ)) → passed v (ps ++ qs) ≡ passed v ps + passed v qs
unfolding passed
passed_append v ps qs = sum_by-append (λ q. cond (v q.0) q.1 0) ps qs

passed_nil : (v : ℕ → Bool) → passed v [] ≡ 0
unfolding passed
passed_nil v = refl

-- and by edge
pub passed_by_edge : (v : ℕ → Bool) (n : ℕ) (ps : List (ℕ × ℕ)) → All (λ p. p.0 < n) ps → passed v ps ≡ sum_to (λ e. cond (v e) (load ps e) 0) n
passed_by_edge v n [] h =
    passed_nil v ∙ sym (sum_to_same (λ e. cond (v e) (load [] e) 0) (λ e. 0) n
    (λ k l. elim (cases_Bool (v k)) [ inl b ↦ cond-true (v k) _ 0 b | inr b ↦ cond-false (v k) _ 0 b ]) ∙
    sum_to_zero n)
passed_by_edge v n (p ∷ ps) h =
    let rest = passed_by_edge v n ps (All-tail (λ q. q.0 < n) p ps h) in
    let first : p.0 < n = All-head (λ q. q.0 < n) p ps h in
    let split : sum_to (λ e. cond (v e) (load (p ∷ ps) e) 0) n ≡ sum_to (λ e. cond (v e) (at p.0 p.1 e) 0 + cond (v e) (load ps e) 0) n =
    sum_to_same _ _ n (λ e l. ap (λ z. cond (v e) z 0) (load_cons p ps e) ∙ (elim (cases_Bool (v e)) [
      | inl b ↦ omega (arith, cond-true (v e) (at p.0 p.1 e + load ps e) 0 b, cond-true (v e) (at p.0 p.1 e) 0 b, cond-true (v e) (load ps e) 0 b)
      | inr b ↦ omega (arith, cond-false (v e) (at p.0 p.1 e + load ps e) 0 b, cond-false (v e) (at p.0 p.1 e) 0 b, cond-false (v e) (load ps e) 0 b)
    ])) in
    omega (arith, passed_cons v p ps, rest, split, sum_to_two (λ e. cond (v e) (at p.0 p.1 e) 0) (λ e. cond (v e) (load ps e) 0) n, sum_at v p.0 p.1 n first)

-- a walk with at least one of the edges passes them with its half weight at least
passed_one : (v : ℕ → Bool) (h : ℕ) (es : List ℕ) → 1 ≤ count_by v es → h ≤ passed v (map (λ e. (e, h)) es)
passed_one v h [] k = absurd (omega arith)
passed_one v h (e ∷ es) k =
    let c : count_by v (e ∷ es) ≡ cond (v e) 1 0 + count_by v es = sum_by-cons (λ x. cond (v x) 1 0) e es in
    let p : passed v (map (λ x. (x, h)) (e ∷ es)) ≡ cond (v e) h 0 + passed v (map (λ x. (x, h)) es) = passed_cons v (e, h) (map (λ x. (x, h)) es) in
    elim (cases_Bool (v e)) [
      | inl b ↦ omega (arith, p, cond-true (v e) h 0 b)
      | inr b ↦ omega (arith, p, passed_one v h es (omega (arith, c, cond-false {A = ℕ} (v e) 1 0 b)))
    ]

-- where each walk passes at least one of the edges, the bound is at most what they carry
pub bound_passed : (v : ℕ → Bool) (cs : List Cycle) → All (λ c. 1 ≤ count_by v c.walk.edges) cs → bound_of cs ≤ passed v (passages cs)
bound_passed v [] h = omega arith
bound_passed v (c ∷ cs) h =
    let b : bound_of (c ∷ cs) ≡ c.half + bound_of cs = sum_by-cons (λ x. x.half) c cs in
    let p : passed v (passages (c ∷ cs)) ≡ passed v (passages_of c) + passed v (passages cs) = passed_append v (passages_of c) (passages cs) in
    let one : c.half ≤ passed v (passages_of c) = passed_one v c.half c.walk.edges (All-head (λ x. 1 ≤ count_by v x.walk.edges) c cs h) in
    omega (arith, b, p, one, bound_passed v cs (All-tail (λ x. 1 ≤ count_by v x.walk.edges) c cs h))

-- a passage at the end adds its half weight to the load of its edge
pub load_push : (ps : List (ℕ × ℕ)) (x h e : ℕ) → load (ps ++ (x, h) ∷ []) e ≡ load ps e + at x h e
unfolding at
load_push ps x h e = sum_by_push (λ q. cond (q.0 == e) q.1 0) ps (x, h)

-- the loads of two lists of passages add up
pub load_append : (ps qs : List (ℕ × ℕ)) (e : ℕ) → load (ps ++ qs) e ≡ load ps e + load qs e
load_append ps qs e = sum_by-append (λ q. cond (q.0 == e) q.1 0) ps qs
