-- Walks along a permutation that is kept as a list, and one exchange of two of its places.
use Rattle.std.proofs.Common.{arith, ◌≡◌, ◌≢◌, ℕ, zero, suc, ◌+◌, ◌%◌, ◌<◌, ◌≤◌, refl, sym, ap, ◌∙◌, subst, true, false}
use Rattle.std.proofs.Common.{inl, inr, List, [], ◌∷◌, take, length, get_or, set, length-set, get_or-set_same}
use Rattle.std.proofs.Common.{get_or-set_other}
use Rattle.std.proofs.lemmas.Bool.{cases_eq, cases_lt}
use Rattle.std.specs.Prelude.{swap}
use Rattle.std.proofs.lemmas.List.{take_all}
use Rattle.std.proofs.lemmas.List.Edits.{swap_is}
use Rattle.std.proofs.Math.Nat.{mod-eq_of_lt, mod_self}
use Rattle.dpl_laminar.specs.Families.{has}
use Rattle.dpl_laminar.specs.Storing.{circle_of, walk, IsCircle}
use Rattle.dpl_laminar.proofs.Numbers.{has_head, has_tail, has_at, place_in, true_false}
use Rattle.dpl_ring.proofs.RingLemmas.{length_swap}

pub length_walk : (f : ℕ → ℕ) (x k : ℕ) → length (walk f x k) ≡ k
length_walk f x zero = refl
length_walk f x (suc k) = ap suc (length_walk f (f x) k)

pub has_more : (x c : ℕ) (xs : List ℕ) → has xs c ≡ true → has (x ∷ xs) c ≡ true
has_more x c xs h = elim (cases_eq x c) [
  | inl e ↦ has_head x c xs e
  | inr ne ↦ has_tail x c xs ne ∙ h
]

-- a walk hangs only on what the numbers of it lead to
pub walk_same : (f g : ℕ → ℕ) (x k : ℕ) → ((c : ℕ) → has (walk f x k) c ≡ true → f c ≡ g c) → walk f x k ≡ walk g x k
walk_same f g x zero h = refl
walk_same f g x (suc k) h =
    let one : f x ≡ g x = h x (has_head x x (walk f (f x) k) refl) in
    let rest : walk f (f x) k ≡ walk g (f x) k = walk_same f g (f x) k (λ c e. h c (has_more x c (walk f (f x) k) e)) in
    ap (λ z. x ∷ z) (rest ∙ ap (λ z. walk g z k) one)

from_head : (f : ℕ → ℕ) (c : ℕ) (cs : List ℕ)
    → ((i : ℕ) → i + 1 < length (c ∷ cs) → f (get_or (c ∷ cs) i 0) ≡ get_or (c ∷ cs) (suc i) 0)
    → walk f c (length (c ∷ cs)) ≡ c ∷ cs
from_head f c [] h = refl
from_head f c (d ∷ ds) h = ap (λ z. c ∷ z) (ap (λ z. walk f z (length (d ∷ ds))) (h 0 (omega arith)) ∙ from_head f d ds (λ i l. h (suc i) (omega arith)))

-- where each number of a list leads to the next one, the list is a walk
pub walk_is : (f : ℕ → ℕ) (cs : List ℕ) → 0 < length cs
    → ((i : ℕ) → i + 1 < length cs → f (get_or cs i 0) ≡ get_or cs (i + 1) 0)
    → walk f (get_or cs 0 0) (length cs) ≡ cs
walk_is f [] some h = absurd (omega arith)
walk_is f (c ∷ cs) some h = from_head f c cs (λ i l. h i l ∙ ap (λ z. get_or (c ∷ cs) z 0) (let z : i + 1 ≡ suc i = omega arith in z))

-- so many steps
abbrev pub step : (ℕ → ℕ) → ℕ → ℕ → ℕ
step f x zero = x
step f x (suc k) = f (step f x k)

step_inner : (f : ℕ → ℕ) (x k : ℕ) → step f (f x) k ≡ f (step f x k)
step_inner f x zero = refl
step_inner f x (suc k) = ap f (step_inner f x k)

pub at_walk : (f : ℕ → ℕ) (x k i : ℕ) → i < k → get_or (walk f x k) i 0 ≡ step f x i
at_walk f x zero i h = absurd (omega arith)
at_walk f x (suc k) zero h = refl
at_walk f x (suc k) (suc i) h = at_walk f (f x) k i (omega arith) ∙ step_inner f x i

-- ---- an exchange

swap_written : (xs : List ℕ) (i j x : ℕ) → i < length xs → j < length xs
    → get_or (swap xs i j) x 0 ≡ get_or (set (set xs i (get_or xs j 0)) j (get_or xs i 0)) x 0
swap_written xs i j x hi hj = ap (λ (l : List ℕ). get_or l x 0) (sym (swap_is xs i j 0 hi hj))

pub swap_second : (xs : List ℕ) (i j : ℕ) → i < length xs → j < length xs → get_or (swap xs i j) j 0 ≡ get_or xs i 0
swap_second xs i j hi hj = swap_written xs i j j hi hj ∙
    get_or-set_same (set xs i (get_or xs j 0)) j (get_or xs i 0) 0 (omega (arith, length-set xs i (get_or xs j 0)))

pub swap_first : (xs : List ℕ) (i j : ℕ) → i < length xs → j < length xs → i ≢ j → get_or (swap xs i j) i 0 ≡ get_or xs j 0
swap_first xs i j hi hj ne = swap_written xs i j i hi hj ∙ get_or-set_other (set xs i (get_or xs j 0)) j i _ 0 ne ∙ get_or-set_same xs i (get_or xs j 0) 0 hi

pub swap_other : (xs : List ℕ) (i j x : ℕ) → i < length xs → j < length xs → x ≢ i → x ≢ j → get_or (swap xs i j) x 0 ≡ get_or xs x 0
swap_other xs i j x hi hj ni nj = swap_written xs i j x hi hj ∙ get_or-set_other (set xs i (get_or xs j 0)) j x _ 0 nj ∙ get_or-set_other xs i x _ 0 ni

-- ---- the next place around

pub around_next : (i k : ℕ) → i + 1 < k → (i + 1) % k ≡ i + 1
around_next i k h = mod-eq_of_lt h

pub around_last : (i k : ℕ) → i + 1 ≡ k → (i + 1) % k ≡ 0
around_last i k e = ap (λ z. z % k) e ∙ mod_self k

-- ---- numbers that stand alone are put into one ring

pub record AreTied (cs old new : List ℕ) (j : ℕ) : Type 0 where
  pub same_length : length new ≡ length old
  pub done : (i : ℕ) → i + 1 < j → i + 1 < length cs → get_or new (get_or cs i 0) 0 ≡ get_or cs (i + 1) 0
  pub last : (i : ℕ) → i + 1 ≡ j → i < length cs → get_or new (get_or cs i 0) 0 ≡ get_or cs 0 0
  pub rest : (i : ℕ) → j ≤ i → i < length cs → get_or new (get_or cs i 0) 0 ≡ get_or cs i 0
  pub others : (c : ℕ) → has cs c ≡ false → get_or new c 0 ≡ get_or old c 0

abbrev pub AreDistinct : List ℕ → Type 0
AreDistinct cs = (i j : ℕ) → i < j → j < length cs → get_or cs i 0 ≢ get_or cs j 0

pub differ_at : (cs : List ℕ) (i j : ℕ) → AreDistinct cs → i < length cs → j < length cs → i ≢ j → get_or cs i 0 ≢ get_or cs j 0
differ_at cs i j d hi hj ne = elim (cases_eq i j) [
  | inl e ↦ absurd (ne e)
  | inr _ ↦ (λ e. elim (cases_lt i j) [
    | inl lt ↦ d i j lt hj e
    | inr le ↦ d j i (omega arith) hi (sym e)
  ])
]

not_in : (cs : List ℕ) (c i : ℕ) → has cs c ≡ false → i < length cs → c ≢ get_or cs i 0
not_in cs c i h hi e = true_false (has cs c) (ap (has cs) e ∙ has_at cs i hi) h

pub tied_more : (cs old new : List ℕ) (j k : ℕ) → j ≡ k + 1 → j < length cs → AreDistinct cs
    → ((i : ℕ) → i < length cs → get_or cs i 0 < length old) → AreTied cs old new j
    → AreTied cs old (swap new (get_or cs k 0) (get_or cs j 0)) (j + 1)
tied_more cs old new j k e hj d below t =
    let a = get_or cs k 0 in
    let b = get_or cs j 0 in
    let hk : k < length cs = omega arith in
    let la : a < length new = omega (arith, below k hk, t.same_length) in
    let lb : b < length new = omega (arith, below j hj, t.same_length) in
    let ab : a ≢ b = d k j (omega arith) hj in
    record {
      same_length = length_swap new a b la lb ∙ t.same_length;
      done = λ i h hi. elim (cases_eq i k) [
        | inl s ↦ ap (λ z. get_or (swap new a b) (get_or cs z 0) 0) s ∙ swap_first new a b la lb ab ∙
            t.rest j (omega arith) hj ∙ ap (λ z. get_or cs z 0) (let z : j ≡ i + 1 = omega arith in z)
        | inr s ↦ swap_other new a b _ la lb (differ_at cs i k d (omega arith) hk s)
            (differ_at cs i j d (omega arith) hj (λ z. omega arith)) ∙ t.done i (omega arith) hi
      ];
      last = λ i h hi. ap (λ z. get_or (swap new a b) (get_or cs z 0) 0) (let z : i ≡ j = omega arith in z) ∙
          swap_second new a b la lb ∙ t.last k (omega arith) hk;
      rest = λ i h hi. swap_other new a b _ la lb (differ_at cs i k d hi hk (λ z. omega arith))
          (differ_at cs i j d hi hj (λ z. omega arith)) ∙ t.rest i (omega arith) hi;
      others = λ c h. swap_other new a b c la lb (not_in cs c k h hk) (not_in cs c j h hj) ∙ t.others c h;
    }

pub tied_all : (cs old new : List ℕ) (j : ℕ) → AreTied cs old new j → length cs ≤ j
    → (0 < length cs → j ≤ length cs) → (i : ℕ) → i < length cs
    → get_or new (get_or cs i 0) 0 ≡ get_or cs ((i + 1) % length cs) 0
tied_all cs old new j t least most i h = elim (cases_eq (i + 1) (length cs)) [
  | inl e ↦ t.last i (omega (arith, most (omega arith))) h ∙ ap (λ z. get_or cs z 0) (sym (around_last i (length cs) e))
  | inr ne ↦ t.done i (omega arith) (omega arith) ∙ ap (λ z. get_or cs z 0) (sym (around_next i (length cs) (omega arith)))
]

-- ---- a ring is taken apart

pub record AreUntied (cs old new : List ℕ) (j : ℕ) : Type 0 where
  pub same_length : length new ≡ length old
  pub first : get_or new (get_or cs 0 0) 0 ≡ get_or cs (j % length cs) 0
  pub done : (i : ℕ) → 1 ≤ i → i < j → i < length cs → get_or new (get_or cs i 0) 0 ≡ get_or cs i 0
  pub rest : (i : ℕ) → j ≤ i → i < length cs → get_or new (get_or cs i 0) 0 ≡ get_or cs ((i + 1) % length cs) 0
  pub others : (c : ℕ) → has cs c ≡ false → get_or new c 0 ≡ get_or old c 0

pub untied_more : (cs old new : List ℕ) (j : ℕ) → 1 ≤ j → j < length cs → AreDistinct cs
    → ((i : ℕ) → i < length cs → get_or cs i 0 < length old) → AreUntied cs old new j
    → AreUntied cs old (swap new (get_or cs 0 0) (get_or new (get_or cs 0 0) 0)) (j + 1)
untied_more cs old new j least hj d below t =
    let a = get_or cs 0 0 in
    let b = get_or cs j 0 in
    let next : get_or new a 0 ≡ b = t.first ∙ ap (λ z. get_or cs z 0) (mod-eq_of_lt hj) in
    let h0 : 0 < length cs = omega arith in
    let la : a < length new = omega (arith, below 0 h0, t.same_length) in
    let lb : b < length new = omega (arith, below j hj, t.same_length) in
    let ab : a ≢ b = d 0 j (omega arith) hj in
    rw next (record {
      same_length = length_swap new a b la lb ∙ t.same_length;
      first = swap_first new a b la lb ab ∙ t.rest j (omega arith) hj;
      done = λ i l h hi. elim (cases_eq i j) [
        | inl s ↦ ap (λ z. get_or (swap new a b) (get_or cs z 0) 0) s ∙ swap_second new a b la lb ∙ next ∙ ap (λ z. get_or cs z 0) (sym s)
        | inr s ↦ swap_other new a b _ la lb (differ_at cs i 0 d hi h0 (λ z. omega arith)) (differ_at cs i j d hi hj s) ∙ t.done i l (omega arith) hi
      ];
      rest = λ i h hi. swap_other new a b _ la lb (differ_at cs i 0 d hi h0 (λ z. omega arith))
          (differ_at cs i j d hi hj (λ z. omega arith)) ∙ t.rest i (omega arith) hi;
      others = λ c h. swap_other new a b c la lb (not_in cs c 0 h h0) (not_in cs c j h hj) ∙ t.others c h;
    })

pub untied_all : (cs old new : List ℕ) (j : ℕ) → 0 < length cs → AreUntied cs old new j → j ≡ length cs → (c : ℕ) → has cs c ≡ true → get_or new c 0 ≡ c
untied_all cs old new j some t e c h =
    let r = place_in cs c h in
    elim (cases_eq r.0 0) [
      | inl z ↦
          let is : get_or cs 0 0 ≡ c = ap (λ y. get_or cs y 0) (sym z) ∙ r.2 in
          ap (λ y. get_or new y 0) (sym is) ∙ t.first ∙ ap (λ y. get_or cs y 0) (ap (λ y. y % length cs) e ∙ mod_self (length cs)) ∙ is
      | inr ne ↦ ap (λ y. get_or new y 0) (sym r.2) ∙ t.done r.0 (omega arith) (omega (arith, r.1)) r.1 ∙ r.2
    ]

-- ---- the same of a walk

pub length_ring : (ring : List ℕ) (first count : ℕ) → length (circle_of ring first count) ≡ count
length_ring ring first count = length_walk _ first count

pub ring_first : (ring : List ℕ) (first count : ℕ) → 0 < count → get_or (circle_of ring first count) 0 0 ≡ first
ring_first ring first count h = at_walk _ first count 0 h

pub circle_first : (ring : List ℕ) (first count : ℕ) → IsCircle ring first count → 0 < count → first < length ring
circle_first ring first count p some = omega (arith, p.below 0 some, ring_first ring first count some)

pub circle_start : (ring : List ℕ) (first count : ℕ) → IsCircle ring first count → 0 < count → AreUntied (circle_of ring first count) ring ring 1
circle_start ring first count p some =
    let cs = circle_of ring first count in
    let l : length cs ≡ count = length_ring ring first count in
    record {
      same_length = refl;
      first = p.around 0 some ∙ ap (λ z. get_or cs (1 % z) 0) (sym l);
      done = λ i least h hi. absurd (omega arith);
      rest = λ i h hi. p.around i (omega arith) ∙ ap (λ z. get_or cs ((i + 1) % z) 0) (sym l);
      others = λ c h. refl;
    }

pub circle_more : (ring : List ℕ) (first count : ℕ) (new : List ℕ) (j : ℕ) → IsCircle ring first count → 1 ≤ j
    → j < count → AreUntied (circle_of ring first count) ring new j
    → AreUntied (circle_of ring first count) ring (swap new first (get_or new first 0)) (j + 1)
circle_more ring first count new j p least h t =
    let cs = circle_of ring first count in
    let l : length cs ≡ count = length_ring ring first count in
    let is : get_or cs 0 0 ≡ first = ring_first ring first count (omega arith) in
    let next : AreUntied cs ring (swap new (get_or cs 0 0) (get_or new (get_or cs 0 0) 0)) (j + 1) =
    untied_more cs ring new j least (omega arith) (λ a b ab hb. p.distinct a b ab (omega arith))
    (λ i hi. p.below i (omega arith)) t in
    subst (λ z. AreUntied cs ring (swap new z (get_or new z 0)) (j + 1)) is next

pub circle_end : (ring : List ℕ) (first count : ℕ) (new : List ℕ) (j : ℕ) → 0 < count → j ≡ count
    → AreUntied (circle_of ring first count) ring new j → (c : ℕ) → has (circle_of ring first count) c ≡ true
    → get_or new c 0 ≡ c
circle_end ring first count new j some e t = untied_all (circle_of ring first count) ring new j
    (omega (arith, length_ring ring first count)) t (e ∙ sym (length_ring ring first count))

-- the place of a walk that so many steps lead to
pub ring_at : (ring : List ℕ) (first count j child : ℕ) → j < count
    → child ≡ step (λ c. get_or ring c 0) first j → get_or (circle_of ring first count) j 0 ≡ child
ring_at ring first count j child h e = at_walk _ first count j h ∙ sym e

pub ring_whole : (ring : List ℕ) (first count j : ℕ) → count ≤ j → take j (circle_of ring first count) ≡ circle_of ring first count
ring_whole ring first count j h = take_all j (circle_of ring first count) (omega (arith, length_ring ring first count))

pub ring_next : (ring : List ℕ) (first j child next : ℕ) → child ≡ step (λ c. get_or ring c 0) first j
    → next ≡ get_or ring child 0 → next ≡ step (λ c. get_or ring c 0) first (j + 1)
ring_next ring first j child next e h =
    let f : ℕ → ℕ = λ c. get_or ring c 0 in
    h ∙ ap f e ∙ ap (step f first) (let z : suc j ≡ j + 1 = omega arith in z)
