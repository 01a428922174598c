-- Borders of rectangles in order, and those that lie along one of them.
use Rattle.std.proofs.Common.{arith, ◌≡◌, ◌∙◌, ℕ, ◌+◌, ◌<◌, ◌≤◌, pos, ◌<ℤ◌, ◌≤ℤ◌, List, length, get_or, Bool, true, false, ◌&&◌, ◌⊎◌}
use Rattle.std.proofs.Common.{All, AllPairs, Contains, inl, inr, refl, sym, ap, subst, ◌∷◌, [], ◌++◌, int_lt, int_le, ℤ, map}
use Rattle.std.specs.Ordering.{int_eq, int_cmp, is_lt, ordering_then}
use Rattle.std.specs.List.{IsDistinct}
use Rattle.std.specs.List.Sorted.{IsPermutation, IsSortedBy}
use Rattle.std.proofs.lemmas.Bool.{cases_lt, both_ways}
use Rattle.std.proofs.lemmas.Int.{ints, by_lt_z}
use Rattle.std.proofs.lemmas.List.{get_or_default, get_or_append_left, get_or_push, get_or-map, length-map, length_push}
use Rattle.std.proofs.lemmas.List.Elements.{Contains-push, Contains-push_cases, Contains-append_left}
use Rattle.std.proofs.lemmas.List.Sorted.{All-permutation, Contains-permutation, IsPermutation-sym}
use Rattle.std.proofs.lemmas.Map.Keys.{IsDistinct-IsPermutation, IsDistinct-from_apart, apart_from_distinct}
use Rattle.dpl_list.proofs.Integers.{signed, at_most_test}
use Rattle.dpl_cell.specs.Places.{Corners}
use Rattle.dpl_cell.specs.Cells.{AreApart}
use Rattle.dpl_cell.proofs.BoxLemmas.{HasCell}
use Rattle.dpl_cell.proofs.SeamLemmas.{apart_sides}
use Rattle.dpl_cell.proofs.SortLemmas.{not_after}
use Rattle.dpl_near.specs.declared.borders.Border.{Border}
use Rattle.dpl_near.specs.Seeking.{AreRising, IsPlacePast}
use Rattle.dpl_near.specs.Borders.{first_border, AreAlong, AreBorders, AreInOrder, AddsAlong, IsOnLineOf, is_before, pair_of}

-- ---- the test of what stands before

-- a border that ends where another of its line begins or before, or runs along a lower line
abbrev pub StandsBefore : Border → Border → Type 0
StandsBefore a b = (a.line <ℤ b.line) ⊎ ((a.line ≡ b.line) × (a.to ≤ℤ b.from))

pub stands_before : (a b : Border) → is_before a b ≡ true → StandsBefore a b
stands_before a b t = grind (arith, ints)

pub before_test : (a b : Border) → StandsBefore a b → is_before a b ≡ true
before_test a b h = grind (arith, ints)

-- what stands before a border does not lie along it
pub before_misses : (a b : Border) → StandsBefore a b → ¬ AreAlong b a
before_misses a b (inl h) w = let e = w.line in absurd (omega signed)
before_misses a b (inr (e, h)) w = let f = w.above in absurd (omega signed)

before_on : (a b c : Border) → b.from <ℤ b.to → StandsBefore a b → StandsBefore b c → StandsBefore a c
before_on a b c long (inl h) (inl g) = inl (omega signed)
before_on a b c long (inl h) (inr (f, g)) = inl (omega signed)
before_on a b c long (inr (e, h)) (inl g) = inl (omega signed)
before_on a b c long (inr (e, h)) (inr (f, g)) = inr (e ∙ f, omega signed)

-- ---- sorted borders are in order

corner_of : Border → Corners
corner_of b = record { x1 = b.from; y1 = b.line; x2 = b.to; y2 = b.line }

along_test : Border → Border → Bool
along_test a b = int_eq a.line b.line && (int_lt a.from b.to && int_lt b.from a.to)

along_flips : (a b : Border) → along_test a b ≡ along_test b a
unfolding along_test
along_flips a b = grind (arith, ints)

along_no : (a b : Border) → ¬ AreAlong a b → along_test a b ≡ false
unfolding along_test
along_no a b n = elim (along_test a b) as (λ t. along_test a b ≡ t → along_test a b ≡ false) [
  | true ↦ λ e. absurd (n (record { line = grind (arith, ints); above = grind (arith, ints); below = grind (arith, ints) }))
  | false ↦ λ e. e
] refl

no_along : (a b : Border) → along_test a b ≡ false → ¬ AreAlong a b
unfolding along_test
no_along a b t w = let e = w.line in let f = w.above in let g = w.below in grind (arith, ints)

next_before : (a b : Border) → a.from <ℤ a.to → b.from <ℤ b.to → ¬ AreAlong a b
    → (a.line <ℤ b.line) ⊎ ((a.line ≡ b.line) × (a.from ≤ℤ b.from)) → StandsBefore a b
next_before a b l m n (inl h) = inl h
next_before a b l m n (inr (e, h)) = inr (e, by_lt_z b.from a.to (λ g. absurd (n (record { line = e; above = omega signed; below = g }))) (λ g. g))

-- borders that are sorted by their lines and where they begin, and of which none lies along another
pub sorted_in_order : (borders sorted : List Border) → All (λ b. b.from <ℤ b.to) borders
    → AllPairs (λ a b. ¬ AreAlong a b) borders → IsPermutation borders sorted
    → IsSortedBy (λ a b. is_lt (ordering_then (int_cmp a.line b.line) (int_cmp a.from b.from))) sorted
    → AreInOrder sorted
unfolding corner_of
sorted_in_order borders sorted long apart p up =
    let longs : All (λ b. b.from <ℤ b.to) sorted = All-permutation (λ b. b.from <ℤ b.to) borders sorted p long in
    let same : IsDistinct along_test borders =
    IsDistinct-from_apart along_test borders (λ i j d h l. along_no (get_or borders i d) (get_or borders j d) (apart i j d h l)) in
    let distinct : IsDistinct along_test sorted = IsDistinct-IsPermutation along_test along_flips borders sorted p same in
    record {
      long = longs;
      order = λ i j d h l. let a = get_or sorted i d in let b = get_or sorted j d in
          before_test a b (next_before a b (longs i d (omega arith)) (longs j d l)
          (no_along a b (apart_from_distinct along_test sorted i j d distinct h l)) (not_after corner_of sorted up i j d h l));
    }

-- ---- the first borders of rectangles

pub record FirstSoFar (upright : Bool) (rects : List Corners) (n : ℕ) (borders : List Border) : Type 0 where
  pub long : length borders ≡ n
  pub is : (k : ℕ) (d : Corners) (e : Border) → k < n → get_or borders k e ≡ first_border upright (get_or rects k d) k

pub first_none : (upright : Bool) (rects : List Corners) → FirstSoFar upright rects 0 []
first_none upright rects = record { long = refl; is = λ k d e l. absurd (omega arith) }

pub first_more : (upright : Bool) (rects : List Corners) (n : ℕ) (borders new : List Border) (b : Border) (r : Corners)
    → new ≡ borders ++ b ∷ [] → b ≡ first_border upright r n → r ≡ get_or rects n r → n < length rects
    → FirstSoFar upright rects n borders → FirstSoFar upright rects (n + 1) new
first_more upright rects n borders new b r e is at within so = rw e (record {
  long = rw length_push (let l = so.long in omega arith);
  is = λ k d f l. let long = so.long in elim (cases_lt k n) [
    | inl h ↦ get_or_append_left borders (b ∷ []) f k (omega arith) ∙ so.is k d f h
    | inr h ↦ let g : k ≡ n = omega arith in
        let last : get_or (borders ++ b ∷ []) k f ≡ b = get_or_push borders b f k (omega arith) in
        let rect : get_or rects n d ≡ r = get_or_default rects n d r within ∙ sym at in
        last ∙ is ∙ ap (λ c. first_border upright c n) (sym rect) ∙ ap (λ m. first_border upright (get_or rects m d) m) (sym g)
  ];
})

first_long : (upright : Bool) (r : Corners) (n : ℕ) → HasCell r → (first_border upright r n).from <ℤ (first_border upright r n).to
first_long true r n h = h.1
first_long false r n h = h.0

first_apart : (upright : Bool) (a b : Corners) (m n : ℕ) → HasCell a → HasCell b → AreApart a b
    → ¬ AreAlong (first_border upright a m) (first_border upright b n)
first_apart true a b m n h g apart w = let e = w.line in let f = w.above in let k = w.below in
    elim (apart_sides a b apart) [ inl s ↦ absurd (omega signed) | inr s ↦ absurd (omega signed) ]
first_apart false a b m n h g apart w = let e = w.line in let f = w.above in let k = w.below in
    elim (apart_sides a b apart) [ inl s ↦ absurd (omega signed) | inr s ↦ absurd (omega signed) ]

pub first_longs : (upright : Bool) (rects : List Corners) (n : ℕ) (borders : List Border) → n ≤ length rects
    → All HasCell rects → FirstSoFar upright rects n borders → All (λ b. b.from <ℤ b.to) borders
first_longs upright rects n borders short have so k e l = let long = so.long in let d : Corners = corner_of e in
    rw (so.is k d e (omega arith)) (first_long upright (get_or rects k d) k (have k d (omega arith)))

pub first_aparts : (upright : Bool) (rects : List Corners) (n : ℕ) (borders : List Border) → n ≤ length rects
    → All HasCell rects → AllPairs AreApart rects → FirstSoFar upright rects n borders
    → AllPairs (λ a b. ¬ AreAlong a b) borders
first_aparts upright rects n borders short have apart so i j e h l = let long = so.long in let d : Corners = corner_of e in
    rw (so.is i d e (omega arith), so.is j d e (omega arith)) (first_apart upright (get_or rects i d) (get_or rects j d) i j
    (have i d (omega arith)) (have j d (omega arith)) (apart i j d h (omega arith)))

-- all first borders, in whatever order
pub first_all : (upright : Bool) (rects : List Corners) (n : ℕ) (borders sorted : List Border)
    → n ≤ length rects → length rects ≤ n → FirstSoFar upright rects n borders → IsPermutation borders sorted
    → AreBorders upright rects sorted
first_all upright rects n borders sorted short whole so p = let long = so.long in record {
  each = λ b c. let (k, l, e) = Contains-permutation sorted borders b (IsPermutation-sym borders sorted p) c in
      (k, omega arith, λ d. sym e ∙ so.is k d b (omega arith));
  all = λ i d l. Contains-permutation borders sorted _ p (i, omega arith, so.is i d _ (omega arith));
}

-- a border, where one is read past the end of a list
abbrev pub blank : Border
blank = record { line = pos 0; from = pos 0; to = pos 0; number = 0 }

-- ---- the place from which on borders may lie along one

-- on one line the test compares ends alone
pub test_on_line : (a b : Border) → IsOnLineOf b a → is_before a b ≡ int_le a.to b.from
test_on_line a b e = grind (arith, ints)

pub ends_rise : (borders : List Border) (b : Border) (ends : List ℤ) → AreInOrder borders → All (IsOnLineOf b) borders
    → ends ≡ map (λ c. c.to) borders → AreRising ends
ends_rise borders b ends o on e = rw e (λ i j d h l.
    let n = length-map borders (λ (c : Border). c.to) in
    let f = get_or-map (λ (c : Border). c.to) borders i blank d (omega arith) in
    let g = get_or-map (λ (c : Border). c.to) borders j blank d (omega arith) in
    let a = get_or borders i blank in
    let c = get_or borders j blank in
    further _ _ a c f g (stands_before a c (o.order i j blank h (omega arith))) (on i blank (omega arith)) (on j blank (omega arith))
    (o.long j blank (omega arith)))
  where
    further : (y z : ℤ) (a c : Border) → y ≡ a.to → z ≡ c.to → StandsBefore a c → IsOnLineOf b a → IsOnLineOf b c → c.from <ℤ c.to → y <ℤ z
    further y z a c f g (inl h) m n long = absurd (omega signed)
    further y z a c f g (inr (e, h)) m n long = omega signed

no_at_most : (y z : ℤ) → z <ℤ y → int_le y z ≡ false
no_at_most y z h = grind (arith, ints)

pub ends_before : (borders : List Border) (b : Border) (ends : List ℤ) (place : ℕ) → All (IsOnLineOf b) borders
    → ends ≡ map (λ c. c.to) borders → IsPlacePast ends b.from place
    → (k : ℕ) (d : Border) → k < place → is_before (get_or borders k d) b ≡ true
ends_before borders b ends place on e p k d h =
    let n : length ends ≡ length borders = rw e (length-map borders (λ (c : Border). c.to)) in
    let w = p.within in
    let f : get_or ends k d.to ≡ (get_or borders k d).to = rw e (get_or-map (λ (c : Border). c.to) borders k d d.to (omega arith)) in
    test_on_line (get_or borders k d) b (on k d (omega arith)) ∙ at_most_test _ _ (subst (λ z. z ≤ℤ b.from) f (p.low k d.to h))

pub ends_behind : (borders : List Border) (b : Border) (ends : List ℤ) (place : ℕ) → All (IsOnLineOf b) borders
    → ends ≡ map (λ c. c.to) borders → IsPlacePast ends b.from place
    → (k : ℕ) (d : Border) → place ≤ k → k < length borders → is_before (get_or borders k d) b ≡ false
ends_behind borders b ends place on e p k d h l =
    let n : length ends ≡ length borders = rw e (length-map borders (λ (c : Border). c.to)) in
    let f : get_or ends k d.to ≡ (get_or borders k d).to = rw e (get_or-map (λ (c : Border). c.to) borders k d d.to l) in
    test_on_line (get_or borders k d) b (on k d l) ∙ no_at_most _ _ (subst (λ z. b.from <ℤ z) f (p.high k d.to h (omega arith)))

-- ---- the pairs of a border and those along it, from a place on

pub record AlongUpTo (border : Border) (borders : List Border) (k : ℕ) (pairs new : List (ℕ × ℕ)) : Type 0 where
  pub kept : (p : ℕ × ℕ) → Contains pairs p → Contains new p
  pub all : (m : ℕ) (d : Border) → m < k → AreAlong border (get_or borders m d) → Contains new (pair_of border (get_or borders m d))
  pub each : (p : ℕ × ℕ) → Contains new p → Contains pairs p ⊎
      ((b : Border) × Contains borders b × AreAlong border b × (p ≡ pair_of border b))

pub along_start : (border : Border) (borders : List Border) (k : ℕ) (pairs : List (ℕ × ℕ))
    → ((m : ℕ) (d : Border) → m < k → is_before (get_or borders m d) border ≡ true)
    → AlongUpTo border borders k pairs pairs
along_start border borders k pairs before = record {
  kept = λ p c. c;
  all = λ m d l w. absurd (before_misses (get_or borders m d) border (stands_before (get_or borders m d) border (before m d l)) w);
  each = λ p c. inl c;
}

pub along_more : (border : Border) (borders : List Border) (k : ℕ) (pairs so new : List (ℕ × ℕ)) (b : Border)
    → k < length borders → ((d : Border) → get_or borders k d ≡ b) → AreAlong border b
    → new ≡ so ++ pair_of border b ∷ [] → AlongUpTo border borders k pairs so
    → AlongUpTo border borders (k + 1) pairs new
along_more border borders k pairs so new b l at w e a = rw e (record {
  kept = λ p c. Contains-append_left so (pair_of border b ∷ []) p (a.kept p c);
  all = λ m d h v. elim (cases_lt m k) [
    | inl g ↦ Contains-append_left so (pair_of border b ∷ []) _ (a.all m d g v)
    | inr g ↦ let f : m ≡ k = omega arith in
        let is : get_or borders m d ≡ b = ap (λ i. get_or borders i d) f ∙ at d in
        subst (λ c. Contains (so ++ pair_of border b ∷ []) (pair_of border c)) (sym is) (Contains-push so (pair_of border b))
  ];
  each = λ p c. elim (Contains-push_cases so (pair_of border b) p c) [
    | inl h ↦ a.each p h
    | inr h ↦ inr (b, (k, l, at b), w, sym h)
  ];
})

-- none from the place on lies along a border that the one there does not lie along
none_behind : (border a b : Border) → ¬ StandsBefore a border → ¬ AreAlong border a → a.from <ℤ a.to → StandsBefore a b → ¬ AreAlong border b
none_behind border a b n m long (inl h) w = let e = w.line in absurd (n (inl (omega signed)))
none_behind border a b n m long (inr (e, h)) w = let f = w.line in let g = w.below in
    by_lt_z border.from a.to
    (λ l. absurd (m (record { line = f ∙ sym e; above = l; below = omega signed })))
    (λ l. absurd (n (inr (e ∙ sym f, l))))

pub along_all : (border : Border) (borders : List Border) (k : ℕ) (pairs new : List (ℕ × ℕ))
    → length borders ≤ k → AlongUpTo border borders k pairs new → AddsAlong border borders pairs new
along_all border borders k pairs new whole a = record {
  kept = a.kept;
  all = λ b (m, l, e) w. subst (λ c. Contains new (pair_of border c)) e (a.all m b (omega arith) (subst (λ c. AreAlong border c) (sym e) w));
  each = a.each;
}

pub along_end : (border : Border) (borders : List Border) (k : ℕ) (pairs new : List (ℕ × ℕ)) (c : Border)
    → AreInOrder borders → k < length borders → ((d : Border) → get_or borders k d ≡ c)
    → is_before c border ≡ false → ¬ AreAlong border c → AlongUpTo border borders k pairs new
    → AddsAlong border borders pairs new
along_end border borders k pairs new c o within at before misses a = record {
  kept = a.kept;
  all = λ b (m, l, e) w. elim (cases_lt m k) [
    | inl h ↦ subst (λ c. Contains new (pair_of border c)) e (a.all m b h (subst (λ c. AreAlong border c) (sym e) w))
    | inr h ↦ elim (cases_lt k m) [
      | inl g ↦
          let order : StandsBefore c b = subst (λ x. StandsBefore x b) (at b) (subst (λ x. StandsBefore (get_or borders k b) x) e
          (stands_before (get_or borders k b) (get_or borders m b) (o.order k m b g l))) in
          let long : c.from <ℤ c.to = subst (λ x. x.from <ℤ x.to) (at b) (o.long k b within) in
          absurd (none_behind border c b (λ s. both_ways _ before (before_test c border s)) misses long order w)
      | inr g ↦ let f : m ≡ k = omega (arith, h, g) in
          let is : b ≡ c = sym e ∙ ap (λ i. get_or borders i b) f ∙ at b in
          absurd (misses (subst (λ x. AreAlong border x) is w))
    ]
  ];
  each = a.each;
}
