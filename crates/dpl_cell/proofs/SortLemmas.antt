-- Things with corners in the order of their lower left ones.
use Rattle.std.proofs.Common.{arith, ◌≡◌, ◌<ℤ◌, List, get_or, AllPairs, sym, inl, inr, Bool, false, ◌&&◌, Ordering, Less, Equal, Greater}
use Rattle.std.specs.Ordering.{int_eq, int_cmp, is_lt, ordering_then, MatchOrdering}
use Rattle.std.specs.Cmp.{int_ranks, IsTotalOrder}
use Rattle.std.specs.List.{IsDistinct}
use Rattle.std.specs.List.Sorted.{IsPermutation, IsSortedBy}
use Rattle.std.proofs.lemmas.Cmp.{int_cmp_total, then_total, on_total}
use Rattle.std.proofs.lemmas.Int.{ints, by_lt_z}
use Rattle.std.proofs.lemmas.List.Sorted.{sorted_far, ranks_by}
use Rattle.std.proofs.lemmas.Map.Keys.{IsDistinct-IsPermutation, IsDistinct-from_apart, apart_from_distinct}
use Rattle.dpl_list.proofs.Integers.{signed}
use Rattle.dpl_cell.specs.Places.{Corners}
use Rattle.dpl_cell.specs.Tiles.{IsBefore, IsNotAfter}
use Rattle.dpl_cell.proofs.BoxLemmas.{equal_z}

-- ---- from a sort

by_corner : Corners → Corners → Ordering
by_corner a b = ordering_then (int_cmp a.y1 b.y1) (int_cmp a.x1 b.x1)

by_corner_total : IsTotalOrder by_corner
unfolding by_corner
by_corner_total = then_total (on_total (λ (r : Corners). r.y1) int_cmp_total) (on_total (λ (r : Corners). r.x1) int_cmp_total)

in_order : (a b : Corners) (r s : Ordering) → MatchOrdering r (b.y1 <ℤ a.y1) (b.y1 ≡ a.y1) (a.y1 <ℤ b.y1)
    → MatchOrdering s (b.x1 <ℤ a.x1) (b.x1 ≡ a.x1) (a.x1 <ℤ b.x1) → is_lt (ordering_then r s) ≡ false
    → IsNotAfter a b
in_order a b Less s m n e = cc
in_order a b Equal Less m n e = cc
in_order a b Equal Equal m n e = inr (sym m, omega signed)
in_order a b Equal Greater m n e = inr (sym m, omega signed)
in_order a b Greater s m n e = inl m

-- in a sorted list no lower left corner stands before an earlier one
pub not_after : {X : Type 0} (at : X → Corners) (xs : List X)
    → IsSortedBy (λ p q. is_lt (ordering_then (int_cmp (at p).y1 (at q).y1) (int_cmp (at p).x1 (at q).x1))) xs
    → AllPairs (λ p q. IsNotAfter (at p) (at q)) xs
unfolding by_corner
not_after at xs s i j d h l =
    let a = at (get_or xs i d) in let b = at (get_or xs j d) in
    in_order a b _ _ (int_ranks b.y1 a.y1) (int_ranks b.x1 a.x1)
    (sorted_far (λ p q. is_lt (by_corner (at p) (at q))) (ranks_by by_corner_total at) xs s i j d (omega arith) l)

-- ---- where no two have one lower left corner

-- two rectangles have the same lower left corner
abbrev pub BeginTogether : Corners → Corners → Type 0
BeginTogether a b = (a.x1 ≡ b.x1) × (a.y1 ≡ b.y1)

begins_with : Corners → Corners → Bool
begins_with a b = int_eq a.x1 b.x1 && int_eq a.y1 b.y1

flips : (a b : Corners) → begins_with a b ≡ begins_with b a
unfolding begins_with
flips a b = grind (arith, ints)

begins_test : (a b : Corners) → ¬ BeginTogether a b → begins_with a b ≡ false
unfolding begins_with
begins_test a b n = grind (arith, ints)

test_begins : (a b : Corners) → begins_with a b ≡ false → ¬ BeginTogether a b
unfolding begins_with
test_begins a b t (e, f) = grind (arith, ints)

before : (a b : Corners) → IsNotAfter a b → ¬ BeginTogether a b → IsBefore a b
before a b (inl h) n = inl h
before a b (inr (e, h)) n = inr (e, by_lt_z a.x1 b.x1 (λ g. g) (λ g. absurd (n (equal_z a.x1 b.x1 h g, e))))

-- each stands before the next once they are sorted
pub before_sorted : {X : Type 0} (at : X → Corners) (xs sorted : List X)
    → AllPairs (λ p q. ¬ BeginTogether (at p) (at q)) xs → IsPermutation xs sorted
    → AllPairs (λ p q. IsNotAfter (at p) (at q)) sorted → AllPairs (λ p q. IsBefore (at p) (at q)) sorted
before_sorted at xs sorted apart p up i j d h l =
    let same : IsDistinct (λ p q. begins_with (at p) (at q)) xs =
    IsDistinct-from_apart (λ p q. begins_with (at p) (at q)) xs (λ i j d h l. begins_test _ _ (apart i j d h l)) in
    let distinct : IsDistinct (λ p q. begins_with (at p) (at q)) sorted =
    IsDistinct-IsPermutation (λ p q. begins_with (at p) (at q)) (λ p q. flips (at p) (at q)) xs sorted p same in
    before (at (get_or sorted i d)) (at (get_or sorted j d)) (up i j d h l)
    (test_begins _ _ (apart_from_distinct (λ p q. begins_with (at p) (at q)) sorted i j d distinct h l))
