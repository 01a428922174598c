-- What the order of two integers says, and lists whose keys do not fall.
use Rattle.std.proofs.Common.{arith, ◌≡◌, suc, ℤ, ◌<ℤ◌, ◌≤ℤ◌, List, get_or, ◌∷◌, All, Ordering, false}
use Rattle.std.proofs.Common.{Less, Equal, Greater}
use Rattle.std.specs.Ordering.{int_cmp, is_lt, MatchOrdering}
use Rattle.std.specs.Cmp.{int_ranks}
use Rattle.std.specs.List.Sorted.{IsSortedByKey}
use Rattle.std.proofs.lemmas.Cmp.{int_cmp_total}
use Rattle.std.proofs.lemmas.List.Sorted.{sorted_far, ranks_by}
use Rattle.dpl_list.specs.Order.{Ascends}
use Rattle.dpl_list.proofs.Integers.{signed}

by_order : (P Q R : Type 0) (r s : Ordering) → MatchOrdering r P Q R → r ≡ s → MatchOrdering s P Q R
by_order P Q R r s m e = rw e at m

-- what the order of two numbers says
pub equal_by_order : (a b : ℤ) → int_cmp a b ≡ Equal → a ≡ b
equal_by_order a b e = by_order _ _ _ _ _ (int_ranks a b) e

pub less_by_order : (a b : ℤ) → int_cmp a b ≡ Less → a <ℤ b
less_by_order a b e = by_order _ _ _ _ _ (int_ranks a b) e

pub greater_by_order : (a b : ℤ) → int_cmp a b ≡ Greater → b <ℤ a
greater_by_order a b e = by_order _ _ _ _ _ (int_ranks a b) e

ranked_low : (x y : ℤ) (r : Ordering) → MatchOrdering r (x <ℤ y) (x ≡ y) (y <ℤ x) → is_lt r ≡ false → y ≤ℤ x
ranked_low x y Less m e = cc
ranked_low x y Equal m e = omega signed
ranked_low x y Greater m e = omega signed

pub ascends_from_sorted : {X : Type 0} (key : X → ℤ) (xs : List X) → IsSortedByKey key int_cmp xs → Ascends key xs
ascends_from_sorted {X} key xs s i j d h l =
    ranked_low (key (get_or xs j d)) (key (get_or xs i d)) _ (int_ranks (key (get_or xs j d)) (key (get_or xs i d)))
    (sorted_far (λ x y. is_lt (int_cmp (key x) (key y))) (ranks_by int_cmp_total key) xs s i j d h l)

pub ascends_tail : {X : Type 0} (key : X → ℤ) (x : X) (rest xs : List X) → xs ≡ x ∷ rest → Ascends key xs → Ascends key rest
ascends_tail key x rest xs e a i j d h l = let a' : Ascends key (x ∷ rest) = rw e at a in a' (suc i) (suc j) d (omega arith) (omega arith)

pub ascends_head : {X : Type 0} (key : X → ℤ) (x : X) (rest xs : List X) → xs ≡ x ∷ rest → Ascends key xs → All (λ y. key x ≤ℤ key y) rest
ascends_head key x rest xs e a k d l = let a' : Ascends key (x ∷ rest) = rw e at a in a' 0 (suc k) d (omega arith) (omega arith)
