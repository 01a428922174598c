-- Sums over the items of a list.
use Rattle.std.proofs.Common.{arith, ◌≡◌, ℕ, ◌+◌, refl, List, [], ◌∷◌, All}
use Rattle.std.specs.List.{sum_by}
use Rattle.std.proofs.lemmas.List.Sums.{sum_by-cons}
use Rattle.std.proofs.lemmas.List.Elements.{All-head, All-tail}

-- functions that agree at each item have one sum
pub sum_by_alike : {X : Type 0} (f g : X → ℕ) (xs : List X) → All (λ x. f x ≡ g x) xs → sum_by f xs ≡ sum_by g xs
sum_by_alike f g [] h = refl
sum_by_alike f g (x ∷ xs) h = omega (
  arith,
  sum_by-cons f x xs,
  sum_by-cons g x xs,
  All-head (λ y. f y ≡ g y) x xs h,
  sum_by_alike f g xs (All-tail (λ y. f y ≡ g y) x xs h),
)

-- a sum of sums is the sum of both
pub sum_by_two : {X : Type 0} (f g : X → ℕ) (xs : List X) → sum_by (λ x. f x + g x) xs ≡ sum_by f xs + sum_by g xs
sum_by_two f g [] = refl
sum_by_two f g (x ∷ xs) =
    omega (arith, sum_by_two f g xs, sum_by-cons f x xs, sum_by-cons g x xs, sum_by-cons (λ y. f y + g y) x xs)
