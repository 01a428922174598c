-- Lists that end, and lists with a first item.
use Rattle.std.proofs.Common.{arith, length, ◌≡◌, ℕ, List, [], ◌∷◌, refl, subst, None}
use Rattle.std.specs.Prelude.{ℤ, All}
use Rattle.std.proofs.lemmas.List.Elements.{All-head}
use Rattle.dpl_good.specs.Misses.{numbers_miss}

-- against no numbers nothing differs
pub no_numbers : (place : ℕ) (xs ys : List ℤ) → length ys ≡ 0 → numbers_miss place xs ys ≡ None
no_numbers place [] ys e = refl
no_numbers place (x ∷ xs) [] e = refl
no_numbers place (x ∷ xs) (y ∷ ys) e = absurd (omega arith)

-- what holds of all holds of the first
pub All-first : {X : Type 0} (P : X → Type 0) (x : X) (xs ys : List X) → ys ≡ x ∷ xs → All P ys → P x
All-first P x xs ys e h = All-head P x xs (subst (All P) e h)
