-- Odd walks, and the first passage that overloads its edge.
use Rattle.std.specs.Prelude.{◌≡◌, ℕ, ◌*◌, ◌<◌, false, List, [], ◌∷◌, ◌++◌, length, All}
use Rattle.dpl_sign.specs.declared.graphs.Signed.{Signed}
use Rattle.dpl_sign.specs.declared.walks.Cycle.{Cycle}
use Rattle.dpl_sign.specs.Kinds.{is_bond}
use Rattle.dpl_sign.specs.Walks.{edge_at, IsOddWalk}
use Rattle.dpl_sign.specs.Packings.{load, OverloadsNoEdge}

-- the passages before this one overload nothing, and with this one the edge has more than its limit
pub record IsOver (g : Signed) (ps : List (ℕ × ℕ)) (edge carried limit : ℕ) : Type 0 where
  pub before : List (ℕ × ℕ)
  pub half : ℕ
  pub after : List (ℕ × ℕ)
  pub passages : ps ≡ before ++ (edge, half) ∷ after
  pub within : OverloadsNoEdge g before
  pub inside : edge < length g.edges
  pub firm : is_bond (edge_at g edge).kind ≡ false
  pub carries : carried ≡ load (before ++ (edge, half) ∷ []) edge
  pub limit_is : limit ≡ 2 * (edge_at g edge).weight
  pub over : limit < carried

abbrev pub AreOdd : Signed → List Cycle → Type 0
AreOdd g cs = All (λ b. IsOddWalk g b.walk) cs
