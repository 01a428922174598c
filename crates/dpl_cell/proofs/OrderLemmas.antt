-- Cells have one list of tiles.
use Rattle.std.proofs.Common.{arith, ◌≡◌, inl, inr, ℤ, Bool, List}
use Rattle.std.proofs.lemmas.Int.{ints}
use Rattle.std.proofs.lemmas.List.Elements.{All-contains}
use Rattle.dpl_cell.specs.Places.{Corners}
use Rattle.dpl_cell.specs.Tiles.{IsTile, IsBefore, AreTiles}
use Rattle.dpl_list.proofs.Ordered.{ordered_same}

-- of two rectangles at most one stands before the other
pub before_once : (a b : Corners) → IsBefore a b → IsBefore b a → ⊥
before_once a b (inl h) (inl k) = absurd (omega (arith, ints, h, k))
before_once a b (inl h) (inr k) = absurd (omega (arith, ints, h, k.0))
before_once a b (inr h) (inl k) = absurd (omega (arith, ints, h.0, k))
before_once a b (inr h) (inr k) = absurd (omega (arith, ints, h.1, k.1))

-- cells have one list of tiles
pub tiles_same : (cells : ℤ → ℤ → Bool) (a b : List Corners) → AreTiles cells a → AreTiles cells b → a ≡ b
tiles_same cells a b s t = ordered_same IsBefore before_once a b s.ordered t.ordered
    (λ z c. t.all z (All-contains (IsTile cells) a z s.each c))
    (λ z c. s.all z (All-contains (IsTile cells) b z t.each c))
