-- The pieces of the nodes of a graph: the classes of its bonds.
use Rattle.std.specs.Prelude.{◌≡◌, ℕ, ◌<◌, List, length, All}

-- a pair of ports for each edge, and one of so many pieces for each node
pub record FitGraph (nodes edges ports : ℕ) (pieces : List ℕ) (piece_count : ℕ) : Type 0 where
  pub ports_per_edge : ports ≡ edges
  pub piece_per_node : length pieces ≡ nodes
  pub piece_numbers : All (λ p. p < piece_count) pieces
