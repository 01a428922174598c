-- Directed graphs: for each node, the nodes that its edges lead to.
use Rattle.std.specs.Prelude.{ℕ, ◌<◌, ◌≡◌, ◌⊎◌, List, [], length}
use Rattle.std.proofs.Math.ListN.{get_or}

abbrev pub Graph : Type 0
Graph = List (List ℕ)

abbrev pub next_of : Graph → ℕ → List ℕ
next_of g x = get_or g x []

-- one of the edges of x leads to y
pub record IsEdge (g : Graph) (x y : ℕ) : Type 0 where
  pub k : ℕ
  pub within : k < length (next_of g x)
  pub there : get_or (next_of g x) k 0 ≡ y

-- a path of one or more edges
pub data Leads (g : Graph) : ℕ → ℕ → Type 0 where
  once : (x y : ℕ) → IsEdge g x y → Leads g x y
  more : (x y z : ℕ) → IsEdge g x y → Leads g y z → Leads g x z

-- a path of any number of edges
abbrev pub Reaches : Graph → ℕ → ℕ → Type 0
Reaches g x y = (x ≡ y) ⊎ Leads g x y

-- each edge leads to a node
abbrev pub IsGraph : Graph → Type 0
IsGraph g = (x y : ℕ) → IsEdge g x y → y < length g
