-- Groups of nodes that lead to one another (the strongly connected components; Purdom 1970, Gabow 2000).
use Rattle.std.specs.Prelude.{ℕ, ◌<◌, ◌≤◌, ◌≡◌, List, length}
use Rattle.std.proofs.Math.ListN.{get_or}
use Rattle.dpl_groups.specs.Graph.{Graph, IsEdge, Reaches}

-- The number of each node's group, and of each group one of its nodes.
pub record AreGroups (g : Graph) (labels heads : List ℕ) : Type 0 where
  -- each node has a number
  pub size : length labels ≡ length g
  -- no edge leads to a greater number
  pub downward : (x y : ℕ) → x < length g → IsEdge g x y → get_or labels y 0 ≤ get_or labels x 0
  -- nodes of one group lead to one another
  pub joined : (x y : ℕ) → x < length g → y < length g → get_or labels x 0 ≡ get_or labels y 0 →
      Reaches g x y
  -- each number has a group, and each group a node
  pub numbered : (x : ℕ) → x < length g → get_or labels x 0 < length heads
  pub headed : (l : ℕ) → l < length heads → get_or heads l 0 < length g
  pub own : (l : ℕ) → l < length heads → get_or labels (get_or heads l 0) 0 ≡ l
