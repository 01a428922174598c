-- Which chain holds each face, and which faces each set took.
use Rattle.std.specs.Prelude.{ℕ, ◌==◌, if◌then◌else◌, Option, Some, None, List, [], ◌∷◌, slice_index_or, slice_set}
use Rattle.dpl_pack.specs.Points.{Point, water, on}
use Rattle.dpl_flood.specs.declared.nodes.Node.{Node}
use Rattle.dpl_flood.specs.declared.stamped.Entry.{Entry}
use Rattle.dpl_flood.specs.Arenas.{node_at}

-- by face the node of the chain that holds it, and by set the faces that it took, the last one first
pub record Holding : Type 0 where
  pub nodes : List (Option ℕ)
  pub stacks : List (List ℕ)

abbrev pub node_of : Holding → ℕ → Option ℕ
node_of x g = slice_index_or x.nodes g None

abbrev pub stack_of : Holding → ℕ → List ℕ
stack_of x k = slice_index_or x.stacks k []

-- a face is held by a chain
abbrev pub seated : Holding → ℕ → ℕ → Holding
seated x face a = record { nodes = slice_set x.nodes face (Some a); stacks = x.stacks }

-- a set takes a face by a chain
abbrev pub pushed : Holding → ℕ → ℕ → ℕ → Holding
pushed x set face a = record { nodes = slice_set x.nodes face (Some a); stacks = slice_set x.stacks set (face ∷ stack_of x set) }

-- a set leaves a face, and has the others of its stack
abbrev pub popped : Holding → ℕ → ℕ → List ℕ → Holding
popped x set face rest = record { nodes = slice_set x.nodes face None; stacks = slice_set x.stacks set rest }

-- the point at the end of a chain, or open water
abbrev pub point_at : List Node → Option ℕ → Point
point_at nodes None = water
point_at nodes (Some a) = on (node_at nodes a).member (node_at nodes a).far

-- where a face stands
abbrev pub point_of : List Node → Holding → ℕ → Point
point_of nodes x g = point_at nodes (node_of x g)

-- what an entry has under a stamp
abbrev pub number_under : ℕ → Entry → Option ℕ
number_under stamp entry = if entry.stamp == stamp then Some entry.number else None
