-- The beginning: each odd face is the seat of a member, and all else is open water.
use Rattle.std.specs.Prelude.{◌≡◌, ℕ, ◌<◌, ◌≤◌, Some, List, length, slice_index, All}
use Rattle.dpl_laminar.specs.declared.TheConstants.{MOST_MEMBERS}
use Rattle.dpl_laminar.specs.Storing.{sets_of, AreOnce}
use Rattle.dpl_dual.specs.declared.crosses.Cross.{Cross}
use Rattle.dpl_dual.specs.declared.crosses.Dual.{Dual}
use Rattle.dpl_flood.specs.declared.nodes.Node.{Node}
use Rattle.dpl_flood.specs.declared.state.State.{State}
use Rattle.dpl_flood.specs.Arenas.{AreNodes, IsThere}
use Rattle.dpl_flood.specs.Holdings.{Holding, node_of}
use Rattle.dpl_flood.specs.Queues.{never}
use Rattle.dpl_flood.specs.Seas.{Sea, IsStart, due_of}
use Rattle.dpl_flood.specs.States.{IsState, IsWayFrom, sea_of}

-- different faces of one part, no more than a family has members
pub record AreSeats (d : Dual) (faces : List ℕ) : Type 0 where
  pub few : length faces ≤ MOST_MEMBERS
  pub inside : All (λ g. g < d.faces) faces
  pub part : All (λ g. slice_index d.part g ≡ slice_index d.part (slice_index faces 0)) faces
  pub once : AreOnce faces

-- a state at the beginning, with a member for each seat
pub record HasBegun (d : Dual) (x : State) : Type 0 where
  pub state : IsState d x
  pub start : IsStart d x.seats (sea_of x)
  pub seats : AreSeats d x.seats
  pub members : (sets_of x.family).size ≡ length x.seats

-- ---- while it is made; no public clause speaks of what follows

-- the first of these faces are seats, each with the node of its member, and no other face is held
pub record AreSeated (faces : List ℕ) (count : ℕ) (old : Holding) (nodes : List Node) (x : Holding) : Type 0 where
  pub many : length nodes ≡ count
  pub chains : (ways : List Cross) → AreNodes ways nodes
  pub there : (t : ℕ) → t < count → IsThere nodes t (slice_index faces t) t 0
  pub holds : (t : ℕ) → t < count → node_of x (slice_index faces t) ≡ Some t
  pub only : (g a : ℕ) → node_of x g ≡ Some a → (a < count) × (g ≡ slice_index faces a)
  pub places : length x.nodes ≡ length old.nodes
  pub stacks : x.stacks ≡ old.stacks

-- the ways from the first of these faces have the keys that are due
pub record AreFirst (d : Dual) (s : Sea) (faces : List ℕ) (count : ℕ) (old new : List ℕ) : Type 0 where
  pub sizes : length new ≡ length old
  pub done : (t w : ℕ) → t < count → IsWayFrom d (slice_index faces t) w → slice_index new w ≡ due_of d s never w
