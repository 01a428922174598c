-- The state of moats that grow, and the keys of ways and sets.
use Rattle.std.specs.Prelude.{true, ◌≡◌, ◌≢◌, ℕ, ◌+◌, ◌*◌, ◌%◌, ◌^◌, ◌<◌, ◌≤◌, ◌==◌, ◌⊎◌, if◌then◌else◌, Bool, false, Some, List, ◌∷◌, length, slice_index, slice_index_or, All}
use Rattle.dpl_laminar.specs.Families.{has}
use Rattle.dpl_laminar.specs.Storing.{sets_of}
use Rattle.dpl_dual.specs.declared.crosses.Dual.{Dual}
use Rattle.dpl_dual.specs.Chains.{IsAt}
use Rattle.dpl_dual.specs.Duals.{way_at}
use Rattle.dpl_tree.specs.Views.{place_in}
use Rattle.dpl_pack.specs.Nests.{inner_of}
use Rattle.dpl_pack.specs.Points.{water, on}
use Rattle.dpl_pack.specs.Tides.{place_of}
use Rattle.dpl_flood.specs.declared.state.State.{State}
use Rattle.dpl_flood.specs.declared.ways.Step.{Step}
use Rattle.dpl_flood.specs.Arenas.{AreNodes, node_at}
use Rattle.dpl_flood.specs.Holdings.{node_of, stack_of, point_of}
use Rattle.dpl_flood.specs.Queues.{never}
use Rattle.dpl_flood.specs.Rates.{gains_in, losses_in}
use Rattle.dpl_flood.specs.Seas.{Sea, IsSea, IsSeaDue, AreNow, AreHeldBy, Takes, Leaves, noted_at, stack_with, span_of, due_of}

-- what the lists of a state say
abbrev pub sea_of : State → Sea
sea_of x = record {
  sets = sets_of x.family;
  point = point_of x.arena x.held;
  gain = gains_in (place_in x.tree.labels.items);
  loss = losses_in (place_in x.tree.labels.items);
  rests = λ k. slice_index_or x.rests.items k false;
  time = x.time;
}

-- What moats grow in: ways between faces of one part, even and short. A way is no longer than the time may be.
pub record IsGround (d : Dual) : Type 0 where
  pub inside : All (λ x. (x.f < d.faces) × (x.g < d.faces)) d.crosses
  pub part : All (λ x. slice_index d.part x.f ≡ slice_index d.part x.g) d.crosses
  pub even : All (λ x. x.length % 2 ≡ 0) d.crosses
  pub short : All (λ x. x.length ≤ 2 ^ 50) d.crosses
  pub few : length d.crosses < 2 ^ 32

-- the lists have a place for each face, each set and each member
pub record IsSized (d : Dual) (x : State) : Type 0 where
  pub seats : length x.seats ≡ (sets_of x.family).size
  pub faces : length x.held.nodes ≡ d.faces
  pub stacks : length x.held.stacks ≡ 2 * (sets_of x.family).size
  pub labels : length x.tree.labels.items ≡ 2 * (sets_of x.family).size
  pub rests : length x.rests.items ≡ 2 * (sets_of x.family).size
  pub inners : length x.inners.items ≡ (sets_of x.family).size

-- What a state keeps: it is a sea whose faces stand on the stacks of their sets, each at the end of a chain from the seat of
-- its member.
pub record IsState (d : Dual) (x : State) : Type 0 where
  pub ground : IsGround d
  pub sized : IsSized d x
  pub sea : IsSea d x.seats (sea_of x)
  pub early : x.time ≤ 2 ^ 50
  pub held : AreHeldBy x.seats (sea_of x) (stack_of x.held)
  pub chains : AreNodes d.crosses x.arena
  pub ends : (g a : ℕ) → node_of x.held g ≡ Some a → (a < length x.arena) × ((node_at x.arena a).face ≡ g)
  -- what the sets strictly inside its top have for a member
  pub inner : (t : ℕ) → t < (sets_of x.family).size →
      slice_index x.inners.items t ≡ inner_of (sets_of x.family) ((sets_of x.family).top t) t

-- When a top leaves its last face, or where it has none ends, if it falls.
abbrev pub fall_of : Sea → (ℕ → List ℕ) → ℕ → ℕ
fall_of s stack k = if s.loss k == 1 then s.time + span_of s stack k else never

-- a way leads from a face to another one
pub record IsWayFrom (d : Dual) (face w : ℕ) : Type 0 where
  pub inside : w < length d.crosses
  pub at : IsAt (way_at d.crosses w) face
  pub differ : (way_at d.crosses w).f ≢ (way_at d.crosses w).g

-- The keys of the ways from a face are set anew: they are what is due there, and all other keys are as they were.
pub record AreKeyedAround (d : Dual) (s : Sea) (face : ℕ) (old new : List ℕ) : Type 0 where
  pub sizes : length new ≡ length old
  pub at : (w : ℕ) → IsWayFrom d face w → slice_index new w ≡ due_of d s never w
  pub others : (p : ℕ) → (IsWayFrom d face p → ⊥) → slice_index new p ≡ slice_index old p

-- The keys of the ways from the first faces, as far as these stand on a top, are set anew: they are what is due there. Each other key
-- is as it was, or what is due too.
pub record AreKeyedOn (d : Dual) (s : Sea) (top count : ℕ) (old new : List ℕ) : Type 0 where
  pub sizes : length new ≡ length old
  pub at : (g w : ℕ) → g < count → place_of s.sets (s.point g) ≡ top → IsWayFrom d g w → slice_index new w ≡ due_of d s never w
  pub others : (p : ℕ) → (slice_index new p ≡ slice_index old p) ⊎ ((p < length d.crosses) × (slice_index new p ≡ due_of d s never p))

-- the keys of sets stand behind those of the ways
abbrev pub top_keys : Dual → List ℕ → ℕ → ℕ
top_keys d keys k = slice_index keys (length d.crosses + k)

-- The keys tell when something comes, and none is before now.
pub record AreKeys (d : Dual) (x : State) (keys : List ℕ) : Type 0 where
  pub places : length keys ≡ length d.crosses + 2 * (sets_of x.family).size
  pub due : IsSeaDue d (sea_of x) (slice_index keys) (top_keys d keys)
  pub now : AreNow d (sea_of x) (slice_index keys) (top_keys d keys)

-- a top has taken a face at its shore
pub record IsTaken (d : Dual) (x y : State) (face : ℕ) : Type 0 where
  pub member : ℕ
  pub far : ℕ
  pub takes : Takes d x.seats (sea_of x) face member far
  pub seats : y.seats ≡ x.seats
  pub sea : sea_of y ≡ noted_at (sea_of x) face (on member far)
  pub stacks : stack_of y.held ≡ stack_with (stack_of x.held) ((sets_of x.family).top member)
      (face ∷ stack_of x.held ((sets_of x.family).top member))

-- a set has left the last face on its stack
pub record IsLeft (x y : State) (set face : ℕ) : Type 0 where
  pub member : ℕ
  pub far : ℕ
  pub rest : List ℕ
  pub last : stack_of x.held set ≡ face ∷ rest
  pub leaves : Leaves x.seats (sea_of x) face member far
  pub seats : y.seats ≡ x.seats
  pub sea : sea_of y ≡ noted_at (sea_of x) face water
  pub stacks : stack_of y.held ≡ stack_with (stack_of x.held) set rest

-- ---- while keys are set anew; no public clause speaks of what follows

-- the way of the step at a place
abbrev pub way_in : List Step → ℕ → ℕ
way_in steps i = (slice_index_or steps i (record { to = 0; way = 0 })).way

-- the keys of the ways of the first of these steps are what is due there, and all other keys are as they were
pub record AreKeyed (d : Dual) (s : Sea) (steps : List Step) (i : ℕ) (old new : List ℕ) : Type 0 where
  pub sizes : length new ≡ length old
  pub done : (j : ℕ) → j < i → slice_index new (way_in steps j) ≡ due_of d s never (way_in steps j)
  pub others : (p : ℕ) → ((j : ℕ) → j < i → way_in steps j ≢ p) → slice_index new p ≡ slice_index old p

-- The keys of the ways from these faces are what is due there. Each other key is as it was, or what is due too.
pub record AreKeyedFor (d : Dual) (s : Sea) (faces : ℕ → Type 0) (old new : List ℕ) : Type 0 where
  pub sizes : length new ≡ length old
  pub at : (g w : ℕ) → faces g → IsWayFrom d g w → slice_index new w ≡ due_of d s never w
  pub others : (p : ℕ) → (slice_index new p ≡ slice_index old p) ⊎ ((p < length d.crosses) × (slice_index new p ≡ due_of d s never p))

-- a face on the stack of a set stands on a top
abbrev pub IsStackedOn : Sea → (ℕ → List ℕ) → ℕ → ℕ → ℕ → Type 0
IsStackedOn s stack top k g = (has (stack k) g ≡ true) × (place_of s.sets (s.point g) ≡ top)

-- the seats of the first of these members
abbrev pub SeatsOf : List ℕ → List ℕ → ℕ → ℕ → Type 0
SeatsOf seats members count g = (i : ℕ) × ((i < count) × (slice_index seats (slice_index members i) ≡ g))

-- the faces on the stacks of the singles of the first of these members, and of the sets that have their numbers from these, as far
-- as the faces stand on a top
abbrev pub StacksOf : Sea → (ℕ → List ℕ) → ℕ → List ℕ → ℕ → ℕ → Type 0
StacksOf s stack top members count g = (i : ℕ) × ((i < count) ×
    (IsStackedOn s stack top (slice_index members i) g ⊎ IsStackedOn s stack top (s.sets.size + slice_index members i) g))

-- a face stands on one of these tops
abbrev pub stands_among : Sea → List Bool → ℕ → Bool
stands_among s tops g = slice_index_or tops (place_of s.sets (s.point g)) false

-- the seats of the first members, as far as these have one of these tops
abbrev pub SeatsAmong : Sea → List ℕ → List Bool → ℕ → ℕ → Type 0
SeatsAmong s seats tops count g = (t : ℕ) × ((t < count) × ((slice_index_or tops (s.sets.top t) false ≡ true) × (slice_index seats t ≡ g)))

-- the faces on the stacks of the first sets, as far as these stand on one of these tops
abbrev pub StacksAmong : Sea → (ℕ → List ℕ) → List Bool → ℕ → ℕ → Type 0
StacksAmong s stack tops count g = (k : ℕ) × ((k < count) × ((has (stack k) g ≡ true) × (stands_among s tops g ≡ true)))
