-- What comes next of moats, as the first key tells it.
use Rattle.std.specs.Prelude.{◌≡◌, ◌≢◌, ℕ, ◌-◌, ◌*◌, ◌%◌, ◌<◌, ◌⊎◌, true, false, None, if◌then◌else◌, nat_lt, List, [], length, slice_index}
use Rattle.dpl_laminar.specs.Storing.{sets_of}
use Rattle.dpl_dual.specs.declared.crosses.Dual.{Dual}
use Rattle.dpl_dual.specs.Duals.{way_at}
use Rattle.dpl_pack.specs.Points.{total_at}
use Rattle.dpl_flood.specs.declared.event.Crossing.{Crossing}
use Rattle.dpl_flood.specs.declared.event.Event.{Event}
use Rattle.dpl_flood.specs.declared.event.Event.TheVariants.{Take, Grow, Meet, Leave, GiveWay}
use Rattle.dpl_flood.specs.declared.state.State.{State}
use Rattle.dpl_flood.specs.Arenas.{IsOver}
use Rattle.dpl_flood.specs.Holdings.{stack_of}
use Rattle.dpl_flood.specs.Queues.{never}
use Rattle.dpl_flood.specs.Seas.{Sea, HaveMet, HasReached, Drops, due_of, early_keys}
use Rattle.dpl_flood.specs.States.{sea_of, fall_of}

-- a top that grows has come over a way to a face in open water
pub record Reaches (d : Dual) (x : State) (c : Crossing) : Type 0 where
  pub over : IsOver d.crosses c.from c.way c.to
  pub reached : HasReached d x.seats (sea_of x) c.from c.to (way_at d.crosses c.way).length

-- A top that grows has met another one over a way, which gains so much in a unit of time and loses nothing. Neither rests.
pub record Meets (d : Dual) (s : Sea) (gain : ℕ) (c : Crossing) : Type 0 where
  pub over : IsOver d.crosses c.from c.way c.to
  pub met : HaveMet s c.from c.to (way_at d.crosses c.way).length
  pub grows : s.gain (s.sets.top met.one) ≡ 1
  pub gains : s.gain (s.sets.top met.two) ≡ gain
  pub stays : s.loss (s.sets.top met.two) ≡ 0
  pub one_awake : s.rests (s.sets.top met.one) ≡ false
  pub two_awake : s.rests (s.sets.top met.two) ≡ false

-- a top that falls has come down to the last face on its stack
pub record Shrinks (x : State) (k : ℕ) : Type 0 where
  pub inside : k < 2 * (sets_of x.family).size
  pub falls : (sea_of x).loss k ≡ 1
  pub drops : Drops x.seats (sea_of x) (stack_of x.held) k

-- or it has no face on its stack and no value
pub record IsSpent (x : State) (k : ℕ) : Type 0 where
  pub inside : k < 2 * (sets_of x.family).size
  pub falls : (sea_of x).loss k ≡ 1
  pub bare : stack_of x.held k ≡ []
  pub empty : (sets_of x.family).value k ≡ 0

-- an event has come
abbrev pub HasCome : Dual → State → Event → Type 0
HasCome d x (Take c) = Reaches d x c
HasCome d x (Grow c) = Meets d (sea_of x) 0 c
HasCome d x (Meet c) = Meets d (sea_of x) 1 c
HasCome d x (Leave k) = Shrinks x k
HasCome d x (GiveWay k) = IsSpent x k

-- when something comes at a place: those of the sets stand behind those of the ways
abbrev pub due_in : Dual → State → ℕ → ℕ
due_in d x p =
    if nat_lt p (length d.crosses) then due_of d (sea_of x) never p
    else fall_of (sea_of x) (stack_of x.held) (p - length d.crosses)

-- fewer keys are earlier than what is due
abbrev pub IsLater : Dual → State → List ℕ → List ℕ → Type 0
IsLater d x old new =
    early_keys (length old) (due_in d x) (slice_index new) < early_keys (length old) (due_in d x) (slice_index old)

-- The same moats at the same time, whose tops stand another way in the trees.
pub record IsRelabelled (x y : State) : Type 0 where
  pub family : y.family ≡ x.family
  pub seats : y.seats ≡ x.seats
  pub held : y.held ≡ x.held
  pub arena : y.arena ≡ x.arena
  pub time : y.time ≡ x.time
  pub inners : y.inners.items ≡ x.inners.items
  pub labels : length y.tree.labels.items ≡ length x.tree.labels.items
  pub rests : length y.rests.items ≡ length x.rests.items

-- A free top that does not rest, and another one that is paired with it, may go into a tree: their members' totals have the
-- parity of the time.
pub record MayGrow (s : Sea) (inner outer : ℕ) : Type 0 where
  pub differ : inner ≢ outer
  pub free : (s.gain inner ≡ 0) × (s.loss inner ≡ 0)
  pub awake : s.rests inner ≡ false
  pub tops : (k : ℕ) → (k ≡ inner) ⊎ (k ≡ outer) → (k < 2 * s.sets.size) × ((s.sets.live k ≡ true) × (s.sets.parent k ≡ None))
  pub pace : (t : ℕ) → t < s.sets.size → (s.sets.top t ≡ inner) ⊎ (s.sets.top t ≡ outer) → total_at s.sets t % 2 ≡ s.time % 2
