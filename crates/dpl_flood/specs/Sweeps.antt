-- What stays while no tree changes: time passes, faces are taken and left, and what rests wakes.
use Rattle.std.specs.Prelude.{◌≡◌, ◌≢◌, ℕ, ◌^◌, ◌<◌, ◌≤◌, ◌⊎◌, false, List, length, slice_index, slice_index_or}
use Rattle.dpl_laminar.specs.Storing.{sets_of}
use Rattle.dpl_dual.specs.declared.crosses.Cross.{Cross}
use Rattle.dpl_dual.specs.declared.crosses.Dual.{Dual}
use Rattle.dpl_dual.specs.Chains.{Leads, length_of}
use Rattle.dpl_pack.specs.Tides.{with_values}
use Rattle.dpl_flood.specs.declared.event.Event.{Event}
use Rattle.dpl_flood.specs.declared.event.Event.TheVariants.{Take, Grow, Meet, Leave, GiveWay}
use Rattle.dpl_flood.specs.declared.state.State.{State}
use Rattle.dpl_flood.specs.Events.{due_in}
use Rattle.dpl_flood.specs.Forested.{IsForested, IsSameForest}
use Rattle.dpl_flood.specs.Queues.{IsFirst}
use Rattle.dpl_flood.specs.Dues.{NoneRests}
use Rattle.dpl_flood.specs.Seas.{IsNamed, early_keys, faces_left, tide_of}
use Rattle.dpl_flood.specs.States.{IsState, AreKeys, sea_of}

-- Two trees stand, and a chain that is not too long leads from the seat of a member that names the one to that of the other.
pub record AreTwo (d : Dual) (x : State) : Type 0 where
  pub one : ℕ
  pub two : ℕ
  pub one_named : IsNamed (sea_of x) one
  pub two_named : IsNamed (sea_of x) two
  pub differ : (sets_of x.family).top one ≢ (sets_of x.family).top two
  pub chain : List Cross
  pub leads : Leads d.crosses (slice_index x.seats one) chain (slice_index x.seats two)
  pub short : length_of chain ≤ 2 ^ 51

-- No tree has changed: sets have other values at most, and what rests did so before.
pub record IsSwept (x y : State) : Type 0 where
  pub later : x.time ≤ y.time
  pub sets : sets_of y.family ≡ with_values (sets_of x.family) (sets_of y.family).value
  pub same : IsSameForest x y
  pub awake : (k : ℕ) → slice_index_or x.rests.items k false ≡ false → slice_index_or y.rests.items k false ≡ false
  pub names : (a : ℕ) → IsNamed (sea_of x) a → IsNamed (sea_of y) a

-- no key is up
abbrev pub IsQuiet : State → List ℕ → Type 0
IsQuiet x keys = (key : ℕ) → IsFirst keys key → x.time < key

-- the trees change
abbrev pub IsOfTrees : Event → Type 0
IsOfTrees (Take c) = ⊥
IsOfTrees (Grow c) = Unit {0}
IsOfTrees (Meet c) = Unit {0}
IsOfTrees (Leave k) = ⊥
IsOfTrees (GiveWay k) = Unit {0}

-- ---- while keys come up; no public clause speaks of what follows

-- keys that were early have been set anew, or none
pub record IsPopping (d : Dual) (x : State) (old new : List ℕ) : Type 0 where
  pub keys : AreKeys d x new
  pub places : length new ≡ length old
  pub fewer : (new ≡ old) ⊎ (early_keys (length old) (due_in d x) (slice_index new) < early_keys (length old) (due_in d x) (slice_index old))

-- no tree has changed, nothing rests and no key is up
pub record IsAwaiting (d : Dual) (x : State) (many : ℕ) (y : State) (queue : List ℕ) : Type 0 where
  pub state : IsState d y
  pub keys : AreKeys d y queue
  pub places : length queue ≡ many
  pub some : 0 < many
  pub two : AreTwo d y
  pub awake : NoneRests (tide_of d (sea_of y))
  pub quiet : IsQuiet y queue
  pub swept : IsSwept x y
  pub forest : IsForested d x → IsForested d y
  pub faces : faces_left d (sea_of y) ≡ faces_left d (sea_of x)

-- no tree has changed
pub record IsSweeping (d : Dual) (x : State) (y : State) (queue : List ℕ) : Type 0 where
  pub state : IsState d y
  pub keys : AreKeys d y queue
  pub some : 0 < length queue
  pub two : AreTwo d y
  pub swept : IsSwept x y
  pub forest : IsForested d x → IsForested d y
