-- What is kept while faces are taken and left, and keys are set anew.
use Rattle.std.specs.Prelude.{◌≡◌, ℕ, ◌+◌, ◌*◌, ◌^◌, ◌<◌, ◌≤◌, List, length, slice_index, slice_set}
use Rattle.dpl_laminar.specs.Storing.{sets_of}
use Rattle.dpl_dual.specs.declared.crosses.Dual.{Dual}
use Rattle.dpl_flood.specs.declared.state.State.{State}
use Rattle.dpl_flood.specs.Dues.{NoneRests}
use Rattle.dpl_flood.specs.Holdings.{stack_of}
use Rattle.dpl_flood.specs.Seas.{AreLate, ArePassed, advanced, tide_of}
use Rattle.dpl_flood.specs.States.{sea_of, fall_of, IsState, IsTaken, IsLeft, AreKeys, AreKeyedAround, top_keys}

-- A face was taken, and the keys around it were set anew.
abbrev pub TakesKeepKeys : Type 0
TakesKeepKeys = (d : Dual) (x y : State) (face : ℕ) (old new : List ℕ) → IsState d x → IsState d y → IsTaken d x y face →
    AreKeyedAround d (sea_of y) face old new → AreKeys d x old → AreKeys d y new

-- A face was left.
abbrev pub LeavesKeepKeys : Type 0
LeavesKeepKeys = (d : Dual) (x y : State) (set face : ℕ) (old new : List ℕ) → IsState d x → IsState d y → IsLeft x y set face →
    AreKeyedAround d (sea_of y) face old new → AreKeys d x old → AreKeys d y new

-- The key of a set was set anew.
abbrev pub SetsKeepKeys : Type 0
SetsKeepKeys = (d : Dual) (x : State) (set : ℕ) (old : List ℕ) → IsState d x → set < 2 * (sets_of x.family).size → AreKeys d x old →
    AreKeys d x (slice_set old (length d.crosses + set) (fall_of (sea_of x) (stack_of x.held) set))

-- Nothing that a sea shows has changed.
abbrev pub SeasKeepKeys : Type 0
SeasKeepKeys = (d : Dual) (x y : State) (keys : List ℕ) → sea_of y ≡ sea_of x → AreKeys d x keys → AreKeys d y keys

-- a state at a later time: what its sets have is what they have then, and all else is as it was
pub record ArePassedOver (x y : State) (t : ℕ) (v : ℕ → ℕ) : Type 0 where
  pub sea : sea_of y ≡ advanced (sea_of x) t v
  pub seats : y.seats ≡ x.seats
  pub held : y.held ≡ x.held
  pub arena : y.arena ≡ x.arena
  pub tree : y.tree ≡ x.tree
  pub mates : y.mates ≡ x.mates
  pub joins : y.joins ≡ x.joins
  pub rests : length y.rests.items ≡ length x.rests.items
  pub inners : y.inners.items ≡ x.inners.items

-- Time passed, and no key was before it.
abbrev pub TimeKeepsStates : Type 0
TimeKeepsStates = (d : Dual) (x y : State) (t : ℕ) (v : ℕ → ℕ) (keys : List ℕ) → IsState d x → AreKeys d x keys →
    AreLate d (sea_of x) t (slice_index keys) (top_keys d keys) → NoneRests (tide_of d (sea_of x)) →
    ArePassed (sea_of x) t v → t ≤ 2 ^ 50 → ((k : ℕ) → 2 * (sets_of x.family).size ≤ k → v k ≤ 2 ^ 50) →
    ArePassedOver x y t v → IsState d y × AreKeys d y keys
