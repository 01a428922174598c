-- Where a face stands, as a program sees it.
use Rattle.std.specs.Prelude.{◌≡◌, ℕ, ◌+◌, ◌-◌, ◌/◌, ◌<◌, ◌==◌, if◌then◌else◌, nat_lt, Option, MatchOption}
use Rattle.dpl_tree.specs.steps.Forests.{gain, drop_of}
use Rattle.dpl_tree.specs.Views.{place_of}
use Rattle.dpl_pack.specs.Points.{water, on, total_at}
use Rattle.dpl_flood.specs.declared.standing.Standing.{Standing}
use Rattle.dpl_flood.specs.Queues.{never}
use Rattle.dpl_flood.specs.Seas.{Sea}

-- what its top gains and loses in a unit of time
abbrev pub gain_of : Standing → ℕ
gain_of x = gain (place_of x.label)

abbrev pub loss_of : Standing → ℕ
loss_of x = drop_of (place_of x.label)

-- Who stands so far from the seat of a member stands so: the top is that of the member, and its moat reaches so far beyond.
pub record IsStanding (s : Sea) (member far : ℕ) (x : Standing) : Type 0 where
  pub inside : member < s.sets.size
  pub top : x.top ≡ s.sets.top member
  pub reach : x.reach ≡ total_at s.sets member - far
  pub gains : s.gain x.top ≡ gain_of x
  pub losses : s.loss x.top ≡ loss_of x
  pub rests : s.rests x.top ≡ x.rests

-- a face is held so
pub record IsHeldAs (s : Sea) (f : ℕ) (x : Standing) : Type 0 where
  pub member : ℕ
  pub far : ℕ
  pub at : s.point f ≡ on member far
  pub is : IsStanding s member far x

-- a face stands so: none is open water
abbrev pub StandsOn : Sea → ℕ → Option Standing → Type 0
StandsOn s f x = MatchOption x (s.point f ≡ water) (IsHeldAs s f)

-- ---- what is computed; no public clause speaks of what follows

-- when something comes on a way between two held faces
abbrev pub due_between : Standing → Standing → ℕ → ℕ → ℕ
due_between x y long now =
    if x.top == y.top then never
    else if x.rests then never
    else if y.rests then never
    else if nat_lt (loss_of x + loss_of y) (gain_of x + gain_of y)
    then now + (if (gain_of x + gain_of y) - (loss_of x + loss_of y) == 2 then (long - (x.reach + y.reach)) / 2 else long - (x.reach + y.reach))
    else never

-- and on one between a held face and open water
abbrev pub due_at_shore : Standing → ℕ → ℕ → ℕ
due_at_shore x long now =
    if x.rests then never
    else if nat_lt (loss_of x) (gain_of x) then now + (long - x.reach)
    else never
