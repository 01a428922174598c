-- What the steps of a flood do to it: time passes, and sets without a value come and go.
use Rattle.std.specs.Prelude.{◌≡◌, ◌≢◌, ℕ, ◌+◌, ◌<◌, ◌≤◌, List, slice_index, All}
use Rattle.dpl_laminar.specs.Families.{Sets, IsFamily}
use Rattle.dpl_laminar.specs.Changes.{IsShrunk, IsExpanded}
use Rattle.dpl_dual.specs.declared.crosses.Dual.{Dual}
use Rattle.dpl_pack.specs.Nests.{inner_of}
use Rattle.dpl_pack.specs.Points.{Point, water, on, apart}
use Rattle.dpl_pack.specs.Floods.{IsFlood}
use Rattle.dpl_pack.specs.Tides.{with_values, AreTurned, Stays, place_of, share, HasRoom, moved}

-- Points on different tops move apart by what these gain and together by what these lose, and those on one top stay as far
-- apart as they were.
abbrev pub TurnsMovePoints : Type 0
TurnsMovePoints = (f : Sets) (gain loss v : ℕ → ℕ) (p q : Point) → IsFamily f →
    AreTurned f gain loss v → Stays f v p → Stays f v q →
    (place_of f p ≢ place_of f q →
    apart (with_values f v) p q + (share f loss (place_of f p) + share f loss (place_of f q))
    ≡ apart f p q + (share f gain (place_of f p) + share f gain (place_of f q))) ×
    (place_of f p ≡ place_of f q → apart (with_values f v) p q ≡ apart f p q)

-- So a way that has room for what its tops gain is long enough after that.
abbrev pub TurnsKeepWays : Type 0
TurnsKeepWays = (f : Sets) (gain loss v : ℕ → ℕ) (p q : Point) (long : ℕ) → IsFamily f →
    AreTurned f gain loss v → Stays f v p → Stays f v q → apart f p q ≤ long →
    (place_of f p ≢ place_of f q →
    apart f p q + (share f gain (place_of f p) + share f gain (place_of f q))
    ≤ long + (share f loss (place_of f p) + share f loss (place_of f q))) →
    apart (with_values f v) p q ≤ long

-- So a flood stays one while time passes, where all points stay on their tops, the seats on those of their members, and all
-- ways have room.
abbrev pub TurnsKeepFloods : Type 0
TurnsKeepFloods = (d : Dual) (terminals : List ℕ) (f : Sets) (gain loss v : ℕ → ℕ) (point : ℕ → Point) →
    IsFamily f → AreTurned f gain loss v → IsFlood d terminals f point →
    ((g : ℕ) → Stays f v (point g)) →
    ((t : ℕ) → t < f.size → place_of f (point (slice_index terminals t)) ≡ f.top t) →
    All (HasRoom f gain loss point) d.crosses → IsFlood d terminals (with_values f v) point

-- Where a top ends there is open water: what it takes there and what it leaves there does not move.
abbrev pub ShoresAreWater : Type 0
ShoresAreWater = (f : Sets) (t far : ℕ) → IsFamily f → t < f.size →
    far ≡ inner_of f (f.top t) t + f.value (f.top t) → apart f (on t far) water ≡ 0

-- So what a top takes and what it leaves is another name of the same point, and no name makes a difference.
abbrev pub NamesKeepFloods : Type 0
NamesKeepFloods = (d : Dual) (terminals : List ℕ) (f : Sets) (point : ℕ → Point) (g : ℕ) (q : Point) →
    IsFlood d terminals f point → apart f (point g) q ≡ 0 →
    ((t far : ℕ) → q ≡ on t far → t < f.size) →
    (q ≢ water → (g < d.faces) ×
    (slice_index d.part g ≡ slice_index d.part (slice_index terminals 0))) →
    IsFlood d terminals f (moved point g q)

-- A new set has no value, so a flood of the sets before is one of the sets after.
abbrev pub FoldsKeepFloods : Type 0
FoldsKeepFloods = (d : Dual) (terminals children : List ℕ) (joins : List (ℕ × ℕ)) (set : ℕ) (old new : Sets) (point : ℕ →
    Point) →
    IsShrunk old children joins set new → IsFlood d terminals old point → IsFlood d terminals new point

-- The same where a set without a value is taken apart.
abbrev pub GivingWayKeepsFloods : Type 0
GivingWayKeepsFloods = (d : Dual) (terminals : List ℕ) (set : ℕ) (old new : Sets) (point : ℕ → Point) →
    IsExpanded old set new → old.value set ≡ 0 → IsFlood d terminals old point →
    IsFlood d terminals new point
