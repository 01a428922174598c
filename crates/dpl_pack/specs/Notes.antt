-- What is noted of the faces that members hold.
use Rattle.std.specs.Prelude.{◌≡◌, ℕ, ◌<◌, ◌≤◌, Option, Some, None, List, length, slice_index, slice_index_or}
use Rattle.dpl_laminar.specs.Families.{Sets}
use Rattle.dpl_dual.specs.declared.crosses.Cross.{Cross}
use Rattle.dpl_dual.specs.declared.crosses.Dual.{Dual}
use Rattle.dpl_pack.specs.declared.held.Held.{Held}
use Rattle.dpl_pack.specs.Points.{Point, on, apart, total_at}
use Rattle.dpl_pack.specs.Climbs.{point_of}

-- what is noted of a face
abbrev pub note_at : List (Option (ℕ × ℕ)) → ℕ → Option (ℕ × ℕ)
note_at notes g = slice_index_or notes g None

-- the point of a face by what is noted of it
abbrev pub noted : List (Option (ℕ × ℕ)) → ℕ → Point
noted notes g = point_of (note_at notes g)

-- a face that may be held: one of the part of a face, by one of so many members
pub record IsHoldable (d : Dual) (start n : ℕ) (h : Held) : Type 0 where
  pub face : h.face < d.faces
  pub part : slice_index d.part h.face ≡ slice_index d.part start
  pub member : h.member < n

-- the first of these are noted, each once, and nothing else
pub record AreNoted (d : Dual) (start n : ℕ) (held : List Held) (i : ℕ)
    (notes : List (Option (ℕ × ℕ))) : Type 0 where
  pub sizes : length notes ≡ d.faces
  pub good : (j : ℕ) (h : Held) → j < i → IsHoldable d start n (slice_index_or held j h)
  pub each : (j : ℕ) (h : Held) → j < i → note_at notes (slice_index_or held j h).face
      ≡ Some ((slice_index_or held j h).member, (slice_index_or held j h).far)
  pub only : (g : ℕ) (s : ℕ × ℕ) → note_at notes g ≡ Some s → (j : ℕ) × (j < i) ×
      ((h : Held) → (slice_index_or held j h).face ≡ g)

-- the points of the faces of the first ways are no farther apart than these are long
abbrev pub AreShortTo : Sets → (ℕ → Point) → List Cross → ℕ → Type 0
AreShortTo f point ways i = (k : ℕ) (x : Cross) → k < i →
    apart f (point (slice_index_or ways k x).f) (point (slice_index_or ways k x).g) ≤ (slice_index_or ways k x).length

-- the first odd faces have the points of their seats
abbrev pub AreSeatedTo : Sets → (ℕ → Point) → List ℕ → ℕ → Type 0
AreSeatedTo f point terminals i = (t : ℕ) → t < i → apart f (point (slice_index terminals t)) (on t 0) ≡ 0

-- a place on the way of a member at which open water begins
pub record IsShore (f : Sets) (shore : ℕ × ℕ) : Type 0 where
  pub member : shore.0 < f.size
  pub far : shore.1 ≡ total_at f shore.0
