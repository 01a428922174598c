-- The faces of a drawing as the cycles of a list of darts, each of which is counted at its least dart.
use Rattle.std.specs.Prelude.{◌≡◌, ℕ, ◌/◌, ◌<◌, ◌==◌, ◌&&◌, Bool, List, length, slice_index}
use Rattle.dpl_cycle.specs.Cycles.{least}
use Rattle.dpl_cycle.specs.Sums.{count_on}
use Rattle.dpl_sign.specs.declared.nets.Net.{Net}
use Rattle.dpl_sign.specs.Drawings.{dart_count, next_in_face}

-- each dart leads to the next one of its face
pub record AreFaces (net : Net) (set : ℕ → Bool) (nexts : List ℕ) : Type 0 where
  pub darts : length nexts ≡ dart_count net
  pub next : (d : ℕ) → d < dart_count net → slice_index nexts d ≡ next_in_face net set d

-- the least dart of its cycle, and of an edge of the set
abbrev pub is_first : (ℕ → ℕ) → (ℕ → Bool) → ℕ → ℕ → Bool
is_first f set n d = set (d / 2) && (least f n d == d)

-- the cycles through darts of the set, numbered in the order of their least darts
abbrev pub cycle_number : (ℕ → ℕ) → (ℕ → Bool) → ℕ → ℕ → ℕ
cycle_number f set n d = count_on (is_first f set n) (least f n d)

-- how many faces have darts
abbrev pub drawn_faces : Net → (ℕ → Bool) → ℕ
drawn_faces net set = count_on (is_first (next_in_face net set) set (dart_count net))
    (dart_count net)
