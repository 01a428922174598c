-- The lines of borders that are in order.
use Rattle.std.specs.Prelude.{◌≡◌, ℕ, ℤ, ◌<◌, ◌≤◌, ◌<ℤ◌}
use Rattle.std.specs.Prelude.{List, All, AllPairs, Any, Contains, length, slice_index_or}
use Rattle.dpl_near.specs.declared.borders.Border.{Border}
use Rattle.dpl_near.specs.declared.lines.Line.{Line}
use Rattle.dpl_near.specs.Borders.{AreInOrder}

-- the borders of the line stand from one place to another, behind those of lower lines and before
-- those of higher ones
pub record IsLine (borders : List Border) (l : Line) : Type 0 where
  pub order : l.start ≤ l.end
  pub within : l.end ≤ length borders
  pub below : (k : ℕ) (d : Border) → k < l.start → (slice_index_or borders k d).line <ℤ l.at
  pub on : (k : ℕ) (d : Border) → l.start ≤ k → k < l.end → (slice_index_or borders k d).line ≡ l.at
  pub above : (k : ℕ) (d : Border) → l.end ≤ k → k < length borders →
      l.at <ℤ (slice_index_or borders k d).line

-- the first line has the smaller coordinate
abbrev pub IsLower : Line → Line → Type 0
IsLower a b = a.at <ℤ b.at

-- the lines of all borders, the lowest first
pub record AreLines (borders : List Border) (lines : List Line) : Type 0 where
  pub each : All (IsLine borders) lines
  pub all : All (λ b. Any (λ l. l.at ≡ b.line) lines) borders
  pub rising : AllPairs IsLower lines

-- all borders of a line, in order
pub record AreOnLine (borders : List Border) (at : ℤ) (found : List Border) : Type 0 where
  pub order : AreInOrder found
  pub line : All (λ b. b.line ≡ at) found
  pub each : (b : Border) → Contains found b → Contains borders b
  pub all : (b : Border) → Contains borders b → b.line ≡ at → Contains found b
