use Rattle.std.proofs.Common.{◌≡◌, ◌<◌, ◌≤◌, ℕ, length, slice_index_or}
use Rattle.dpl_parts.specs.Picks.{is_taken, place_in}
use Rattle.dpl_parts.proofs.gathering.places.Given as goal

abbrev pub invariant-loop-v : goal.invariant-loop-v
invariant-loop-v l = (l.count ≤ l.v) × ((length l.found.items ≡ l.v) ×
    ((l.count ≡ place_in (is_taken l.taken) l.v) × ((v : ℕ) → v < l.v →
    slice_index_or l.found.items v 0 ≡ place_in (is_taken l.taken) v)))
