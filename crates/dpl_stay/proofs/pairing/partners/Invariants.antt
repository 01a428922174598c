use Rattle.std.proofs.Common.{◌≡◌, ◌<◌, ℕ, length}
use Rattle.dpl_stay.specs.Same.{corners_at}
use Rattle.dpl_stay.specs.Pairs.{at, IsNodeAt}
use Rattle.dpl_stay.proofs.pairing.partners.Given as goal

abbrev pub invariant-loop-rect : goal.invariant-loop-rect
invariant-loop-rect l = (length l.found.items ≡ l.rect-index) × ((v : ℕ) → v < l.rect-index → IsNodeAt l.others (corners_at l.rects v) (at l.found.items v))
