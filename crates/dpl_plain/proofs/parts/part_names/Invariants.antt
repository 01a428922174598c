use Rattle.std.proofs.Common.{◌≡◌, ℕ, ◌<◌, length, get_or}
use Rattle.dpl_plain.proofs.parts.part_names.Given as goal

abbrev pub invariant-loop-face : goal.invariant-loop-face
invariant-loop-face l = (length l.names.items ≡ l.face) × ((k : ℕ) → k < l.face → get_or l.names.items k 0 ≡ k)
