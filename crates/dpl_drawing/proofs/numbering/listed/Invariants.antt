use Rattle.std.proofs.Common.{◌≡◌, ℕ, ◌<◌, length, get_or}
use Rattle.dpl_drawing.proofs.numbering.listed.Given as goal

abbrev pub invariant-loop-number : goal.invariant-loop-number
invariant-loop-number l = (length l.nexts.items ≡ l.number) × ((k : ℕ) → k < l.number → get_or l.nexts.items k 0 ≡ get_or l.ring k 0)
