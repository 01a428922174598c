use Rattle.std.proofs.Common.{◌≡◌, ℕ, ◌<◌, length, get_or}
use Rattle.dpl_flood.proofs.beginning.members_below.Given as goal

abbrev pub invariant-loop-i : goal.invariant-loop-i
invariant-loop-i l = (length l.members.items ≡ l.i) × ((k : ℕ) → k < l.i → get_or l.members.items k 0 ≡ k)
