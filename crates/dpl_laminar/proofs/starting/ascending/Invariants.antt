use Rattle.std.proofs.Common.{◌≡◌, ℕ, ◌<◌, length, get_or}
use Rattle.dpl_laminar.proofs.starting.ascending.Given as goal

abbrev pub invariant-loop-i : goal.invariant-loop-i
invariant-loop-i l = (length l.list.items ≡ l.i) × ((k : ℕ) → k < l.i → get_or l.list.items k 0 ≡ k)
