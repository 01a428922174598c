use Rattle.std.proofs.Common.{ℕ, ◌≡◌, ◌<◌, length, get_or}
use Rattle.dpl_classes.proofs.rooting.singles.Given as goal

abbrev pub invariant-loop-i : goal.invariant-loop-i
invariant-loop-i l = record { long : length l.ups.items ≡ l.i; each : (k : ℕ) → k < l.i → get_or l.ups.items k 0 ≡ k }
