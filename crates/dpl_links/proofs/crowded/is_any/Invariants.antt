use Rattle.std.proofs.Common.{◌≡◌, ℕ, ◌<◌, false, get_or}
use Rattle.dpl_links.proofs.crowded.is_any.Given as goal

abbrev pub invariant-loop-one : goal.invariant-loop-one
invariant-loop-one l = (i : ℕ) → i < l.one-index → get_or l.crowded i false ≡ false
