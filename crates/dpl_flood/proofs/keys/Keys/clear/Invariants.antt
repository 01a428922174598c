use Rattle.std.proofs.Common.{◌≡◌, length}
use Rattle.dpl_flood.proofs.KeyLemmas.{below_never}
use Rattle.dpl_flood.proofs.keys.Keys.clear.Given as goal

abbrev pub invariant-keys : goal.invariant-keys
invariant-keys l = length l.self ≡ length l.fn.self

abbrev pub decreases-keys : goal.decreases-keys
decreases-keys l = below_never l.self
