use Rattle.std.proofs.Common.{◌≡◌, length}
use Rattle.dpl_balance.proofs.SettleLemmas.{IsSettled}
use Rattle.dpl_balance.proofs.turning.settle.Given as goal

abbrev pub invariant-parts : goal.invariant-parts
invariant-parts l = IsSettled l.parts l.rest l.turned l.on.a l.on.b
    × (length l.turned ≡ length l.fn.turned)

abbrev pub decreases-parts : goal.decreases-parts
decreases-parts l = length l.rest
