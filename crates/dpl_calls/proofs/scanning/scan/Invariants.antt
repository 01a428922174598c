use Rattle.std.proofs.Common.{length}
use Rattle.dpl_calls.proofs.ScansNext.{IsUnderWay}
use Rattle.dpl_calls.proofs.scanning.scan.Given as goal

abbrev pub invariant-commands : goal.invariant-commands
invariant-commands l = IsUnderWay l.layer l.text l.commands l.table l.scope l.at l.rest

abbrev pub decreases-commands : goal.decreases-commands
decreases-commands l = length l.rest
