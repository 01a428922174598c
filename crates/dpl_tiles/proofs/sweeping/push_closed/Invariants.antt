use Rattle.std.proofs.Common.{take}
use Rattle.dpl_tiles.specs.Stacks.{ending}
use Rattle.dpl_tiles.specs.Windows.{AddsClosed}
use Rattle.dpl_tiles.proofs.sweeping.push_closed.Given as goal

abbrev pub invariant-loop-stack : goal.invariant-loop-stack
invariant-loop-stack l = AddsClosed l.top (ending l.runs (take l.stack-index l.near)) l.initial.ended.items l.ended.items
