use Rattle.std.proofs.Common.{take}
use Rattle.std.specs.List.{AllZip}
use Rattle.dpl_tiles.specs.Windows.{IsContinued}
use Rattle.dpl_tiles.proofs.sweeping.all_continued.Given as goal

abbrev pub invariant-loop-run : goal.invariant-loop-run
invariant-loop-run l = AllZip (λ run r. IsContinued l.near run.y1 run r) (take l.run-index l.runs) l.stacks.items
