use Rattle.std.proofs.Common.{take, filter}
use Rattle.std.specs.List.{AllZip}
use Rattle.dpl_tiles.specs.Bands.{IsOver}
use Rattle.dpl_tiles.specs.Windows.{is_near}
use Rattle.dpl_tiles.proofs.sweeping.raised_near.Given as goal

abbrev pub invariant-loop-s : goal.invariant-loop-s
invariant-loop-s l = AllZip (IsOver l.band.low l.band.high) (filter (is_near l.change.left l.change.right) (take l.s-index l.stretches)) l.runs.items
