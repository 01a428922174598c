use Rattle.std.proofs.Common.{take}
use Rattle.dpl_cover.specs.Tallies.{AreTallied}
use Rattle.dpl_cover.proofs.cover.count_all.Given as goal

abbrev pub invariant-loop-r : goal.invariant-loop-r
invariant-loop-r l = AreTallied l.columns l.by (take l.r-index l.boxes) l.fn.each l.fn.blocks l.each l.blocks
