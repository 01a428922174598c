use Rattle.std.proofs.Common.{◌≡◌, take, map}
use Rattle.dpl_cell.specs.Outlines.{outline_of}
use Rattle.dpl_cif.specs.Drawn.{drawn}
use Rattle.dpl_cif.proofs.prims.layout_of.Given as goal

abbrev pub invariant-loop-figure : goal.invariant-loop-figure
invariant-loop-figure l = map outline_of l.prims.items ≡ map drawn (take l.figure-index l.figures)
