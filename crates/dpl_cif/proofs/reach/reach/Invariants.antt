use Rattle.std.proofs.Common.{◌≡◌, max, drop, map}
use Rattle.dpl_cif.specs.Drawn.{reach, drawn}
use Rattle.dpl_cif.proofs.reach.reach.Given as goal

abbrev pub invariant-loop-figure : goal.invariant-loop-figure
invariant-loop-figure l = max l.most (reach (map drawn (drop l.figure-index l.figures))) ≡ reach (map drawn l.figures)
