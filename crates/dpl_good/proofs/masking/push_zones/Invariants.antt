use Rattle.std.proofs.Common.{◌≡◌, ◌++◌, drop}
use Rattle.dpl_good.specs.MaskRects.{zones_of}
use Rattle.dpl_good.proofs.masking.push_zones.Given as goal

abbrev pub invariant-loop-cut : goal.invariant-loop-cut
invariant-loop-cut l = l.found.items ++ zones_of l.colours (drop l.cut-index l.cuts) ≡ l.initial.found.items ++ zones_of l.colours l.cuts
