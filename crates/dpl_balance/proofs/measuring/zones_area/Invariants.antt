use Rattle.std.proofs.Common.{◌≡◌, ◌*◌, ◌≤◌, ◌^◌, take}
use Rattle.dpl_balance.specs.Areas as spec
use Rattle.dpl_balance.proofs.measuring.zones_area.Given as goal

abbrev pub invariant-loop-cut : goal.invariant-loop-cut
invariant-loop-cut l = (l.found ≡ spec.zones_area (take l.cut-index l.cuts) spec.all_fragments l.colours)
    × (l.found ≤ l.cut-index * 2 ^ 62)
