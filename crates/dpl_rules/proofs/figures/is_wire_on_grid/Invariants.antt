use Rattle.std.proofs.Common.{◌≡◌, drop}
use Rattle.std.specs.List.{list_all}
use Rattle.dpl_rules.specs.Figures.{is_extent_on_grid, legs_from, legs}
use Rattle.dpl_rules.proofs.figures.is_wire_on_grid.Given as goal

abbrev pub invariant-loop-spot : goal.invariant-loop-spot
invariant-loop-spot l = list_all (is_extent_on_grid l.scale)
    (legs_from l.width l.before (drop l.spot-index l.rest)) ≡ list_all (is_extent_on_grid l.scale) (legs l.width l.path)
