use Rattle.std.proofs.Common.{◌≡◌, drop}
use Rattle.std.specs.List.{list_all}
use Rattle.dpl_rules.specs.Figures.{is_spot_on_grid}
use Rattle.dpl_rules.proofs.figures.is_path_on_grid.Given as goal

abbrev pub invariant-loop-spot : goal.invariant-loop-spot
invariant-loop-spot l = list_all (is_spot_on_grid l.scale) (drop l.spot-index l.path) ≡ list_all (is_spot_on_grid l.scale) l.path
