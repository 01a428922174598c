use Rattle.std.proofs.Common.{◌≡◌, drop}
use Rattle.std.specs.List.{list_any}
use Rattle.dpl_rules.specs.Rules.{shifts_off}
use Rattle.dpl_rules.proofs.rules.any_shifts_off.Given as goal

abbrev pub invariant-loop-transformation : goal.invariant-loop-transformation
invariant-loop-transformation l = list_any (shifts_off l.scale)
    (drop l.transformation-index l.transformations) ≡ list_any (shifts_off l.scale) l.transformations
