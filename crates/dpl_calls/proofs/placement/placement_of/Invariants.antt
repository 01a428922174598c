use Rattle.std.proofs.Common.{◌≡◌, ◌*◌, ◌^◌, true, drop}
use Rattle.std.specs.List.{list_all}
use Rattle.dpl_rules.specs.Bounds.{is_transformation_in_bounds}
use Rattle.dpl_calls.specs.declared.figure.Corner.{Corner}
use Rattle.dpl_calls.specs.Parts.{transformed_by}
use Rattle.dpl_calls.specs.Placement.{apply, IsNear}
use Rattle.dpl_calls.proofs.placement.placement_of.Given as goal

abbrev pub invariant-loop-transformation : goal.invariant-loop-transformation
invariant-loop-transformation l =
    record {
      value : (c : Corner) → transformed_by l.scale (drop l.transformation-index l.transformations)
          (apply l.placed c) ≡ transformed_by l.scale l.transformations c;
      bounds : list_all is_transformation_in_bounds (drop l.transformation-index l.transformations) ≡ true;
      near : IsNear (l.transformation-index * 2 ^ 82) l.placed;
    }
