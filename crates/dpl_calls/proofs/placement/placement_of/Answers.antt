use Rattle.std.proofs.Common.{◌≡◌, ◌∙◌, ℕ, ◌+◌, ◌*◌, ◌^◌, ◌<◌, List, pos, ◌∷◌, true, length, drop, ap, sym, arith, subst, get_or}
use Rattle.std.proofs.lemmas.List.{drop_more}
use Rattle.std.specs.List.{list_all}
use Rattle.dpl_rules.specs.Bounds.{is_transformation_in_bounds}
use Rattle.dpl_rules.specs.declared.command.Transformation.{Transformation}
use Rattle.dpl_rules.specs.declared.command.Transformation.TheVariants.{Shift}
use Rattle.dpl_rules.specs.Readers.{spot}
use Rattle.dpl_calls.specs.declared.figure.Corner.{Corner}
use Rattle.dpl_calls.specs.Parts.{transformed_by}
use Rattle.dpl_calls.specs.Placement.{apply, IsNear}
use Rattle.dpl_calls.proofs.Turns.{unmoved_stays}
use Rattle.dpl_calls.proofs.placement.placement_of.Goals as goal
use Rattle.std.proofs.lemmas.Bool.{and_parts}

abbrev none : Transformation
none = Shift (spot (pos 0) (pos 0))

pub loop-transformation-init : goal.loop-transformation-init
loop-transformation-init c = record {
  value = λ d. ap (λ (e : Corner). transformed_by c.args.scale c.args.transformations.now e) (unmoved_stays d);
  bounds = c.requires.bounds;
  near = record { x = omega arith; y = omega arith };
}

pub loop-transformation-preserved : goal.loop-transformation-preserved
loop-transformation-preserved c =
    let ts : List Transformation = c.args.transformations.now in
    let i : ℕ = c.loop-transformation.transformation-index in
    let t : Transformation = get_or ts i none in
    let here : i < length ts = omega arith in
    let split : drop i ts ≡ t ∷ drop (i + 1) ts = drop_more ts i none here in
    let bounds : list_all is_transformation_in_bounds (t ∷ drop (i + 1) ts) ≡ true =
    subst (λ (us : List Transformation). list_all is_transformation_in_bounds us ≡ true) split
    c.loop-transformation.invariant.bounds in
    let near : IsNear (2 ^ 82 + i * 2 ^ 82) c.compose-placed.result =
    c.compose-placed.ensures.near _ _ c.single.ensures.near c.loop-transformation.invariant.near in record {
      value = λ d.
          (ap (λ (e : Corner). transformed_by c.args.scale (drop (i + 1) ts) e)
          (c.compose-placed.ensures.value d ∙ c.single.ensures.value (apply c.loop-transformation.placed d))
          ∙ sym (ap (λ (us : List Transformation). transformed_by c.args.scale us (apply c.loop-transformation.placed d)) split))
          ∙ c.loop-transformation.invariant.value d;
      bounds = (and_parts (is_transformation_in_bounds t) (list_all is_transformation_in_bounds (drop (i + 1) ts)) bounds).1;
      near = record { x = omega (arith, near.x); y = omega (arith, near.y) };
    }
