use Rattle.std.proofs.Common.{◌∙◌, arith}
use Rattle.std.proofs.lemmas.Grind.{common_steps}
use Rattle.dpl_calls.proofs.putting.put_legs.Goals as goal

pub loop-spot-preserved : goal.loop-spot-preserved
loop-spot-preserved c = record {
  parts = grind (arith, common_steps);
  calls =
      λ place. c.in_ok-put_rectangle.ensures.calls place ∙ c.loop-spot.invariant.calls place;
}
