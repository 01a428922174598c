use Rattle.std.proofs.Common.{arith, subst}
use Rattle.dpl_flood.specs.Events.{HasCome}
use Rattle.dpl_flood.proofs.SweepLemmas.{swept_more, swept_taken, swept_left, taken_fewer, left_fewer, sweeping_more, of_trees}
use Rattle.dpl_flood.proofs.sweeping.sweep.Goals as goal

pub faces-smaller-in-Continue-branch-2 : goal.faces-smaller-in-Continue-branch-2
faces-smaller-in-Continue-branch-2 g c = omega (
  arith,
  taken_fewer c.args.dual.now c.come.new.state c.reach.new.state c.in-Take.ahead.to c.come.ensures.state c.in_ok-reach-in-Take.ensures.ok,
  c.come.ensures.faces,
)

pub faces-preserved-in-Continue-branch-2 : goal.faces-preserved-in-Continue-branch-2
faces-preserved-in-Continue-branch-2 g c =
    sweeping_more c.args.dual.now c.args.state.now c.faces.state c.reach.new.state c.faces.queue c.reach.new.queue c.faces.invariant
    (swept_more c.faces.state c.come.new.state c.reach.new.state c.in_ok-event.ensures.swept
    (swept_taken c.args.dual.now c.come.new.state c.reach.new.state c.in-Take.ahead.to c.in_ok-reach-in-Take.ensures.ok c.reach.ensures.same))
    c.reach.ensures.state c.reach.ensures.keys (λ f. c.reach.ensures.forest (c.come.ensures.forest f))

pub faces-smaller : goal.faces-smaller
faces-smaller g c = omega (
  arith,
  left_fewer c.args.dual.now c.come.new.state c.retreat.new.state c.in-Leave.set c.retreat.ensures.left.0 c.come.ensures.state
      (subst (HasCome c.args.dual.now c.come.new.state) c.in-Leave.is c.in_ok-event.ensures.come) c.retreat.ensures.left.1,
  c.come.ensures.faces,
)

pub faces-preserved : goal.faces-preserved
faces-preserved g c =
    sweeping_more c.args.dual.now c.args.state.now c.faces.state c.retreat.new.state c.faces.queue c.retreat.new.queue c.faces.invariant
    (swept_more c.faces.state c.come.new.state c.retreat.new.state c.in_ok-event.ensures.swept
    (swept_left c.come.new.state c.retreat.new.state c.in-Leave.set c.retreat.ensures.left.0 c.retreat.ensures.left.1 c.retreat.ensures.same))
    c.retreat.ensures.state c.retreat.ensures.keys (λ f. c.retreat.ensures.forest (c.come.ensures.forest f))

pub returns-in_default : goal.returns-in_default
returns-in_default g c = record {
  come = c.in_ok-event.ensures.come;
  trees = of_trees c.in_ok-event.event c.in_default.not-Take c.in_default.not-Leave;
  swept = swept_more c.args.state.now c.faces.state c.come.new.state c.faces.invariant.swept c.in_ok-event.ensures.swept;
  state = c.come.ensures.state;
  forest = λ f. c.come.ensures.forest (c.faces.invariant.forest f);
  keys = c.come.ensures.keys;
}
