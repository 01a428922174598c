use Rattle.std.proofs.Common.{arith, ◌∙◌, ◌+◌, ◌<◌, sym, ap, subst, length}
use Rattle.std.specs.Prelude.{slice_set}
use Rattle.dpl_flood.specs.States.{AreKeyed, sea_of, way_in}
use Rattle.dpl_flood.proofs.LookLemmas.{keyed_none, keyed_more}
use Rattle.dpl_flood.proofs.looks.look_over.Goals as goal

pub loop-i-init : goal.loop-i-init
loop-i-init c = keyed_none c.args.dual.now (sea_of c.args.state.now) c.args.steps.now c.args.queue.now

pub set-requires : goal.set-requires
set-requires c = omega (arith, c.requires.steps c.loop-i.i (record { to = 0; way = 0 }) c.loop-i-test.true, c.requires.places, c.loop-i.invariant.sizes)

pub loop-i-preserved : goal.loop-i-preserved
loop-i-preserved c =
    let inside : way_in c.args.steps.now c.loop-i.i < length c.args.queue.now = omega (arith, c.requires.steps c.loop-i.i (record { to = 0; way = 0 }) c.loop-i-test.true, c.requires.places) in
    subst (AreKeyed c.args.dual.now (sea_of c.args.state.now) c.args.steps.now (c.loop-i.i + 1) c.args.queue.now)
    (sym (c.set.ensures ∙ ap (slice_set c.loop-i.queue (way_in c.args.steps.now c.loop-i.i)) c.look.ensures))
    (keyed_more c.args.dual.now (sea_of c.args.state.now) c.args.steps.now c.loop-i.i c.args.queue.now c.loop-i.queue c.loop-i.invariant inside)
