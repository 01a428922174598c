use Rattle.std.proofs.Common.{arith, ◌+◌, ◌<◌, subst, length}
use Rattle.std.specs.Prelude.{slice_index}
use Rattle.dpl_flood.specs.States.{AreKeyedOn, sea_of}
use Rattle.dpl_flood.proofs.GiveLemmas.{all_more}
use Rattle.dpl_flood.proofs.giving.look_tops.Goals as goal

pub loop-i-preserved : goal.loop-i-preserved
loop-i-preserved c =
    let d = c.args.dual.now in
    let x = c.args.state.now in
    let top = slice_index c.args.tops.now c.loop-i.i in
    let inside : length d.crosses + top < length c.loop-i.queue = omega (
      arith,
      c.requires.tops c.loop-i.i c.loop-i-test.true,
      c.requires.places,
      c.loop-i.invariant.sizes,
    ) in
    all_more d x c.args.tops.now c.loop-i.i c.args.queue.now c.loop-i.queue c.look_top.new.queue c.loop-i.invariant inside
    (subst (λ z. AreKeyedOn d (sea_of x) top d.faces z c.look_top.new.queue) c.look_set.ensures c.look_top.ensures.keys)
