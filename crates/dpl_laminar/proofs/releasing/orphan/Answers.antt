use Rattle.std.proofs.Common.{arith, ◌≡◌, get_or}
use Rattle.dpl_laminar.specs.Storing.{circle_of}
use Rattle.dpl_laminar.proofs.Walks.{length_ring, ring_at, ring_next, ring_whole}
use Rattle.dpl_laminar.proofs.Lifting.{orphaned_more}
use Rattle.dpl_laminar.proofs.releasing.orphan.Goals as goal

pub bounds-parents-child : goal.bounds-parents-child
bounds-parents-child c = omega (
  arith,
  ring_at _ _ _ _ c.loop.child c.loop-test.true c.loop.invariant.at,
  c.requires.below c.loop.counter c.loop-test.true,
  c.loop.auto.parents,
)

pub next-child-requires : goal.next-child-requires
next-child-requires c = omega (
  arith,
  ring_at _ _ _ _ c.loop.child c.loop-test.true c.loop.invariant.at,
  c.requires.below c.loop.counter c.loop-test.true,
  c.requires.ring,
)

pub loop-preserved : goal.loop-preserved
loop-preserved c =
    let cs = circle_of c.args.ring.now c.args.first c.args.count in
    let here : get_or cs c.loop.counter 0 ≡ c.loop.child = ring_at _ _ _ _ c.loop.child c.loop-test.true c.loop.invariant.at in
    record {
      at = ring_next c.args.ring.now c.args.first c.loop.counter c.loop.child c.next-child.result c.loop.invariant.at c.next-child.ensures.value;
      parents = rw (← here) (orphaned_more cs c.loop.counter c.args.parents.now c.loop.parents
          (omega (arith, c.loop-test.true, length_ring c.args.ring.now c.args.first c.args.count))
          (omega (arith, c.requires.below c.loop.counter c.loop-test.true, c.loop.auto.parents))
          c.loop.invariant.parents);
      most = omega (arith, c.loop-test.true);
    }

pub returns : goal.returns
returns c = rw (← ring_whole c.args.ring.now c.args.first c.args.count c.loop.counter (omega (arith, c.loop-test.false))) c.loop.invariant.parents
