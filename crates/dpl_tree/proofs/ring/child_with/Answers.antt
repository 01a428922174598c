use Rattle.std.proofs.Common.{arith, sym, ◌∙◌}
use Rattle.dpl_laminar.specs.Storing.{sets_of}
use Rattle.dpl_tree.proofs.RoundLemmas.{rising_begun, rising_more, rising_parent}
use Rattle.dpl_tree.proofs.ring.child_with.Goals as goal

pub loop-init : goal.loop-init
loop-init c = rising_begun (sets_of c.args.family.now) c.args.set c.args.member c.parent-parent.ensures.family
    c.parent-parent.ensures.reached c.requires.member c.requires.above c.requires.below c.requires.live c.requires.held

pub unreachable-requires : goal.unreachable-requires
unreachable-requires c = rising_parent (sets_of c.args.family.now) c.args.set c.args.member c.loop.counter c.loop.child
    c.loop.invariant (sym c.parent.ensures.value ∙ c.in-None.is)

pub loop-preserved : goal.loop-preserved
loop-preserved c = rising_more (sets_of c.args.family.now) c.args.set c.args.member c.loop.counter c.loop.child
    c.in-Some.parent c.parent-parent.ensures.family c.requires.member c.loop.invariant
    (sym c.parent.ensures.value ∙ c.in-Some.is) c.if-parent-set.false

pub unreachable-requires-2 : goal.unreachable-requires-2
unreachable-requires-2 c = omega (arith, c.loop.invariant.more, c.loop.invariant.few, c.loop-test.false, c.requires.small)
