use Rattle.std.proofs.Common.{arith, ◌∙◌, refl}
use Rattle.std.proofs.lemmas.List.{length_push}
use Rattle.dpl_laminar.specs.Storing.{sets_of}
use Rattle.dpl_laminar.proofs.Numbers.{some_none}
use Rattle.dpl_tree.proofs.RoundLemmas.{going_child, going_whole, going_on, going_begun, going_short}
use Rattle.dpl_tree.proofs.ring.round_from.Goals as goal

pub loop-init : goal.loop-init
loop-init c = rw (
  c.in_ok-push.ensures.items,
  c.in_ok-push-2.ensures.items,
  c.new-sets.ensures.items,
  c.new-joins.ensures.items,
) (
  going_begun (sets_of c.args.family.now) c.args.first _ _ c.parent-parent.ensures.family
      c.requires.below c.requires.live c.requires.inner c.child_after-child.ensures.next,
  refl,
)

pub loop-preserved : goal.loop-preserved
loop-preserved c = rw (c.in_ok-push-3.ensures.items, c.in_ok-push-4.ensures.items) (
  going_on (sets_of c.args.family.now) c.args.first _ _ _ _ _ c.parent-parent.ensures.family c.requires.below
      c.requires.live c.loop.invariant.0 c.if-child-first.false c.child_after-next.ensures.next,
  length_push _ _ ∙
      omega (arith, c.loop.invariant.1),
)

pub returns-then-child-first : goal.returns-then-child-first
returns-then-child-first c = going_whole (sets_of c.args.family.now) c.args.first _ _ c.loop.child
    c.parent-parent.ensures.family c.requires.below c.requires.live c.loop.invariant.0 c.if-child-first.true

pub child_after-next-requires : goal.child_after-next-requires
child_after-next-requires c = λ z. some_none _ _ (going_child (sets_of c.args.family.now) c.args.first _ _ c.loop.child
    c.parent-parent.ensures.family c.requires.below c.requires.live c.loop.invariant.0).2 z

pub unreachable-requires : goal.unreachable-requires
unreachable-requires c = omega (
  arith,
  going_short (sets_of c.args.family.now) c.args.first _ _ c.loop.child
      c.parent-parent.ensures.family c.requires.below c.requires.live c.loop.invariant.0,
  c.loop.invariant.1,
  c.loop-test.false,
  c.requires.small,
)
