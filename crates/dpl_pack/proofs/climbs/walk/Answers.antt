use Rattle.std.proofs.Common.{arith, sym, ap, ◌+◌}
use Rattle.dpl_laminar.specs.Storing.{sets_of}
use Rattle.dpl_pack.proofs.MoatLemmas.{all_within}
use Rattle.dpl_pack.proofs.OutLemmas.{walk_starts, walk_on, walk_ends, walk_place, walk_short, walk_small, walk_less, walked_most}
use Rattle.dpl_pack.proofs.climbs.walk.Goals as goal

pub loop-step-init : goal.loop-step-init
loop-step-init c = walk_starts _ c.tops-top.ensures.family _ _ c.requires.first

pub weigh-sum-requires-clause-live : goal.weigh-sum-requires-clause-live
weigh-sum-requires-clause-live c = (walk_place _ c.tops-top.ensures.family _ _ _ _ _ _ c.requires.first c.loop-step.invariant).live

pub weigh-sum-requires-clause-set : goal.weigh-sum-requires-clause-set
weigh-sum-requires-clause-set c = omega (arith, (walk_place _ c.tops-top.ensures.family _ _ _ _ _ _ c.requires.first c.loop-step.invariant).below)

pub weigh-sum-requires-clause-held : goal.weigh-sum-requires-clause-held
weigh-sum-requires-clause-held c = (walk_place _ c.tops-top.ensures.family _ _ _ _ _ _ c.requires.first c.loop-step.invariant).held

pub weigh-sum-requires-clause-inside : goal.weigh-sum-requires-clause-inside
weigh-sum-requires-clause-inside c = c.loop-step.invariant.passed

pub weigh-sum-requires-clause-small : goal.weigh-sum-requires-clause-small
weigh-sum-requires-clause-small c = omega (
  arith,
  walk_small _ c.tops-top.ensures.family _ _ _ _ _ _ c.requires.first c.loop-step.invariant,
  all_within _ c.tops-top.ensures.family,
)

pub overflow_add-sum : goal.overflow_add-sum
overflow_add-sum c =
    let less = walk_less _ c.args.first c.args.second c.args.skips _ _ _ _ c.loop-step.invariant in
    omega (
      arith,
      less.0,
      less.1,
      c.weigh-sum.ensures,
      walk_small _ c.tops-top.ensures.family _ _ _ _ _ _ c.requires.first c.loop-step.invariant,
      all_within _ c.tops-top.ensures.family,
    )

pub value-value-requires : goal.value-value-requires
value-value-requires c = (walk_place _ c.tops-top.ensures.family _ _ _ _ _ _ c.requires.first c.loop-step.invariant).live

pub parent-requires : goal.parent-requires
parent-requires c = (walk_place _ c.tops-top.ensures.family _ _ _ _ _ _ c.requires.first c.loop-step.invariant).live

pub returns-in-None-clause-sum : goal.returns-in-None-clause-sum
returns-in-None-clause-sum c = walk_ends _ c.tops-top.ensures.family _ _ _ _ _ _ _ c.requires.first c.loop-step.invariant
    (sym c.in-None.ensures.value) (ap (λ z. c.loop-step.sum + z) c.weigh-sum.ensures)

pub returns-in-None-clause-small : goal.returns-in-None-clause-small
returns-in-None-clause-small c =
    let is = walk_ends _ c.tops-top.ensures.family _ _ _ _ _ _ _ c.requires.first c.loop-step.invariant
    (sym c.in-None.ensures.value) (ap (λ z. c.loop-step.sum + z) c.weigh-sum.ensures) in
    omega (
      arith,
      is,
      walked_most (sets_of c.args.tree.now.family.now) c.args.first c.args.second c.args.skips,
      all_within _ c.tops-top.ensures.family,
    )

pub overflow_add-inside : goal.overflow_add-inside
overflow_add-inside c = omega (
  arith,
  walk_small _ c.tops-top.ensures.family _ _ _ _ _ _ c.requires.first c.loop-step.invariant,
  all_within _ c.tops-top.ensures.family,
  c.value-value.ensures.value,
)

pub loop-step-preserved : goal.loop-step-preserved
loop-step-preserved c = walk_on _ c.tops-top.ensures.family _ _ _ _ _ _ _ _ _ c.requires.first c.loop-step.invariant
    (sym c.in-Some.ensures.value) (ap (λ z. c.loop-step.inside + z) c.value-value.ensures.value)
    (ap (λ z. c.loop-step.sum + z) c.weigh-sum.ensures)

pub unreachable-requires : goal.unreachable-requires
unreachable-requires c = omega (
  arith,
  walk_short _ c.tops-top.ensures.family _ _ _ _ _ _ c.requires.first c.loop-step.invariant,
  c.loop-step-test.false,
  c.requires.totals.sizes,
)
