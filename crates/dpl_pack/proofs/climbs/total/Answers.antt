use Rattle.std.proofs.Common.{arith, sym, ap, ◌+◌}
use Rattle.dpl_pack.proofs.MoatLemmas.{all_within}
use Rattle.dpl_pack.proofs.OutLemmas.{walk_starts, walk_on, walk_ends, walk_place, walk_short, walk_small}
use Rattle.dpl_pack.proofs.climbs.total.Goals as goal

pub loop-step-init : goal.loop-step-init
loop-step-init c = walk_starts _ c.tops-top.ensures.family _ _ (omega (arith, c.requires.member, c.requires.size))

pub value-value-requires : goal.value-value-requires
value-value-requires c = (walk_place _ c.tops-top.ensures.family _ _ _ _ _ _ (omega (arith, c.requires.member, c.requires.size)) c.loop-step.invariant).live

pub overflow_add-inside : goal.overflow_add-inside
overflow_add-inside c = omega (
  arith,
  walk_small _ c.tops-top.ensures.family _ _ _ _ _ _ (omega (arith, c.requires.member, c.requires.size)) c.loop-step.invariant,
  all_within _ c.tops-top.ensures.family,
  c.value-value.ensures.value,
)

pub parent-requires : goal.parent-requires
parent-requires c = (walk_place _ c.tops-top.ensures.family _ _ _ _ _ _ (omega (arith, c.requires.member, c.requires.size)) c.loop-step.invariant).live

pub loop-step-preserved : goal.loop-step-preserved
loop-step-preserved c =
    let more = ap (λ z. c.loop-step.inside + z) c.value-value.ensures.value in
    walk_on _ c.tops-top.ensures.family _ _ _ _ _ _ _ _ _ (omega (arith, c.requires.member, c.requires.size)) c.loop-step.invariant
    (sym c.in-Some.ensures.value) more more

pub returns-in-None : goal.returns-in-None
returns-in-None c = walk_ends _ c.tops-top.ensures.family _ _ _ _ _ _ _ (omega (arith, c.requires.member, c.requires.size)) c.loop-step.invariant
    (sym c.in-None.ensures.value) (ap (λ z. c.loop-step.inside + z) c.value-value.ensures.value)

pub unreachable-requires : goal.unreachable-requires
unreachable-requires c = omega (
  arith,
  walk_short _ c.tops-top.ensures.family _ _ _ _ _ _ (omega (arith, c.requires.member, c.requires.size)) c.loop-step.invariant,
  c.loop-step-test.false,
  c.requires.size,
)
