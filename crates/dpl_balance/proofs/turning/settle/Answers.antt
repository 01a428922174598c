use Rattle.dpl_balance.proofs.SettleLemmas.{settled_by}
use Rattle.dpl_balance.proofs.turning.settle.Goals as goal

pub parts-preserved : goal.parts-preserved
parts-preserved c =
    settled_by c.args.parts.now c.parts.rest.now c.in-Some.others.now c.parts.turned c.args.turned.now c.parts.on
    c.in-Some.part.now c.lightens-turn.result _ _ c.parts.invariant c.in-Some.ensures.cases.0 c.requires.distinct
    c.requires.within c.requires.room c.lightens-turn.ensures c.with_part-on.ensures.a c.with_part-on.ensures.b
