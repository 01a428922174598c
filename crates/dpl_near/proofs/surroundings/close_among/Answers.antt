use Rattle.dpl_near.proofs.AroundLemmas.{close_more, close_all}
use Rattle.dpl_near.proofs.surroundings.close_among.Goals as goal

pub loop-j-preserved : goal.loop-j-preserved
loop-j-preserved c = close_more _ _ c.args.found.now c.loop-j.j-index _ _ c.in_ok-push_near.ensures c.loop-j.invariant

pub returns : goal.returns
returns c = close_all _ _ c.args.found.now c.loop-j.j-index _ c.loop-j-test.false c.requires.found c.loop-j.invariant
