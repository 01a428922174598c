use Rattle.dpl_links.proofs.ReachLemmas.{told_by}
use Rattle.dpl_links.proofs.pieces.are_as_told.Goals as goal

pub returns : goal.returns
returns c = λ e. told_by c.args.by_key.now c.args.keys.now c.args.values.now c.loop-i.i c.loop-i-test.false c.loop-i.invariant
