use Rattle.dpl_euler.proofs.SegmentLemmas.{other_plain}
use Rattle.dpl_euler.proofs.links.other_diagonal.Goals as goal

pub returns : goal.returns
returns c = other_plain c.args.rect.now
