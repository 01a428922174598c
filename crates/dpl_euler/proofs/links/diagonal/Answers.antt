use Rattle.dpl_euler.proofs.SegmentLemmas.{diagonal_plain}
use Rattle.dpl_euler.proofs.links.diagonal.Goals as goal

pub returns : goal.returns
returns c = diagonal_plain c.args.rect.now
