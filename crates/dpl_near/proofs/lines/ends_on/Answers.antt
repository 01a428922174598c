use Rattle.dpl_near.proofs.LineLemmas.{ends_of_part}
use Rattle.dpl_near.proofs.lines.ends_on.Goals as goal

pub returns : goal.returns
returns c = ends_of_part c.args.borders.now c.args.ends.now c.args.line.now.start c.args.line.now.end c.requires.ends
