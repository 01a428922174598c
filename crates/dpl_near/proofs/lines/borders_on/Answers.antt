use Rattle.dpl_near.proofs.LineLemmas.{on_line}
use Rattle.dpl_near.proofs.lines.borders_on.Goals as goal

pub returns-clause-on : goal.returns-clause-on
returns-clause-on c = on_line c.args.borders.now c.args.line.now c.requires.order c.requires.line
