use Rattle.dpl_near.proofs.LineLemmas.{first_on_line, lines_more}
use Rattle.dpl_near.proofs.lines.lines_of.Goals as goal

pub line_from-line-requires-clause-first : goal.line_from-line-requires-clause-first
line_from-line-requires-clause-first c = first_on_line c.args.borders.now c.lines.start c.lines.lines.items c.lines-test.true c.lines.invariant

pub lines-preserved : goal.lines-preserved
lines-preserved c = lines_more c.args.borders.now c.lines.start c.lines.lines.items _ c.line_from-line.result c.lines-test.true
    c.line_from-line.ensures.line c.line_from-line.ensures.start c.line_from-line.ensures.some c.in_ok-push.ensures.items c.lines.invariant
