use Rattle.std.proofs.Common.{◌≡◌, zero, length}
use Rattle.dpl_form.specs.Lines.{lines_in}
use Rattle.dpl_parse.specs.Blocks.{rising_block}
use Rattle.dpl_parse.proofs.lines.behind.Given as goal

abbrev pub invariant-lines : goal.invariant-lines
invariant-lines g l = (rising_block g.T.Rising.made_of g.T.Rising.edge_of g.T.Rising.line_of l.least (lines_in l.rest)).1
    ≡ (rising_block g.T.Rising.made_of g.T.Rising.edge_of g.T.Rising.line_of zero (lines_in l.text)).1

abbrev pub decreases-lines : goal.decreases-lines
decreases-lines g l = length l.rest
