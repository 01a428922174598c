use Rattle.std.proofs.Common.{sym, ◌∙◌}
use Rattle.dpl_form.specs.Lines.{lines_in}
use Rattle.dpl_parse.proofs.CycleLemmas.{all_behind}
use Rattle.dpl_parse.proofs.lines.behind.Goals as goal

pub returns : goal.returns
returns g c =
    sym (all_behind g.T.Rising.made_of g.T.Rising.edge_of g.T.Rising.line_of c.lines.least (lines_in c.lines.rest.now)
    g.met.T.Rising.no_cycle c.in_default.ensures) ∙ c.lines.invariant
