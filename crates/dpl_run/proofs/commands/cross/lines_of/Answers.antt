use Rattle.std.proofs.Common.{◌∙◌, ap}
use Rattle.dpl_run.specs.Lines.{cross_lines}
use Rattle.dpl_run.proofs.CrossLemmas.{shows_bar, shows_crossing}
use Rattle.dpl_run.proofs.commands.cross.lines_of.Goals as goal

pub returns : goal.returns
returns c =
    let f = c.args.layer.now.fragments in
    let net = c.args.layer.now.net in
    let crossing = c.in_ok-crossing.crossing in
    let bar = c.in_ok-drawn.drawn.bar in
    let made = c.in_ok-crossing.is in
    record {
      crossing = crossing;
      crosses = shows_crossing f net crossing c.in_ok-crossing.ensures.some (λ none. c.in_ok-crossing.ensures.none (cc));
      bar = bar;
      bars = shows_bar net bar c.in_ok-drawn.ensures.none c.in_ok-drawn.ensures.least c.in_ok-drawn.ensures.bar;
      is = c.in_ok-lines.ensures ∙ ap (λ z. cross_lines z crossing bar) c.in_ok-drawn.ensures.excess;
    }
