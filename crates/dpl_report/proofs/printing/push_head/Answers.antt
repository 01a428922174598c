use Rattle.std.proofs.Common.{◌++◌}
use Rattle.dpl_report.specs.ReportLines.{params_lines, counts_lines, costs_lines, more_lines}
use Rattle.dpl_form.proofs.TextLemmas.{joined}
use Rattle.dpl_report.proofs.printing.push_head.Goals as goal

pub returns : goal.returns
returns c =
    let r = c.args.r.now in
    let a = params_lines r.params in
    let b = counts_lines r.counts in
    let d = costs_lines r.cost r.bound r.colours in
    let o = c.args.out.now.items in
    let m = more_lines r.params.corner r.params.keep in
    let p = c.push_params.new.out.items in
    let q = c.push_counts.new.out.items in
    let t = c.push_more.new.out.items in
    let last = joined q c.push_costs.new.out.items t d m c.in_ok-push_costs.ensures c.in_ok-push_more.ensures in
    let later = joined p q t b (d ++ m) c.in_ok-push_counts.ensures last in
    joined o p t a (b ++ (d ++ m)) c.in_ok-push_params.ensures later
