use Rattle.dpl_report.specs.ReportLines.{first_counts, other_counts}
use Rattle.dpl_form.proofs.TextLemmas.{joined}
use Rattle.dpl_report.proofs.printing.push_counts.Goals as goal

pub returns : goal.returns
returns c = joined c.args.out.now.items c.push_first_counts.new.out.items c.push_other_counts.new.out.items
    (first_counts c.args.k.now) (other_counts c.args.k.now) c.in_ok-push_first_counts.ensures
    c.in_ok-push_other_counts.ensures
