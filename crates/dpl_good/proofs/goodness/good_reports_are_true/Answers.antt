use Rattle.dpl_report.specs.Plain.{plain_report}
use Rattle.dpl_good.proofs.TrueLemmas.{good_is_true}
use Rattle.dpl_good.proofs.goodness.good_reports_are_true.Goals as goal

pub returns : goal.returns
returns c = good_is_true c.args.options.now c.args.fragments.now c.args.net.now (plain_report c.args.report.now)
    c.in_range.ensures c.requires.valid c.requires.good
