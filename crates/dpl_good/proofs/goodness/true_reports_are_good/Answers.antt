use Rattle.dpl_report.specs.Plain.{plain_report}
use Rattle.dpl_good.proofs.GoodLemmas.{true_is_good}
use Rattle.dpl_good.proofs.goodness.true_reports_are_good.Goals as goal

pub returns : goal.returns
returns c = true_is_good c.args.options.now c.args.fragments.now c.args.net.now (plain_report c.args.report.now) c.requires
