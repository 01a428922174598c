use Rattle.std.proofs.Common.{rules, ◌≤◌}
use Rattle.dpl_report.specs.Plain.{plain_report}
use Rattle.dpl_good.proofs.ValidLemmas.{true_is_valid}
use Rattle.dpl_good.proofs.goodness.true_reports_are_valid.Goals as goal

pub returns : goal.returns
returns c =
    let small : c.args.net.now.piece_count ≤ 1000000000000 = search rules in
    true_is_valid c.args.options.now c.args.fragments.now c.args.net.now (plain_report c.args.report.now)
    c.requires.truth c.in_range.ensures c.requires.keep small c.requires.few
