use Rattle.std.proofs.Common.{◌∙◌}
use Rattle.dpl_core.proofs.StayLemmas.{still_tight, still_least}
use Rattle.dpl_core.proofs.balancing.balanced.Goals as goal

pub balance-requires-clause-one : goal.balance-requires-clause-one
balance-requires-clause-one c = c.requires.report.truth.colouring.length ∙ c.requires.layer.is.layer.net.nodes

pub balance-requires-clause-nodes : goal.balance-requires-clause-nodes
balance-requires-clause-nodes c = c.requires.layer.is.layer.net.nodes

pub report_is_of_the_layer-requires-clause-truth : goal.report_is_of_the_layer-requires-clause-truth
report_is_of_the_layer-requires-clause-truth c = c.in_ok-report.ensures.truth c.args.options.now c.requires.report.truth

pub report_is_of_the_layer-requires-clause-tight : goal.report_is_of_the_layer-requires-clause-tight
report_is_of_the_layer-requires-clause-tight c = still_tight c.args.layer.now.net c.args.report c.in_ok-report.report
    c.in_ok-report.ensures.rest c.in_ok-report.ensures.broken c.requires.report.tight

pub report_is_of_the_layer-requires-clause-least : goal.report_is_of_the_layer-requires-clause-least
report_is_of_the_layer-requires-clause-least c = still_least c.args.layer.now.net c.args.report c.in_ok-report.report
    c.in_ok-report.ensures.rest c.in_ok-report.ensures.broken c.requires.report.least
