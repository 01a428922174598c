use Rattle.std.proofs.Common.{rules, append_assoc, append-nil}
use Rattle.dpl_report.proofs.printing.push_params.Goals as goal

pub returns : goal.returns
returns c = search (rules, append_assoc, append-nil)
