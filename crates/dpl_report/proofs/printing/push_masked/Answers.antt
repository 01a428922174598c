use Rattle.std.proofs.Common.{rules, append_assoc, append-nil}
use Rattle.dpl_report.proofs.printing.push_masked.Goals as goal

pub returns : goal.returns
returns c = search (rules, append_assoc, append-nil)
