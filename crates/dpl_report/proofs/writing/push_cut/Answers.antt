use Rattle.std.proofs.Common.{rules, append_assoc}
use Rattle.dpl_report.proofs.writing.push_cut.Goals as goal

pub returns : goal.returns
returns c = search (rules, append_assoc)
