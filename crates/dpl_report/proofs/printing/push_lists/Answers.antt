use Rattle.std.proofs.Common.{rules, append_assoc, append-nil}
use Rattle.dpl_form.proofs.TextLemmas.{text_of-append}
use Rattle.dpl_report.proofs.printing.push_lists.Goals as goal

pub returns : goal.returns
returns c = search (rules, append_assoc, append-nil, text_of-append)
