use Rattle.dpl_edit.proofs.CountLemmas.{text_counted}
use Rattle.dpl_edit.proofs.weighing.sessions_count_as_readers.Goals as goal

pub returns : goal.returns
returns c = text_counted
