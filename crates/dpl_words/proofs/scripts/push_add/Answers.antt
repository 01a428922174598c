use Rattle.std.proofs.Common.{rules, append_assoc}
use Rattle.dpl_words.proofs.scripts.push_add.Goals as goal

pub returns : goal.returns
returns c = search (rules, append_assoc)
