use Rattle.dpl_cycle.proofs.Exchange.{exchange_law}
use Rattle.dpl_cycle.proofs.laws.exchange_splits_or_merges.Goals as goal

pub returns : goal.returns
returns c = λ next back p. exchange_law _ _ _ p _ _ c.requires.first c.requires.second c.requires.apart
