use Rattle.dpl_stay.proofs.SightLemmas.{same_by_sight}
use Rattle.dpl_stay.proofs.laws.numbers_do_not_count.Goals as goal

pub returns : goal.returns
returns c f g n m v w = same_by_sight f g n m v w
