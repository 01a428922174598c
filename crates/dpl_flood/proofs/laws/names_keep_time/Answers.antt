use Rattle.dpl_flood.proofs.NameLemmas.{named_passed, named_grown, named_rated, named_folded, folded_two, named_opened, named_shifted}
use Rattle.dpl_flood.proofs.laws.names_keep_time.Goals as goal

pub returns-clause-time : goal.returns-clause-time
returns-clause-time c = named_passed

pub returns-clause-grows : goal.returns-clause-grows
returns-clause-grows c = named_grown

pub returns-clause-rates : goal.returns-clause-rates
returns-clause-rates c = named_rated

pub returns-clause-folds : goal.returns-clause-folds
returns-clause-folds c = λ d terminals x children joins set new gain loss rests s f. (
  (λ a n. named_folded d terminals x children joins set new gain loss rests a s f n),
  (λ a b n m ne once. folded_two d terminals x children joins set new gain loss rests a b s f n m ne once),
)

pub returns-clause-opened : goal.returns-clause-opened
returns-clause-opened c = named_opened

pub returns-clause-shifts : goal.returns-clause-shifts
returns-clause-shifts c = named_shifted
