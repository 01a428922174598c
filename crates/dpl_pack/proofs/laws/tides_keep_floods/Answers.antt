use Rattle.dpl_pack.proofs.TideLemmas.{turned_apart, turned_together, turned_way, shore_is_water}
use Rattle.dpl_pack.proofs.MoveLemmas.{flood_turned, flood_moved}
use Rattle.dpl_pack.proofs.FoldLemmas.{flood_same, shrunk_but, expanded_but}
use Rattle.dpl_pack.proofs.laws.tides_keep_floods.Goals as goal

pub returns-clause-points : goal.returns-clause-points
returns-clause-points c = λ f gain loss v p q family turned sp sq. (
  turned_apart f gain loss v family turned p q sp sq,
  turned_together f gain loss v family turned p q sp sq,
)

pub returns-clause-ways : goal.returns-clause-ways
returns-clause-ways c = λ f gain loss v p q long family turned sp sq. turned_way f gain loss v family turned p q long sp sq

pub returns-clause-floods : goal.returns-clause-floods
returns-clause-floods c = flood_turned

pub returns-clause-names : goal.returns-clause-names
returns-clause-names c = flood_moved

pub returns-clause-shores : goal.returns-clause-shores
returns-clause-shores c = λ f t far family h e. shore_is_water f family t far h e

pub returns-clause-folds : goal.returns-clause-folds
returns-clause-folds c = λ d terminals children joins set old new point s.
    flood_same set d terminals old new point (shrunk_but old children joins set new s)

pub returns-clause-opened : goal.returns-clause-opened
returns-clause-opened c = λ d terminals set old new point s z. flood_same set d terminals old new point (expanded_but old set new s z)
