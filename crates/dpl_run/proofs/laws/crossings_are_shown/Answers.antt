use Rattle.dpl_sign.proofs.AsideLaw.{none_aside}
use Rattle.dpl_euler.proofs.FirstLemmas.{listed_first}
use Rattle.dpl_run.proofs.laws.crossings_are_shown.Goals as goal

pub returns-clause-crossing : goal.returns-clause-crossing
returns-clause-crossing c f net x = ((λ h. (h.edge, h.crosses)), λ (l, h). record { edge = l; crosses = h })

pub returns-clause-no_crossing : goal.returns-clause-no_crossing
returns-clause-no_crossing c f net =
    ((λ h e other l w. h (record { edge = e; other = other }) (record { edge = l; crosses = w })), λ h x w. h x.edge x.other w.edge w.crosses)

pub returns-clause-bar : goal.returns-clause-bar
returns-clause-bar c net bar =
    let first = listed_first net bar.edge in
    ((λ (f, b). (first.0 f, b)), λ (f, b). (first.1 f, b))

pub returns-clause-no_bar : goal.returns-clause-no_bar
returns-clause-no_bar c net = none_aside net
