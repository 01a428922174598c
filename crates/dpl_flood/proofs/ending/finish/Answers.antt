use Rattle.std.proofs.Common.{sym, subst}
use Rattle.dpl_laminar.specs.Storing.{sets_of}
use Rattle.dpl_tree.specs.Stages.{IsCovered}
use Rattle.dpl_tree.specs.Views.{mate_in}
use Rattle.dpl_flood.specs.Flips.{AreOverChains}
use Rattle.dpl_flood.specs.Joins.{HaveSeats}
use Rattle.dpl_flood.proofs.RunLemmas.{all_covered}
use Rattle.dpl_flood.proofs.ending.finish.Goals as goal

pub join_all-requires-clause-seats : goal.join_all-requires-clause-seats
join_all-requires-clause-seats c = subst (HaveSeats c.args.state.now.arena) (sym c.as_slice.ensures) c.requires.forest.seats

pub join_all-requires-clause-covered : goal.join_all-requires-clause-covered
join_all-requires-clause-covered c k h =
    subst (λ z. IsCovered (sets_of c.args.state.now.family).size (sets_of c.args.state.now.family) (mate_in z) k) (sym c.deref_mut.ensures.value)
    (all_covered c.args.dual.now c.args.state.now c.requires.forest c.requires.none k h)

pub returns-clause-least : goal.returns-clause-least
returns-clause-least c other long pairs over =
    c.join_all.ensures.least other long pairs (subst (λ z. AreOverChains c.args.dual.now.crosses z long) (sym c.as_slice.ensures) over)
