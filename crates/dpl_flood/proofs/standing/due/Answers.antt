use Rattle.std.proofs.Common.{◌∙◌, subst}
use Rattle.dpl_dual.specs.Duals.{way_at}
use Rattle.dpl_flood.specs.Standings.{StandsOn}
use Rattle.dpl_flood.proofs.StandingLemmas.{between_due, shore_due, shore_due_back}
use Rattle.dpl_flood.proofs.standing.due.Goals as goal

pub returns-in-Some-second : goal.returns-in-Some-second
returns-in-Some-second c = λ d terminals s w sea time size first second.
    c.due_between.ensures ∙ between_due d terminals s w c.in-Some.x c.in-Some-second.y c.args.length c.args.time sea time size
    (subst (StandsOn s (way_at d.crosses w).f) c.in-Some.is first) (subst (StandsOn s (way_at d.crosses w).g) c.in-Some-second.is second)

pub returns-in-None-second : goal.returns-in-None-second
returns-in-None-second c = λ d terminals s w sea time size first second.
    c.due_at_shore.ensures ∙ shore_due d terminals s w c.in-Some.x c.args.length c.args.time sea time size
    (subst (StandsOn s (way_at d.crosses w).f) c.in-Some.is first) (subst (StandsOn s (way_at d.crosses w).g) c.in-None-second.is second)

pub returns-in-Some-second-2 : goal.returns-in-Some-second-2
returns-in-Some-second-2 c = λ d terminals s w sea time size first second.
    c.due_at_shore-in-Some-second-2.ensures ∙ shore_due_back d terminals s w c.in-Some-second-2.y c.args.length c.args.time sea time size
    (subst (StandsOn s (way_at d.crosses w).f) c.in-None.is first) (subst (StandsOn s (way_at d.crosses w).g) c.in-Some-second-2.is second)
