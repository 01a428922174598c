use Rattle.std.proofs.Common.{arith, ◌≡◌, ◌+◌, get_or}
use Rattle.std.proofs.lemmas.List.{get_or_default}
use Rattle.dpl_index.specs.declared.stops.Stop.{Stop}
use Rattle.dpl_index.proofs.KindLemmas.{asked_on, asked_past, asked_ends}
use Rattle.dpl_index.proofs.StopLemmas.{blank}
use Rattle.dpl_index.proofs.kinded.gather_asked.Goals as goal

pub stops-preserved-then-may_hold : goal.stops-preserved-then-may_hold
stops-preserved-then-may_hold c =
    asked_on _ _ c.args.stops.now c.args.from c.stops.at _ _ (get_or c.args.stops.now c.stops.at blank)
    (λ d. get_or_default c.args.stops.now c.stops.at d blank c.stops-test.true)
    (c.requires.index.inside c.stops.at blank c.stops-test.true) c.in_ok-push_asked.ensures c.stops.invariant

pub stops-preserved : goal.stops-preserved
stops-preserved c =
    let stop : Stop = get_or c.args.stops.now c.stops.at blank in
    let e : c.stops.at + (stop.rest + 1) ≡ c.stops.at + stop.rest + 1 = omega arith in
    rw e (asked_past _ _ c.args.stops.now c.args.from c.stops.at _ stop
    (λ d. get_or_default c.args.stops.now c.stops.at d blank c.stops-test.true) c.stops-test.true
    (c.may_hold.ensures c.if-may_hold.false) c.requires.index c.requires.kinds c.stops.invariant)

pub returns-clause-all : goal.returns-clause-all
returns-clause-all c few = asked_ends _ _ c.args.stops.now c.args.from c.stops.at _ c.stops-test.false c.stops.invariant
