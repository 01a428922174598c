use Rattle.std.proofs.Common.{arith, ◌≡◌, ◌+◌, get_or}
use Rattle.std.proofs.lemmas.List.{get_or_default}
use Rattle.dpl_index.specs.declared.stops.Stop.{Stop}
use Rattle.dpl_index.proofs.StopLemmas.{blank}
use Rattle.dpl_index.proofs.MeetingLemmas.{not_met, walk_on, walk_past, walk_ends}
use Rattle.dpl_index.proofs.index.gather.Goals as goal

pub stops-preserved-then-do_meet : goal.stops-preserved-then-do_meet
stops-preserved-then-do_meet c =
    walk_on _ _ c.args.stops.now c.stops.at _ _ (get_or c.args.stops.now c.stops.at blank)
    (λ d. get_or_default c.args.stops.now c.stops.at d blank c.stops-test.true) c.in_ok-push_meeting.ensures c.stops.invariant

pub stops-preserved : goal.stops-preserved
stops-preserved c =
    let stop : Stop = get_or c.args.stops.now c.stops.at blank in
    let e : c.stops.at + (stop.rest + 1) ≡ c.stops.at + stop.rest + 1 = omega arith in
    rw e (walk_past _ _ c.args.stops.now c.stops.at _ stop
    (λ d. get_or_default c.args.stops.now c.stops.at d blank c.stops-test.true) c.stops-test.true
    (not_met _ _ _ c.if-do_meet.false c.do_meet.ensures.1) c.requires c.stops.invariant)

pub returns : goal.returns
returns c few = walk_ends _ _ c.args.stops.now c.stops.at _ c.stops-test.false c.requires c.stops.invariant
