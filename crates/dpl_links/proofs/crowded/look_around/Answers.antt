use Rattle.std.proofs.Common.{arith, ◌≡◌, ◌+◌, get_or}
use Rattle.std.proofs.lemmas.List.{get_or_default}
use Rattle.dpl_index.specs.declared.stops.Stop.{Stop}
use Rattle.dpl_index.proofs.StopLemmas.{blank}
use Rattle.dpl_links.specs.Gathering.{scene_in}
use Rattle.dpl_links.specs.Crowds.{IsLeftOut}
use Rattle.dpl_links.proofs.CrowdLemmas.{walk_on, walk_past, walk_ends}
use Rattle.dpl_links.proofs.crowded.look_around.Goals as goal

pub stops-preserved-then-may_link : goal.stops-preserved-then-may_link
stops-preserved-then-may_link c =
    let stop : Stop = get_or c.args.crowd.now.stops.now c.stops.at blank in
    walk_on (scene_in c.args.crowd.now.pieces) c.args.crowd.now.pieces.piece.now c.args.turn.now.number c.args.crowd.now.stops.now
    c.args.turn.now.from c.stops.at stop
    c.args.found.now.items c.stops.found.items c.look_at.new.found.items c.stops.nearest.items c.look_at.new.nearest.items
    (λ d. get_or_default c.args.crowd.now.stops.now c.stops.at d blank c.stops-test.true) c.in_ok-look_at.ensures c.stops.invariant

pub stops-preserved : goal.stops-preserved
stops-preserved c =
    let stop : Stop = get_or c.args.crowd.now.stops.now c.stops.at blank in
    let e : c.stops.at + (stop.rest + 1) ≡ c.stops.at + stop.rest + 1 = omega arith in
    let out : IsLeftOut c.args.crowd.now c.stops.nearest.items stop c.args.turn.now.number =
    rw c.deref.ensures.value at (c.may_link.ensures c.if-may_link.false) in
    rw e (walk_past c.args.crowd.now c.args.turn.now.number c.args.turn.now.from c.stops.at stop c.args.found.now.items c.stops.found.items
    c.stops.nearest.items c.requires.crowd (λ d. get_or_default c.args.crowd.now.stops.now c.stops.at d blank c.stops-test.true)
    c.stops-test.true out c.stops.invariant)

pub returns : goal.returns
returns c = walk_ends (scene_in c.args.crowd.now.pieces) c.args.crowd.now.pieces.piece.now c.args.turn.now.number c.args.crowd.now.stops.now
    c.args.turn.now.from c.stops.at c.args.found.now.items c.stops.found.items c.stops.nearest.items c.stops-test.false c.stops.invariant
