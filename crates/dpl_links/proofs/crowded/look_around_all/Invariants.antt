use Rattle.dpl_links.specs.Gathering.{scene_in}
use Rattle.dpl_links.proofs.CrowdLemmas.{UnderWay}
use Rattle.dpl_links.proofs.crowded.look_around_all.Given as goal

abbrev pub invariant-loop-turn : goal.invariant-loop-turn
invariant-loop-turn l = UnderWay (scene_in l.crowd.pieces) l.crowd.pieces.piece.now l.crowd.stops.now l.turns l.turn-index
    l.initial.found.items l.found.items l.nearest.items
