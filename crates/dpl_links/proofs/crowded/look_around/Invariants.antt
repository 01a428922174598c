use Rattle.std.proofs.Common.{length, ◌-◌}
use Rattle.dpl_links.specs.Gathering.{scene_in}
use Rattle.dpl_links.specs.Crowds.{AddsLinks}
use Rattle.dpl_links.proofs.CrowdLemmas.{IsPassed}
use Rattle.dpl_links.proofs.crowded.look_around.Given as goal

abbrev pub invariant-stops : goal.invariant-stops
invariant-stops l = AddsLinks (scene_in l.crowd.pieces) l.crowd.pieces.piece.now l.turn.number
    (IsPassed l.crowd.stops.now l.turn.from l.at) l.initial.found.items l.found.items l.nearest.items

abbrev pub decreases-stops : goal.decreases-stops
decreases-stops l = length l.crowd.stops.now - l.at
