use Rattle.std.proofs.Common.{length}
use Rattle.dpl_links.specs.Gathering.{scene_in}
use Rattle.dpl_links.proofs.CrowdLemmas.{but_none, crowded_all, turns_moved}
use Rattle.dpl_links.proofs.crowded.add_crowded.Goals as goal

pub returns-then-not-is_any-clause-links : goal.returns-then-not-is_any-clause-links
returns-then-not-is_any-clause-links c = but_none (scene_in c.args.pieces.now) c.args.pieces.now.piece.now
    (length c.args.pieces.now.rects.now) c.args.crowded.now c.args.found.items (c.is_any.ensures c.if-not-is_any.true) c.requires.found

pub look_around_all-requires-clause-inside : goal.look_around_all-requires-clause-inside
look_around_all-requires-clause-inside c = rw c.as_slice-6.ensures.value (turns_moved _ _ _ _ c.in_turn.ensures c.in_ok-turns.ensures).each

pub returns-clause-links : goal.returns-clause-links
returns-clause-links c = crowded_all _ c.args.crowded.now c.in_turn.new.turns.items c.args.found.items c.in-Ok.links.items
    (turns_moved _ _ _ _ c.in_turn.ensures c.in_ok-turns.ensures) c.requires.found
    (rw c.as_slice-6.ensures.value at c.in-Ok.ensures.links)
