use Rattle.dpl_links.specs.Gathering.{scene_in}
use Rattle.dpl_links.proofs.GatherLemmas.{gathered_crowded}
use Rattle.dpl_links.proofs.linking.add_links.Goals as goal

pub returns-in_ok-push-in-None-clause-gathered : goal.returns-in_ok-push-in-None-clause-gathered
returns-in_ok-push-in-None-clause-gathered c = gathered_crowded (scene_in c.args.pieces.now) c.args.pieces.now.piece.now c.args.i
    c.args.crowded.now.items c.push.new.self.items c.args.found.now.items
    c.requires.long c.in_ok-push-in-None.ensures.items c.requires.gathered
