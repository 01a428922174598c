use Rattle.std.proofs.lemmas.Option.{same_Some}
use Rattle.dpl_links.specs.Gathering.{scene_in}
use Rattle.dpl_links.proofs.CrowdLemmas.{adds_known, adds_one}
use Rattle.dpl_links.proofs.crowded.look_at.Goals as goal

pub returns-then-has_standing : goal.returns-then-has_standing
returns-then-has_standing c = adds_known (scene_in c.args.pieces.now) c.args.pieces.now.piece.now c.args.i c.args.j c.in-Some.link
    c.args.found.now.items c.args.nearest.now.items c.requires.known
    (rw c.deref.ensures.value at (c.has_standing.ensures c.if-has_standing.true)) (λ l f e. same_Some _ _ (c.in-Some.ensures.all l f e))

pub returns-in_ok-add_link-in-Some : goal.returns-in_ok-add_link-in-Some
returns-in_ok-add_link-in-Some c = adds_one (scene_in c.args.pieces.now) c.args.pieces.now.piece.now c.args.i c.args.j c.in-Some.link
    c.args.found.now.items c.add_link.new.links.items c.args.nearest.now.items c.keep.new.nearest.items c.requires.known
    c.in_ok-add_link-in-Some.ensures c.in-Some.ensures.link (λ l f e. same_Some _ _ (c.in-Some.ensures.all l f e)) c.keep.ensures
