use Rattle.std.proofs.Common.{◌∙◌}
use Rattle.dpl_flood.proofs.SweepLemmas.{swept_thawed, faces_thawed, swept_more, two_swept}
use Rattle.dpl_flood.proofs.sweeping.come.Goals as goal

pub next_later-requires-clause-two : goal.next_later-requires-clause-two
next_later-requires-clause-two g c =
    two_swept c.args.dual.now c.args.state.now c.thaw.new.state
    (swept_thawed c.args.state.now c.thaw.new.state c.thaw.ensures.rest c.thaw.ensures.same c.in_ok-thaw.ensures.awake) c.requires.two

pub returns-clause-swept : goal.returns-clause-swept
returns-clause-swept g c =
    swept_more c.args.state.now c.thaw.new.state c.next_later.new.state
    (swept_thawed c.args.state.now c.thaw.new.state c.thaw.ensures.rest c.thaw.ensures.same c.in_ok-thaw.ensures.awake) c.next_later.ensures.swept

pub returns-clause-faces : goal.returns-clause-faces
returns-clause-faces g c =
    c.next_later.ensures.faces ∙ faces_thawed c.args.dual.now c.args.state.now c.thaw.new.state c.thaw.ensures.rest c.thaw.ensures.same.tree

pub returns-in-Some-next_now-clause-swept : goal.returns-in-Some-next_now-clause-swept
returns-in-Some-next_now-clause-swept g c =
    swept_thawed c.args.state.now c.thaw.new.state c.thaw.ensures.rest c.thaw.ensures.same c.in_ok-thaw.ensures.awake
