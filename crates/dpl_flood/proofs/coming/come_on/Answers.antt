use Rattle.std.proofs.Common.{arith, ap, ◌∙◌}
use Rattle.dpl_dual.specs.Duals.{way_at}
use Rattle.dpl_flood.proofs.ComeLemmas.{come_met, come_taken, come_back}
use Rattle.dpl_flood.proofs.coming.come_on.Goals as goal

pub returns-in-Some-standing : goal.returns-in-Some-standing
returns-in-Some-standing c =
    let is = c.way_of-cross.ensures ∙ ap (λ z. way_at z c.args.way) c.as_slice.ensures in
    let m = come_met c.args.dual.now c.args.state.now c.args.way c.way_of-cross.result c.in-Some.one c.in-Some-standing.two c.requires.state c.requires.way is
    (omega (arith, c.if-state-look.false, c.look.ensures)) c.in-Some.ensures c.in-Some-standing.ensures in
    c.meeting.ensures c.args.dual.now c.args.state.now c.requires.state m.0 m.1.0 c.in-Some.ensures c.in-Some-standing.ensures m.1.1.0 m.1.1.1

pub returns-in-None-standing : goal.returns-in-None-standing
returns-in-None-standing c =
    let is = c.way_of-cross.ensures ∙ ap (λ z. way_at z c.args.way) c.as_slice.ensures in
    come_taken c.args.dual.now c.args.state.now c.args.way c.way_of-cross.result c.in-Some.one c.requires.state c.requires.way is
    (omega (arith, c.if-state-look.false, c.look.ensures)) c.in-Some.ensures c.in-None-standing.ensures

pub returns-in-None : goal.returns-in-None
returns-in-None c =
    let is = c.way_of-cross.ensures ∙ ap (λ z. way_at z c.args.way) c.as_slice.ensures in
    come_back c.args.dual.now c.args.state.now c.args.way c.way_of-cross.result c.requires.state c.requires.way is
    (omega (arith, c.if-state-look.false, c.look.ensures)) c.in-None.ensures
