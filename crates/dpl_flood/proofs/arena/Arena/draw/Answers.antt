use Rattle.std.proofs.Common.{sym, ap, ◌∙◌, subst}
use Rattle.dpl_flood.specs.Arenas.{IsOver, node_at}
use Rattle.dpl_flood.proofs.ArenaLemmas.{longer_trans}
use Rattle.dpl_flood.proofs.JoinLemmas.{drawing, drawn, drawing_over, drawing_fits, drawing_on, last_of}
use Rattle.dpl_flood.proofs.arena.Arena.draw.Goals as goal

pub loop-last-init : goal.loop-last-init
loop-last-init c = drawing c.args.ways.now c.args.self.now c.args.join c.requires.nodes c.requires.join

pub returns-in-None-clause-drawn : goal.returns-in-None-clause-drawn
returns-in-None-clause-drawn c = drawn c.args.ways.now c.args.self.now c.loop-last.self c.args.join c.loop-last.at c.loop-last.invariant
    (sym (ap (λ x. x.last) c.node-here.ensures) ∙ c.in-None.is)

pub onward-requires-clause-over : goal.onward-requires-clause-over
onward-requires-clause-over c = subst (λ x. IsOver c.args.ways.now (node_at c.loop-last.self c.loop-last.at.second).face c.loop-last.at.way x.face) (sym c.node-here.ensures)
    (drawing_over c.args.ways.now c.args.self.now c.loop-last.self c.args.join c.loop-last.at c.loop-last.invariant)

pub onward-requires-clause-fits : goal.onward-requires-clause-fits
onward-requires-clause-fits c = drawing_fits c.args.ways.now c.args.self.now c.loop-last.self c.args.join c.loop-last.at c.loop-last.invariant c.requires.fits

pub returns-in_err-second-in-Some-clause-longer : goal.returns-in_err-second-in-Some-clause-longer
returns-in_err-second-in-Some-clause-longer c = longer_trans c.args.self.now c.loop-last.self c.onward.new.self c.loop-last.invariant.longer c.onward.ensures.longer

pub loop-last-smaller : goal.loop-last-smaller
loop-last-smaller c =
    (last_of c.args.ways.now c.loop-last.self c.loop-last.at.first c.in-Some.last c.loop-last.invariant.nodes c.loop-last.invariant.join.first
    (sym (ap (λ x. x.last) c.node-here.ensures) ∙ c.in-Some.is)).0

pub loop-last-preserved : goal.loop-last-preserved
loop-last-preserved c = drawing_on c.args.ways.now c.args.self.now c.loop-last.self c.onward.new.self c.args.join c.loop-last.at c.in-Some.last
    c.in_ok-second-in-Some.second c.loop-last.invariant (sym (ap (λ x. x.last) c.node-here.ensures) ∙ c.in-Some.is)
    (rw (ap (λ x. x.face) c.node-here.ensures) at c.in_ok-second-in-Some.ensures.node) c.onward.ensures.longer
    (c.onward.ensures.kept c.loop-last.invariant.nodes)
