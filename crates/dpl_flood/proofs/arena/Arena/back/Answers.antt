use Rattle.std.proofs.Common.{sym, ap, ◌∙◌}
use Rattle.dpl_flood.proofs.JoinLemmas.{backing, backing_on}
use Rattle.dpl_flood.proofs.arena.Arena.back.Goals as goal

pub loop-last-init : goal.loop-last-init
loop-last-init c = backing c.args.ways.now c.args.self.now c.args.found.now.items c.args.end c.requires.inside

pub loop-last-preserved : goal.loop-last-preserved
loop-last-preserved c = backing_on c.args.ways.now c.args.self.now c.args.found.now.items c.loop-last.found.items c.push.new.self.items c.args.end
    c.loop-last.here c.in-Some.last c.requires.nodes c.loop-last.invariant (sym (ap (λ x. x.last) c.node.ensures) ∙ c.in-Some.is)
    c.in_ok-push-in-Some.ensures.items
