use Rattle.std.proofs.Common.{◌≡◌, ◌+◌, ◌∙◌, sym, ap, subst, Some}
use Rattle.dpl_dual.specs.Duals.{way_at}
use Rattle.dpl_flood.specs.declared.nodes.Node.{Node}
use Rattle.dpl_flood.specs.Arenas.{AreNodes, IsThere, node_at}
use Rattle.dpl_flood.specs.Holdings.{node_of}
use Rattle.dpl_flood.specs.States.{IsState, sea_of}
use Rattle.dpl_laminar.specs.Storing.{sets_of}
use Rattle.dpl_flood.proofs.ResultLemmas.{on_err}
use Rattle.dpl_flood.proofs.ShiftLemmas.{with_held, longer_sea, longer_stands, taken_over}
use Rattle.dpl_flood.proofs.shores.take.Goals as goal

pub returns-in_err-node-clause-err : goal.returns-in_err-node-clause-err
returns-in_err-node-clause-err c = on_err c.from_residual.result
    (longer_sea c.args.dual.now c.args.state.now c.onward.new.self c.requires.state c.onward.ensures.longer)

pub returns-in_err-node-clause-state : goal.returns-in_err-node-clause-state
returns-in_err-node-clause-state c = longer_stands c.args.dual.now c.args.state.now c.onward.new.self c.requires.state c.onward.ensures.longer
    (subst (λ z. AreNodes z c.args.state.now.arena → AreNodes z c.onward.new.self) c.as_slice.ensures c.onward.ensures.kept c.requires.state.chains)

pub returns-in_err-push-clause-err : goal.returns-in_err-push-clause-err
returns-in_err-push-clause-err c = on_err c.from_residual-in_err-push.result
    (ap (λ h. sea_of (with_held c.args.state.now c.onward.new.self h)) c.in_err-push.ensures.err
    ∙ longer_sea c.args.dual.now c.args.state.now c.onward.new.self c.requires.state c.onward.ensures.longer)

pub returns-in_err-push-clause-state : goal.returns-in_err-push-clause-state
returns-in_err-push-clause-state c =
    let chains = subst (λ z. AreNodes z c.args.state.now.arena → AreNodes z c.onward.new.self) c.as_slice.ensures c.onward.ensures.kept c.requires.state.chains in
    subst (λ h. IsState c.args.dual.now (with_held c.args.state.now c.onward.new.self h)) (sym c.in_err-push.ensures.err)
    (longer_stands c.args.dual.now c.args.state.now c.onward.new.self c.requires.state c.onward.ensures.longer chains)

pub returns-clause-ok : goal.returns-clause-ok
returns-clause-ok c =
    let x = c.args.state.now in
    let chains = subst (λ z. AreNodes z x.arena → AreNodes z c.onward.new.self) c.as_slice.ensures c.onward.ensures.kept c.requires.state.chains in
    let is : node_of x.held c.args.from ≡ Some c.in-Some.node = sym c.node.ensures ∙ c.in-Some.is in
    let there = subst (λ z. IsThere c.onward.new.self c.in_ok-node.node c.args.to (node_at x.arena c.in-Some.node).member
    ((node_at x.arena c.in-Some.node).far + (way_at z c.args.way).length)) c.as_slice.ensures c.in_ok-node.ensures.node in
    let top = c.tops-top.ensures.value ∙ ap (λ (y : Node). (sets_of x.family).top y.member) c.node-2.ensures in
    (taken_over c.args.dual.now x c.onward.new.self c.args.from c.args.way c.args.to c.in-Some.node c.in_ok-node.node c.tops-top.result c.push.new.self
    c.requires.state c.onward.ensures.longer chains c.requires.reached is there top c.in_ok-push.ensures.ok).1

pub returns-clause-state : goal.returns-clause-state
returns-clause-state c =
    let x = c.args.state.now in
    let chains = subst (λ z. AreNodes z x.arena → AreNodes z c.onward.new.self) c.as_slice.ensures c.onward.ensures.kept c.requires.state.chains in
    let is : node_of x.held c.args.from ≡ Some c.in-Some.node = sym c.node.ensures ∙ c.in-Some.is in
    let there = subst (λ z. IsThere c.onward.new.self c.in_ok-node.node c.args.to (node_at x.arena c.in-Some.node).member
    ((node_at x.arena c.in-Some.node).far + (way_at z c.args.way).length)) c.as_slice.ensures c.in_ok-node.ensures.node in
    let top = c.tops-top.ensures.value ∙ ap (λ (y : Node). (sets_of x.family).top y.member) c.node-2.ensures in
    (taken_over c.args.dual.now x c.onward.new.self c.args.from c.args.way c.args.to c.in-Some.node c.in_ok-node.node c.tops-top.result c.push.new.self
    c.requires.state c.onward.ensures.longer chains c.requires.reached is there top c.in_ok-push.ensures.ok).0
