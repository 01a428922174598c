use Rattle.std.proofs.Common.{◌∷◌, [], ◌++◌, sym, ap, ◌∙◌, take}
use Rattle.dpl_refine.specs.Components.{ends_of}
use Rattle.dpl_refine.proofs.PieceLemmas.{grown}
use Rattle.dpl_refine.proofs.AroundLemmas.{push_ends}
use Rattle.dpl_refine.proofs.joining.ends.Goals as goal

pub loop-edge-preserved : goal.loop-edge-preserved
loop-edge-preserved c =
    let i = c.loop-edge.edge-index in
    let e = c.edge-item.result in
    c.in_ok-push.ensures.items ∙ ap (λ z. z ++ (e.a, e.b) ∷ []) c.loop-edge.invariant ∙ sym (push_ends (take i c.args.edges.now) e)
    ∙ ap ends_of (grown c.args.edges.now i e c.loop-edge-test.true c.edge-item.is)
