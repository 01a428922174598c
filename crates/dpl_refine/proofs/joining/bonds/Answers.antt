use Rattle.std.proofs.Common.{◌∷◌, [], ◌++◌, sym, ap, ◌∙◌, take}
use Rattle.dpl_refine.specs.Pieces.{bonds_of}
use Rattle.dpl_refine.proofs.PieceLemmas.{ends_of, push_in, push_out, grown}
use Rattle.dpl_refine.proofs.joining.bonds.Goals.{then-is_bond+in_ok-push, else-is_bond}
use Rattle.dpl_refine.proofs.joining.bonds.Goals as goal

pub loop-edge-preserved : goal.loop-edge-preserved
loop-edge-preserved c =
    let i = c.loop-edge.edge-index in
    let e = c.edge-item.result in
    let more = ap bonds_of (grown c.args.edges.now i e c.loop-edge-test.true c.edge-item.is) in
    elim c.if-is_bond.branch [
      | then-is_bond+in_ok-push w ↦ ap (λ z. z.items) w.found-is ∙ w.in_ok-push.ensures.items ∙
          ap (λ z. z ++ ends_of e ∷ []) c.loop-edge.invariant ∙
          sym (push_in (take i c.args.edges.now) e (sym c.is_bond.ensures ∙ w.if-is_bond.true)) ∙ more
      | else-is_bond w ↦ ap (λ z. z.items) w.found-is ∙ c.loop-edge.invariant ∙
          sym (push_out (take i c.args.edges.now) e (sym c.is_bond.ensures ∙ w.if-is_bond.false)) ∙ more
    ]
