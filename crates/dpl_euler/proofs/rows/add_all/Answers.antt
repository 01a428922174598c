use Rattle.std.proofs.Common.{arith, ◌<◌, sym, ap, ◌∙◌, length}
use Rattle.dpl_sign.proofs.WalkLemmas.{edge_is}
use Rattle.dpl_euler.proofs.RowLemmas.{listed_take, listed_skip}
use Rattle.dpl_euler.proofs.rows.add_all.Goals as goal
use Rattle.dpl_euler.proofs.rows.add_all.Goals.{then-is_in+in_ok-add+in_ok-add-2, else-is_in}

pub loop-edge-preserved : goal.loop-edge-preserved
loop-edge-preserved c =
    let inside : c.loop-edge.edge < length c.args.graph.now.edges = omega (arith, c.loop-edge-test.true, ap length c.as_slice.ensures) in
    elim c.if-is_in.branch [
      | then-is_in+in_ok-add+in_ok-add-2 w ↦
          let ends = edge_is c.args.graph.now _ _ _ w.as_slice-then-is_in.ensures
          (omega (arith, inside, ap length w.as_slice-then-is_in.ensures)) w.index-as_slice-edge.is in
          rw (w.nodes-is, w.edges-is) (listed_take c.args.graph.now c.args.set.now _ _ _ _ _ _ c.loop-edge.edge w.index-as_slice-edge.result inside ends
          (sym c.is_in.ensures ∙ w.if-is_in.true) w.in_ok-add.ensures.nodes w.in_ok-add.ensures.edges w.in_ok-add-2.ensures.nodes
          w.in_ok-add-2.ensures.edges c.loop-edge.invariant)
      | else-is_in w ↦ rw (w.nodes-is, w.edges-is) (listed_skip c.args.graph.now c.args.set.now _ _ c.loop-edge.edge
          (sym c.is_in.ensures ∙ w.if-is_in.false) c.loop-edge.invariant)
    ]
