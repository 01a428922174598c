use Rattle.std.proofs.Common.{SFits, w64}
use Rattle.std.proofs.lemmas.Int.{to_z-of_z}
use Rattle.dpl_tiles.proofs.EndLemmas.{closed_next, closed_same, closed_none, closed_whole, nothing_found, one_found}
use Rattle.dpl_tiles.proofs.sweeping.push_closed.Goals as goal
use Rattle.dpl_tiles.proofs.sweeping.push_closed.Goals.{then-is_none+in_ok-push, else-is_none}

pub loop-stack-init : goal.loop-stack-init
loop-stack-init c = closed_none _ c.args.runs.now c.args.near.now c.args.ended.now.items

pub loop-stack-preserved : goal.loop-stack-preserved
loop-stack-preserved c =
    let f : SFits w64 c.args.top = c.ranges.top in
    elim c.if-is_none.branch [
      | then-is_none+in_ok-push w ↦ rw w.ended-is (simp to_z-of_z
          (closed_next c.args.top _ _ _ c.stack-item.result w.closed.result _ _ _ c.loop-stack-test.true c.stack-item.is
          (simp to_z-of_z at c.loop-stack.invariant)
          (nothing_found _ _ c.find.result _ c.find.ensures c.is_none.ensures w.if-is_none.true)
          w.in_ok-push.ensures.items (simp to_z-of_z at w.closed.ensures)))
      | else-is_none w ↦ rw w.ended-is (simp to_z-of_z
          (closed_same c.args.top _ _ _ c.stack-item.result _ _ c.loop-stack-test.true c.stack-item.is
          (simp to_z-of_z at c.loop-stack.invariant)
          (one_found _ _ c.find.result _ c.find.ensures c.is_none.ensures w.if-is_none.false)))
    ]

pub returns : goal.returns
returns c =
    let f : SFits w64 c.args.top = c.ranges.top in
    closed_whole c.args.top _ _ c.loop-stack.stack-index _ _ c.loop-stack-test.false (simp to_z-of_z at c.loop-stack.invariant)
