use Rattle.std.proofs.Common.{sym, ◌∙◌}
use Rattle.dpl_tiles.specs.Bands.{IsOver}
use Rattle.dpl_tiles.specs.Windows.{is_near}
use Rattle.dpl_list.proofs.Zips.{zip_kept, zip_left_out, zip_all_kept}
use Rattle.dpl_tiles.proofs.sweeping.raised_near.Goals as goal
use Rattle.dpl_tiles.proofs.sweeping.raised_near.Goals.{then-is_near_to+in_ok-push, else-is_near_to}

pub loop-s-preserved : goal.loop-s-preserved
loop-s-preserved c = elim c.if-is_near_to.branch [
  | then-is_near_to+in_ok-push w ↦ rw w.runs-is
      (zip_kept (IsOver c.args.band.now.low c.args.band.now.high) (is_near c.args.change.now.left c.args.change.now.right) _ _ _ _
      c.s-item.result w.piece_over.result c.loop-s-test.true c.s-item.is c.loop-s.invariant
      (sym c.is_near_to.ensures ∙ w.if-is_near_to.true) w.in_ok-push.ensures.items w.piece_over.ensures)
  | else-is_near_to w ↦ rw w.runs-is
      (zip_left_out (IsOver c.args.band.now.low c.args.band.now.high) (is_near c.args.change.now.left c.args.change.now.right) _ _ _
      c.s-item.result c.loop-s-test.true c.s-item.is c.loop-s.invariant
      (sym c.is_near_to.ensures ∙ w.if-is_near_to.false))
]

pub returns : goal.returns
returns c = zip_all_kept (IsOver c.args.band.now.low c.args.band.now.high) (is_near c.args.change.now.left c.args.change.now.right) _
    c.loop-s.s-index _ c.loop-s-test.false c.loop-s.invariant
