use Rattle.std.proofs.Common.{rules, ◌<◌, ◌*◌}
use Rattle.dpl_cell.proofs.GapLemmas.{close_by_gap, gap_by_close}
use Rattle.dpl_cell.proofs.gaps.are_close.Goals as goal

pub returns : goal.returns
returns c = (
  (λ t. let h : c.gap2.result < c.args.reach * c.args.reach = search rules in close_by_gap _ _ _ _ c.gap2.ensures h),
  (λ k. let h : c.gap2.result < c.args.reach * c.args.reach = gap_by_close _ _ _ _ c.gap2.ensures k in search rules),
)
