use Rattle.std.proofs.Common.{[], ◌∷◌, codes}
use Rattle.dpl_report.specs.ReportLines.{count_line, masks_line}
use Rattle.dpl_form.proofs.TextLemmas.{begun, added}
use Rattle.dpl_report.proofs.printing.push_costs.Goals as goal

pub returns : goal.returns
returns c =
    let a = count_line (codes "cost") c.args.r.now.cost in
    let b = count_line (codes "bound") c.args.r.now.bound in
    let d = masks_line c.args.r.now.colours in
    let o = c.args.out.now.items in
    let p = c.push_count.new.out.items in
    let q = c.push_count-2.new.out.items in
    added o q c.push_masks.new.out.items (a ∷ b ∷ []) d
    (added o p q (a ∷ []) b (begun o p a c.in_ok-push_count.ensures) c.in_ok-push_count-2.ensures)
    (rw c.as_slice.ensures at c.in_ok-push_masks.ensures)
