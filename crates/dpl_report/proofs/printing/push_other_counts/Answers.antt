use Rattle.std.proofs.Common.{[], ◌∷◌, codes}
use Rattle.dpl_report.specs.ReportLines.{count_line}
use Rattle.dpl_form.proofs.TextLemmas.{begun, added}
use Rattle.dpl_report.proofs.printing.push_other_counts.Goals as goal

pub returns : goal.returns
returns c =
    let a = count_line (codes "stitches") c.args.k.now.stitches in
    let b = count_line (codes "clashes") c.args.k.now.clashes in
    let d = count_line (codes "excess") c.args.k.now.excess in
    let o = c.args.out.now.items in
    let p = c.push_count.new.out.items in
    let q = c.push_count-2.new.out.items in
    added o q c.push_count-3.new.out.items (a ∷ b ∷ []) d
    (added o p q (a ∷ []) b (begun o p a c.in_ok-push_count.ensures) c.in_ok-push_count-2.ensures)
    c.in_ok-push_count-3.ensures
