use Rattle.std.proofs.Common.{◌++◌, ◌∙◌, ap, ◌≡◌, List, ℕ}
use Rattle.dpl_report.specs.Plain.{plain_report}
use Rattle.dpl_report.specs.ReportLines.{head_lines, lists_lines, drawing_lines, report_text}
use Rattle.dpl_form.proofs.TextLemmas.{joined}
use Rattle.dpl_report.proofs.printing.write.Goals as goal

pub returns : goal.returns
returns c =
    let r = plain_report c.args.r.now in
    let a = head_lines r.head in
    let b = lists_lines r.lists in
    let d = drawing_lines r.head.params.layer r.on_a r.on_b in
    let o = c.new-out.result.items in
    let p = c.push_head.new.out.items in
    let q = c.push_lists.new.out.items in
    let t = c.push_drawing.new.out.items in
    let later = joined p q t b d c.in_ok-push_lists.ensures c.in_ok-push_drawing.ensures in
    let e : t ≡ o ++ report_text r = joined o p t a (b ++ d) c.in_ok-push_head.ensures later in
    e ∙ ap (λ (x : List ℕ). x ++ report_text r) c.new-out.ensures.items
