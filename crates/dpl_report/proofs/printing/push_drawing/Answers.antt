use Rattle.std.proofs.Common.{◌++◌, [], ◌∷◌, map}
use Rattle.dpl_cell.specs.Places.{corners_of}
use Rattle.dpl_report.specs.ReportLines.{start_line, mask_lines, last_lines}
use Rattle.dpl_form.proofs.TextLemmas.{joined}
use Rattle.dpl_report.proofs.printing.push_drawing.Goals as goal

pub returns : goal.returns
returns c =
    let r = c.args.r.now in
    let a = mask_lines r.params.layer 65 (map corners_of r.on_a) in
    let b = mask_lines r.params.layer 66 (map corners_of r.on_b) in
    let o = c.args.out.now.items in
    let p = c.push_start.new.out.items in
    let q = c.push_masked.new.out.items in
    let s = c.push_masked-2.new.out.items in
    let t = c.push_last.new.out.items in
    let first = rw (c.bytes-name.ensures.value, c.as_slice.ensures) at c.in_ok-push_masked.ensures in
    let second = rw (c.bytes-name.ensures.value, c.as_slice-2.ensures) at c.in_ok-push_masked-2.ensures in
    let later = joined p q t a (b ++ last_lines) first (joined q s t b last_lines second c.in_ok-push_last.ensures) in
    joined o p t (start_line ∷ []) (a ++ (b ++ last_lines)) c.in_ok-push_start.ensures later
