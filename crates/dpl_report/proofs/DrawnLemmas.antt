-- The text of a report, read again as CIF, draws its two masks.
use Rattle.std.proofs.Common.{◌≡◌, ℕ, List, [], ◌∷◌, ◌++◌, map, refl}
use Rattle.std.proofs.Common.{sym, ap, subst, ◌∙◌, append_assoc, codes, All}
use Rattle.std.specs.List.{flat_map, AllByRecursion}
use Rattle.std.proofs.lemmas.List.Elements.{All-nil, All-cons, All-from_recursion}
use Rattle.std.proofs.lemmas.Grind.{flat_map-append}
use Rattle.dpl_cell.specs.Places.{Corners}
use Rattle.dpl_cell.specs.Ranges.{IsRectangle}
use Rattle.dpl_boxes.specs.Masks.{box_line}
use Rattle.dpl_boxes.specs.Lines.{Line, line_text, lines_text, is_flat, comment_line}
use Rattle.dpl_boxes.specs.MaskLines as cif
use Rattle.dpl_boxes.specs.Drawings.{IsFlat, DrawsMasks}
use Rattle.dpl_boxes.proofs.NumberLemmas.{list_all-weaker}
use Rattle.dpl_boxes.proofs.TextLemmas.{all_masks_are_drawn}
use Rattle.dpl_form.specs.Lines.{text_of}
use Rattle.dpl_form.proofs.TextLemmas.{text_of-append}
use Rattle.dpl_report.specs.Plain.{PlainReport}
use Rattle.dpl_report.specs.ReportLines.{head_lines, lists_lines, drawing_lines, mask_lines, report_text, last_lines}
use Rattle.dpl_report.specs.Valid.{IsReport}
use Rattle.dpl_report.proofs.LineLemmas.{is_comment_byte, flat_byte}
use Rattle.dpl_report.proofs.CommentLemmas.{IsComment, each-append, head_are_comments, lists_are_comments}

-- ---- comments

-- lines that are comments, as lines of a CIF text
record AreComments (ls : List (List ℕ)) : Type 0 where
  comments : List (List ℕ)
  flat : All IsFlat comments
  text : text_of ls ≡ flat_map line_text (map comment_line comments)

one_comment : (l : List ℕ) (ls : List (List ℕ)) → IsComment l → AreComments ls → AreComments (l ∷ ls)
one_comment l ls c cs = record {
  comments = c.inner ∷ cs.comments;
  flat = All-cons IsFlat c.inner cs.comments
      (list_all-weaker is_comment_byte is_flat flat_byte c.inner c.bytes) cs.flat;
  text = rw (c.line, cs.text) (ap (λ t. 40 ∷ t) (sym (parts c.inner (flat_map line_text (map comment_line cs.comments)))));
} where
  parts : (inner rest : List ℕ) → ((inner ++ 41 ∷ []) ++ (59 ∷ 10 ∷ [])) ++ rest ≡ (inner ++ (41 ∷ 59 ∷ 10 ∷ [])) ++ rest
  parts inner rest = simp append_assoc

are_comments : (ls : List (List ℕ)) → AllByRecursion IsComment ls → AreComments ls
are_comments [] a = record { comments = []; flat = All-nil IsFlat; text = refl }
are_comments (l ∷ ls) a = one_comment l ls a.0 (are_comments ls a.1)

-- ---- the drawing

text_of-boxes : (boxes : List Corners) → text_of (map box_line boxes) ≡ flat_map line_text (map cif.box_line boxes)
text_of-boxes [] = refl
text_of-boxes (b ∷ bs) = ap (λ t. box_line b ++ t) (text_of-boxes bs)

text_of-mask : (name : List ℕ) (mask : ℕ) (boxes : List Corners)
    → text_of (mask_lines name mask boxes) ≡ flat_map line_text (cif.lines_of_mask (name ++ mask ∷ []) boxes)
text_of-mask name mask boxes = rw (← text_of-boxes boxes)
    (ap (λ t. 76 ∷ 32 ∷ (t ++ text_of (map box_line boxes))) (sym (append_assoc name (mask ∷ []) (59 ∷ 10 ∷ []))))

two_parts : (a b c d : List ℕ) → a ≡ b → c ≡ d → a ++ c ≡ b ++ d
two_parts a b c d e f = cc

lines_text-append : (xs ys : List Line) → lines_text (xs ++ ys) ≡ flat_map line_text xs ++ lines_text ys
lines_text-append xs ys = ap (λ t. t ++ codes "E\n") (flat_map-append line_text xs ys) ∙
    append_assoc (flat_map line_text xs) (flat_map line_text ys) (codes "E\n")

text_of-drawing : (name : List ℕ) (on_a on_b : List Corners) → text_of (drawing_lines name on_a on_b) ≡ lines_text (cif.lines_of_definition name on_a on_b)
text_of-drawing name on_a on_b =
    let a = mask_lines name 65 on_a in
    let b = mask_lines name 66 on_b in
    let first = cif.lines_of_mask (name ++ 65 ∷ []) on_a in
    let second = cif.lines_of_mask (name ++ 66 ∷ []) on_b in
    let written = text_of-append a (b ++ last_lines) ∙
    two_parts (text_of a) (flat_map line_text first) (text_of (b ++ last_lines))
    (flat_map line_text second ++ text_of last_lines) (text_of-mask name 65 on_a)
    (text_of-append b last_lines ∙ two_parts (text_of b) (flat_map line_text second) (text_of last_lines)
    (text_of last_lines) (text_of-mask name 66 on_b) refl) in
    let read = lines_text-append first (second ++ cif.last_lines) ∙ ap (λ t. flat_map line_text first ++ t) (lines_text-append second cif.last_lines) in
    ap (λ t. codes "DS 1 1 4;\n" ++ t) (written ∙ sym read)

-- ---- all of it

-- the text of a report, read again as CIF, draws its two masks
pub report_is_drawn : (r : PlainReport) → IsReport r → DrawsMasks r.head.params.layer r.on_a r.on_b (report_text r)
report_is_drawn r f =
    let name = r.head.params.layer in
    let before = are_comments (head_lines r.head ++ lists_lines r.lists)
    (each-append IsComment (head_lines r.head) (lists_lines r.lists)
    (head_are_comments r.head f.head) (lists_are_comments r.lists f.lists)) in
    let drawn = all_masks_are_drawn before.comments name r.on_a r.on_b before.flat f.head.params.layer.0
    f.head.params.layer.1 (All-from_recursion IsRectangle r.on_a f.on_a)
    (All-from_recursion IsRectangle r.on_b f.on_b) in
    let drawing = drawing_lines name r.on_a r.on_b in
    let comments = map comment_line before.comments in
    let parts = ap text_of (sym (append_assoc (head_lines r.head) (lists_lines r.lists) drawing)) ∙
    text_of-append (head_lines r.head ++ lists_lines r.lists) drawing in
    let same = two_parts (text_of (head_lines r.head ++ lists_lines r.lists)) (flat_map line_text comments)
    (text_of drawing) (lines_text (cif.lines_of_definition name r.on_a r.on_b)) before.text
    (text_of-drawing name r.on_a r.on_b) in
    let text = parts ∙ same ∙ sym (lines_text-append comments (cif.lines_of_definition name r.on_a r.on_b)) in
    subst (λ (t : List ℕ). DrawsMasks name r.on_a r.on_b t) (sym text) drawn.draws
