-- What lines of masks draw.
use Rattle.std.proofs.Common.{◌≢◌, Bool, false, sym, arith, ◌≡◌, ◌≤◌, ℕ, ◌+◌, true, List, [], ◌∷◌, ◌++◌, length, map}
use Rattle.std.proofs.Common.{refl, sym, ap, ◌∙◌, length-append, None, All}
use Rattle.std.specs.Prelude.{ℤ, ◌||◌, codes, nat_le}
use Rattle.std.proofs.lemmas.Bool.Decides.{nat_tests}
use Rattle.std.proofs.lemmas.List.Folds.{list_all-append}
use Rattle.std.proofs.lemmas.List.Elements.{All-nil, All-cons, All-append, All-map, All-weaker}
use Rattle.dpl_cell.specs.Places.{Corners}
use Rattle.dpl_cell.specs.Ranges.{IsRectangle}
use Rattle.dpl_lex.specs.Classes.{is_name_byte}
use Rattle.dpl_lex.specs.Name.{is_name}
use Rattle.dpl_boxes.specs.Lines.{lines_text, IsRead, Says, comment_line}
use Rattle.dpl_boxes.specs.MaskLines.{box_line, start_line, finish_line, call_line, last_lines, lines_of_mask, lines_of_definition, lines_of_masks}
use Rattle.dpl_boxes.specs.Drawings.{IsFlat, HasBoxes, is_in_boxes, DrawsMasks, AllMasksAreDrawn}
use Rattle.dpl_cif.specs.Reading.{first_fault, primitives_of, bodies_in, depth_of}
use Rattle.dpl_cell.specs.Outlines.{Box}
use Rattle.dpl_cell.specs.Layers.{is_in_box, is_cell}
use Rattle.std.specs.Str.{bytes_eq}
use Rattle.std.specs.Bool.{Decides}
use Rattle.std.proofs.lemmas.Slice.Eq.{bytes_eq-Decides}
use Rattle.std.proofs.lemmas.List.{append_cancel_left, append-nil}
use Rattle.dpl_boxes.proofs.CleanLemmas.{masks_are_clean, numbers_of_masks}
use Rattle.dpl_boxes.proofs.DrawingLemmas.{boxes_where, outlines_of_masks}
use Rattle.dpl_boxes.proofs.LineLemmas.{lines_are_read}
use Rattle.dpl_boxes.proofs.ReadingLemmas.{comment_is_read, start_is_read, layer_is_read, finish_is_read, call_is_read, name_bytes}
use Rattle.dpl_boxes.proofs.BoxLemmas.{box_is_read}

name_with : (layer : List ℕ) (letter : ℕ) → is_name layer ≡ true → length layer ≤ 31 → is_name_byte letter ≡ true → is_name (layer ++ letter ∷ []) ≡ true
name_with layer letter h l b =
    let size : length (layer ++ letter ∷ []) ≡ length layer + 1 = simp length-append in
    let some : nat_le 1 (length layer + 1) ≡ true = grind (arith, nat_tests) in
    let few : nat_le (length layer + 1) 32 ≡ true = grind (arith, nat_tests) in
    rw (size, some, few, list_all-append is_name_byte layer (letter ∷ []), name_bytes layer h, b) refl

mask_is_read : (name : List ℕ) (boxes : List Corners) → is_name name ≡ true → All IsRectangle boxes → All IsRead (lines_of_mask name boxes)
mask_is_read name boxes h r = All-cons IsRead _ _ (layer_is_read name h)
    (All-map IsRead box_line boxes (All-weaker IsRectangle (λ b. IsRead (box_line b)) box_is_read boxes r))

masks_are_read : (comments : List (List ℕ)) (layer : List ℕ) (on_a on_b : List Corners) → All IsFlat comments
    → is_name layer ≡ true → length layer ≤ 31 → All IsRectangle on_a → All IsRectangle on_b
    → All IsRead (lines_of_masks comments layer on_a on_b)
masks_are_read comments layer on_a on_b c h l a b =
    let on_first = lines_of_mask (layer ++ codes "A") on_a in
    let on_second = lines_of_mask (layer ++ codes "B") on_b in
    let first_read = mask_is_read (layer ++ codes "A") on_a (name_with layer 65 h l refl) a in
    let second_read = mask_is_read (layer ++ codes "B") on_b (name_with layer 66 h l refl) b in
    let last_read = All-cons IsRead finish_line (call_line ∷ []) finish_is_read (All-cons IsRead call_line [] call_is_read (All-nil IsRead)) in
    let definition_read = All-append IsRead on_first (on_second ++ last_lines) first_read (All-append IsRead on_second last_lines second_read last_read) in
    let comments_read = All-map IsRead comment_line comments (All-weaker IsFlat (λ k. IsRead (comment_line k)) comment_is_read comments c) in
    All-append IsRead (map comment_line comments) (lines_of_definition layer on_a on_b) comments_read
    (All-cons IsRead start_line (on_first ++ (on_second ++ last_lines)) start_is_read definition_read)

-- what such a text draws

same_name : (name : List ℕ) → bytes_eq name name ≡ true
same_name name = (bytes_eq-Decides name name).1 refl

false_from : (b : Bool) (P : Type 0) → Decides b P → ¬ P → b ≡ false
false_from true P d n = absurd (n (d.0 refl))
false_from false P d n = refl

other_name : (name chosen : List ℕ) → name ≢ chosen → bytes_eq name chosen ≡ false
other_name name chosen n = false_from (bytes_eq name chosen) (name ≡ chosen) (bytes_eq-Decides name chosen) n

two_letters : (layer : List ℕ) → layer ++ codes "A" ≢ layer ++ codes "B"
two_letters layer e = let f : codes "A" ≡ codes "B" = append_cancel_left layer (codes "A") (codes "B") e in
    let g : ◌≡◌ {A = ℕ} 65 66 = cc in absurd (omega arith)

cells_of_boxes : (boxes : List Corners) (x y : ℤ) → is_cell (map Box boxes) x y ≡ is_in_boxes boxes x y
cells_of_boxes [] x y = refl
cells_of_boxes (b ∷ boxes) x y = ap (λ t. is_in_box b x y || t) (cells_of_boxes boxes x y)

has_boxes : (name : List ℕ) (boxes : List Corners) (text : List ℕ) → primitives_of name text ≡ map Box boxes → HasBoxes name boxes text
has_boxes name boxes text e = record { boxes_in_order = e; cells = λ x y. ap (λ ps. is_cell ps x y) e ∙ cells_of_boxes boxes x y }

masks_are_drawn : (comments : List (List ℕ)) (layer : List ℕ) (on_a on_b : List Corners) (text : List ℕ)
    → All IsRectangle on_a → All IsRectangle on_b → Says text (lines_of_masks comments layer on_a on_b)
    → DrawsMasks layer on_a on_b text
masks_are_drawn comments layer on_a on_b text a b s =
    let on_first = layer ++ codes "A" in
    let on_second = layer ++ codes "B" in
    let clean : (chosen : List ℕ) → first_fault chosen text ≡ None =
    λ chosen. rw (first_fault, s.commands, s.ending) (masks_are_clean chosen comments layer on_a on_b a b) in
    let drawn : (chosen : List ℕ) → primitives_of chosen text ≡ boxes_where (bytes_eq on_first chosen) on_a ++ boxes_where (bytes_eq on_second chosen) on_b
    = λ chosen. rw (primitives_of, bodies_in, depth_of, s.commands, numbers_of_masks comments layer on_a on_b)
    (outlines_of_masks chosen comments layer on_a on_b 0 a b) in
    record {
      clean = clean;
      on_first = has_boxes on_first on_a text (drawn on_first ∙
          rw (
            same_name on_first,
            other_name on_second on_first (λ e. two_letters layer (sym e)),
            append-nil (map Box on_a),
          ) refl);
      on_second = has_boxes on_second on_b text (drawn on_second ∙ rw (other_name on_first on_second (two_letters layer), same_name on_second) refl);
      elsewhere = λ chosen x y. drawn chosen ∙ rw (other_name on_first chosen (λ e. x (sym e)), other_name on_second chosen (λ e. y (sym e))) refl;
    }

-- a text of these lines is read as they are written, and so drawn
pub all_masks_are_drawn : AllMasksAreDrawn
all_masks_are_drawn comments layer on_a on_b c h l a b =
    let lines = lines_of_masks comments layer on_a on_b in
    let s = lines_are_read lines (masks_are_read comments layer on_a on_b c h l a b) in
    record { says = s; draws = masks_are_drawn comments layer on_a on_b (lines_text lines) a b s }
