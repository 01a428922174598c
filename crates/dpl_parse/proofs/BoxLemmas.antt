-- A box line and the rectangle that it makes.
use Rattle.std.proofs.Common.{arith, FitsSigned, ◌≤◌, ◌≡◌, ℕ, List, [], ◌∷◌, ◌++◌, drop, refl, sym, ap, ◌∙◌, codes, Option, None, Some}
use Rattle.std.specs.Prelude.{ℤ, pos, unsigned_abs, ◌+ℤ◌, ◌-ℤ◌, ◌*ℤ◌}
use Rattle.std.specs.Int.{w64}
use Rattle.std.proofs.lemmas.Int.{ints}
use Rattle.dpl_cell.specs.Places.{Corners}
use Rattle.dpl_boxes.specs.Masks.{box_line}
use Rattle.dpl_lex.specs.Number.{greatest}
use Rattle.dpl_report.specs.ReportLines.{numbered}
use Rattle.dpl_report.specs.Reading.{numbers_in, if_written, box_from, box_by, item_box}
use Rattle.dpl_report.proofs.ItemLemmas.{bind_some, if_written_some, if_written_same, box_item, box_near}
use Rattle.dpl_report.proofs.LineLemmas.{box_numbers, box_line-numbered, numbers_in-numbered, numbers_in-box, box_closing_is_end}
use Rattle.dpl_parse.specs.Standing.{Stand, IsBoxLine}

abbrev pub end_of_box : List ℕ
end_of_box = codes ";\n"

pub fits : (z : ℤ) → unsigned_abs z ≤ greatest → FitsSigned w64 z
fits z l = omega (arith, ints)

pub box_stands : (zs : List ℤ) (line rest : List ℕ) → line ≡ codes "B" ++ rest → IsBoxLine zs line → Stand zs end_of_box rest
box_stands zs line rest e s = record { near = s.near; ends = refl; is = ap (λ t. drop 1 t) (sym e ∙ s.is) }

-- a line with no four numbers
no_box_by : (o : Option Corners) (line : List ℕ) → item_box line ≡ o
    → ((x y z w : ℤ) → ¬ IsBoxLine (x ∷ y ∷ z ∷ w ∷ []) line) → o ≡ None
no_box_by None line e none = refl
no_box_by (Some b) line e none =
    let t = box_item.takes line b e in
    absurd (none ((b.x2 -ℤ b.x1) *ℤ pos 2) ((b.y2 -ℤ b.y1) *ℤ pos 2) (b.x1 +ℤ b.x2) (b.y1 +ℤ b.y2)
    (record { near = box_near b t.0; is = t.1 ∙ box_line-numbered b }))

pub no_box : (line : List ℕ) → ((x y z w : ℤ) → ¬ IsBoxLine (x ∷ y ∷ z ∷ w ∷ []) line) → item_box line ≡ None
no_box line none = no_box_by (item_box line) line refl none

-- the numbers of such a line
numbers_of_line : (zs : List ℤ) (line : List ℕ) → IsBoxLine zs line → numbers_in line ≡ zs
numbers_of_line zs line s = ap numbers_in s.is ∙ numbers_in-numbered 66 [] zs end_of_box box_closing_is_end refl s.near

pub no_rectangle : (l w x y : ℤ) (line : List ℕ) → IsBoxLine (l ∷ w ∷ x ∷ y ∷ []) line → box_by l w x y ≡ None → item_box line ≡ None
no_rectangle l w x y line s e = rw (numbers_of_line (l ∷ w ∷ x ∷ y ∷ []) line s, e) refl

-- the rectangle draws these numbers
pub record AreDrawn (b : Corners) (l w x y : ℤ) : Type 0 where
  pub length_is : (b.x2 -ℤ b.x1) *ℤ pos 2 ≡ l
  pub width_is : (b.y2 -ℤ b.y1) *ℤ pos 2 ≡ w
  pub x_is : b.x1 +ℤ b.x2 ≡ x
  pub y_is : b.y1 +ℤ b.y2 ≡ y

drawn_numbers : (b : Corners) (l w x y : ℤ) → AreDrawn b l w x y → l ∷ w ∷ x ∷ y ∷ [] ≡ box_numbers b
drawn_numbers b l w x y d = rw (d.length_is, d.width_is, d.x_is, d.y_is) refl

numbers_drawn : (b : Corners) (l w x y : ℤ) → l ∷ w ∷ x ∷ y ∷ [] ≡ box_numbers b → AreDrawn b l w x y
numbers_drawn b l w x y e = record { length_is = cc; width_is = cc; x_is = cc; y_is = cc }

pub rectangle_there : (b : Corners) (l w x y : ℤ) (line : List ℕ) → IsBoxLine (l ∷ w ∷ x ∷ y ∷ []) line → box_by l w x y ≡ Some b
    → AreDrawn b l w x y → item_box line ≡ Some b
rectangle_there b l w x y line s e d =
    let is : line ≡ box_line b =
    s.is ∙ ap (λ zs. codes "B" ++ numbered zs end_of_box) (drawn_numbers b l w x y d) ∙ sym (box_line-numbered b) in
    let same : if_written box_line line b ≡ Some b = rw is (if_written_same box_line b) in
    rw (numbers_of_line (l ∷ w ∷ x ∷ y ∷ []) line s, e) same

other_by : (o : Option Corners) (b : Corners) (l w x y : ℤ) (line : List ℕ) → item_box line ≡ o → IsBoxLine (l ∷ w ∷ x ∷ y ∷ []) line
    → box_by l w x y ≡ Some b → ¬ AreDrawn b l w x y → o ≡ None
other_by None b l w x y line h s e none = refl
other_by (Some d) b l w x y line h s e none =
    let t = box_item.takes line d h in
    let p = bind_some (box_from (numbers_in line)) (if_written box_line line) d h in
    let q = if_written_some box_line line p.0 d p.2 in
    let read : box_from (l ∷ w ∷ x ∷ y ∷ []) ≡ Some p.0 = ap box_from (sym (numbers_of_line (l ∷ w ∷ x ∷ y ∷ []) line s)) ∙ p.1 in
    let same : b ≡ d = let one : b ≡ p.0 = cc (e, read) in one ∙ q.0 in
    let numbers : l ∷ w ∷ x ∷ y ∷ [] ≡ box_numbers d =
    sym (numbers_of_line (l ∷ w ∷ x ∷ y ∷ []) line s) ∙ ap numbers_in t.1 ∙ numbers_in-box d (box_near d t.0) in
    absurd (none (numbers_drawn b l w x y (numbers ∙ ap box_numbers (sym same))))

pub other_numbers : (b : Corners) (l w x y : ℤ) (line : List ℕ) → IsBoxLine (l ∷ w ∷ x ∷ y ∷ []) line → box_by l w x y ≡ Some b
    → ¬ AreDrawn b l w x y → item_box line ≡ None
other_numbers b l w x y line s e none = other_by (item_box line) b l w x y line refl s e none
