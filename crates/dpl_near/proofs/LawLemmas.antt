-- Rectangles have one list of shapes.
use Rattle.std.proofs.Common.{arith, ◌≡◌, ℕ, ◌<◌, pos, List, length, get_or, All, sym, ◌∙◌}
use Rattle.dpl_cell.specs.Places.{Corners}
use Rattle.dpl_cell.specs.Cells.{IsIn}
use Rattle.dpl_cell.proofs.BoxLemmas.{HasCell, low_cell}
use Rattle.dpl_classes.proofs.NumberLemmas.{numbers_same, count_same}
use Rattle.dpl_near.specs.Shapes.{AreShapes}

nowhere : Corners
nowhere = record { x1 = pos 0; y1 = pos 0; x2 = pos 0; y2 = pos 0 }

pub labels_same : (rects : List Corners) (a b : List ℕ) (m n : ℕ) → All HasCell rects → AreShapes rects a m → AreShapes rects b n → a ≡ b
labels_same rects a b m n full s t = numbers_same a b m n (s.long ∙ sym t.long)
    (λ i j h l.
    let p : i < length rects = let e = s.long in omega arith in
    let q : j < length rects = let e = s.long in omega arith in
    let x : Corners = get_or rects i nowhere in let y : Corners = get_or rects j nowhere in
    let c : IsIn x x.x1 x.y1 = low_cell x (full i nowhere p) in
    let d : IsIn y y.x1 y.y1 = low_cell y (full j nowhere q) in
    let f = s.same i j nowhere x.x1 x.y1 y.x1 y.y1 p q c d in
    let g = t.same i j nowhere x.x1 x.y1 y.x1 y.y1 p q c d in
    ((λ e. g.1 (f.0 e)), (λ e. f.1 (g.0 e))))
    s.numbered t.numbered

pub counts_same : (rects : List Corners) (a b : List ℕ) (m n : ℕ) → All HasCell rects → AreShapes rects a m → AreShapes rects b n → m ≡ n
counts_same rects a b m n full s t = count_same a b m n (labels_same rects a b m n full s t) s.numbered t.numbered
