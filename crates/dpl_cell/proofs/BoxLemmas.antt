-- Cells of boxes, as a fact and as a test.
use Rattle.std.proofs.Common.{arith, rules, ◌≡◌, ◌<ℤ◌, ◌≤ℤ◌, ◌-ℤ◌, pos, ℕ, ◌<◌, ℤ, List, length, get_or, ◌∙◌, sym, refl}
use Rattle.std.proofs.Common.{All, Any, Bool, true, false, IsTrue, map, inl, inr}
use Rattle.std.proofs.lemmas.Bool.{and_parts, cases_lt, cases_eq}
use Rattle.std.proofs.lemmas.Int.{ints, clamps}
use Rattle.std.proofs.lemmas.List.Elements.{All-map}
use Rattle.std.proofs.lemmas.List.Folds.{list_any_at, list_any-from_Any, Any-from_list_any}
use Rattle.dpl_cell.specs.declared.rect.Rect.{Rect}
use Rattle.dpl_cell.specs.Places.{Corners, corners_of}
use Rattle.dpl_cell.specs.Cells.{IsWithin, IsIn}
use Rattle.dpl_cell.specs.Outlines.{Box}
use Rattle.dpl_cell.specs.Layers.{is_within, is_in_box, is_in_outline, is_cell}
use Rattle.dpl_cell.specs.Tiles.{IsBefore}
use Rattle.dpl_cell.proofs.LayerLemmas.{list_any-map}

-- ---- a test and the fact that it tells

-- a test that gives true, as a fact
pub is_true : {b : Bool} → b ≡ true → IsTrue b
is_true e = search (rules, e)

-- a fact, as a test that gives true
pub true_is : (b : Bool) → IsTrue b → b ≡ true
true_is b h = search rules

-- what a test would answer does not hold where it answers no
pub not_by_test : {A : Type 0} (b : Bool) → b ≡ false → (A → IsTrue b) → ¬ A
not_by_test b e f a = let t : IsTrue false = rw e at (f a) in search rules

-- integers of which neither is less are equal
pub equal_z : (a b : ℤ) → a ≤ℤ b → b ≤ℤ a → a ≡ b
equal_z a b h g = omega (arith, ints, clamps)

-- three ways for two numbers to lie
pub three : {P : Type 0} (i j : ℕ) → (i < j → P) → (i ≡ j → P) → (j < i → P) → P
three i j p q r = elim (cases_lt i j) [ inl h ↦ p h | inr h ↦ elim (cases_eq i j) [ inl e ↦ q e | inr n ↦ r (omega (arith, n)) ] ]

-- a stretch that is not empty holds its first place
pub at_start : (a b : ℤ) → a <ℤ b → IsWithin a b a
at_start a b h = record { from = omega (arith, ints); to = h }

-- a stretch whose places lie in another does not go past its ends
pub ends_inside : (a b low high : ℤ) → a <ℤ b → ((x : ℤ) → IsWithin a b x → IsWithin low high x) → (low ≤ℤ a) × (b ≤ℤ high)
ends_inside a b low high h f =
    let w = f a (record { from = omega (arith, ints); to = h }) in
    let v = f (b -ℤ pos 1) (record { from = omega (arith, ints); to = omega (arith, ints) }) in
    (w.from, up b high v.to) where
      up : (b c : ℤ) → (b -ℤ pos 1) <ℤ c → b ≤ℤ c
      up b c g = omega (arith, ints)

-- ---- cells of one box

-- what lies in a stretch passes the test for it
pub within_test : (a b x : ℤ) → IsWithin a b x → is_within a b x ≡ true
within_test a b x w = let f : a ≤ℤ x = w.from in let g : x <ℤ b = w.to in grind (arith, ints)

-- what passes the test for a stretch lies in it
pub test_within : (a b x : ℤ) → is_within a b x ≡ true → IsWithin a b x
test_within a b x e = record { from = grind (arith, ints); to = grind (arith, ints) }

-- a cell of a rectangle passes the test for it
pub box_in : (r : Corners) (x y : ℤ) → IsIn r x y → is_in_box r x y ≡ true
box_in r x y i = let e = within_test r.x1 r.x2 x i.column in let f = within_test r.y1 r.y2 y i.row in rw (e, f) refl

-- a cell that passes the test for a rectangle lies in it
pub in_box : (r : Corners) (x y : ℤ) → is_in_box r x y ≡ true → IsIn r x y
in_box r x y e = let (f, g) = and_parts (is_within r.x1 r.x2 x) (is_within r.y1 r.y2 y) e in record { column = test_within _ _ x f; row = test_within _ _ y g }

-- a rectangle with a cell
abbrev pub HasCell : Corners → Type 0
HasCell r = (r.x1 <ℤ r.x2) × (r.y1 <ℤ r.y2)

-- each rectangle of a list has a cell
pub rects_have : (rects : List Rect) → All HasCell (map corners_of rects)
rects_have rects = All-map HasCell corners_of rects (λ k d l. ((get_or rects k d).wide, (get_or rects k d).high))

-- a rectangle with a cell has that at its lower left corner
pub low_cell : (r : Corners) → HasCell r → IsIn r r.x1 r.y1
low_cell r (w, h) = record { column = at_start r.x1 r.x2 w; row = at_start r.y1 r.y2 h }

-- ---- cells of the layer of boxes

-- a cell of the layer lies in one of the boxes
pub drawn_any : (rects : List Corners) (x y : ℤ) → is_cell (map Box rects) x y ≡ true → Any (λ r. IsIn r x y) rects
drawn_any rects x y t =
    let (k, r, l, e, i) = Any-from_list_any (λ r. is_in_box r x y) rects (sym (list_any-map (is_in_outline x y) Box rects) ∙ t) in (k, r, l, e, in_box r x y i)

-- a cell of one of the rectangles is a cell of the layer of these boxes
pub any_drawn : (rects : List Corners) (x y : ℤ) → Any (λ r. IsIn r x y) rects → is_cell (map Box rects) x y ≡ true
any_drawn rects x y (k, r, l, e, i) = list_any-map (is_in_outline x y) Box rects ∙ list_any-from_Any (λ r. is_in_box r x y) rects (k, r, l, e, box_in r x y i)

-- a cell of a box is one of the layer
pub held : (rects : List Corners) (i : ℕ) (d : Corners) (x y : ℤ) → i < length rects → IsIn (get_or rects i d) x y → IsTrue (is_cell (map Box rects) x y)
held rects i d x y l h = is_true (list_any-map (is_in_outline x y) Box rects ∙ list_any_at (λ r. is_in_box r x y) rects i d l (box_in _ x y h))

-- a cell of a layer of boxes lies in one of them
pub holder : (rects : List Corners) (x y : ℤ) → IsTrue (is_cell (map Box rects) x y) → Any (λ r. IsIn r x y) rects
holder rects x y h = drawn_any rects x y (true_is _ h)

-- ---- order

-- no rectangle stands before itself
pub never_before : (a b : Corners) → a ≡ b → IsBefore a b → ⊥
never_before a b e h = let h' : IsBefore b b = rw e at h in elim h' [ inl g ↦ omega (arith, ints, clamps) | inr g ↦ omega (arith, ints, clamps) ]
