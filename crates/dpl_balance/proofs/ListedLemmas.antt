-- The cells of rectangles of which no two share a cell, listed.
use Rattle.std.proofs.Common.{arith, ◌≡◌, ◌↔◌, ◌+◌, ◌*◌, ◌<◌, ◌≤◌, ◌⊎◌, inl, inr, ℕ, zero, suc, ℤ, pos, ◌+ℤ◌, ◌-ℤ◌}
use Rattle.std.proofs.Common.{◌<ℤ◌, ◌≤ℤ◌, List, [], ◌∷◌, ◌++◌, length, refl, sym, ap, subst, ◌∙◌, All, Any, AllPairs}
use Rattle.std.proofs.Common.{Contains, get_or, length-append}
use Rattle.std.specs.Prelude.{sum_by}
use Rattle.std.specs.Int.RustNames.{unsigned_abs}
use Rattle.std.proofs.lemmas.Int.{by_lt_z}
use Rattle.std.proofs.lemmas.List.Sums.{sum_by-cons}
use Rattle.std.proofs.lemmas.List.Kept.{AllPairs-cons}
use Rattle.std.proofs.lemmas.List.Elements.{All-nil, Contains-get_or, Contains-append_left, Contains-append_right, Contains-append_cases, All-head, All-tail}
use Rattle.dpl_list.proofs.Integers.{signed}
use Rattle.dpl_list.proofs.Lists.{pairs_head, pairs_tail, any_head, any_tail, in_cons, in_head, in_tail, none_in, all_pairs_append}
use Rattle.dpl_cell.specs.Places.{Corners}
use Rattle.dpl_cell.specs.Cells.{IsWithin, IsIn, AreApart}
use Rattle.dpl_balance.specs.Areas.{area_of}
use Rattle.dpl_balance.specs.Cells.{HoldCell, HasCells}

abbrev Cell : Type 0
Cell = ℤ × ℤ

abbrev Differ : Cell → Cell → Type 0
Differ p q = ¬ (p ≡ q)

all_contained : {X : Type 0} (P : X → Type 0) (xs : List X) → ((x : X) → Contains xs x → P x) → All P xs
all_contained P xs each k d l = each (get_or xs k d) (Contains-get_or xs k d l)

-- lists without a common cell
apart_lists : (xs ys : List Cell) → AllPairs Differ xs → AllPairs Differ ys → ((p : Cell) → Contains xs p → Contains ys p → ⊥) → AllPairs Differ (xs ++ ys)
apart_lists xs ys a b none = all_pairs_append Differ xs ys a b
    (λ i j d l m e. none (get_or xs i d) (Contains-get_or xs i d l)
    (let P : Cell → Type 0 = Contains ys in subst P (sym e) (Contains-get_or ys j d m)))

-- ---- a row

row : ℤ → ℤ → ℕ → List Cell
row x y zero = []
row x y (suc k) = (x, y) ∷ row (x +ℤ pos 1) y k

in_row : (x y : ℤ) (k : ℕ) (p : Cell) → Contains (row x y k) p → IsWithin x (x +ℤ pos k) p.0 × (p.1 ≡ y)
unfolding row
in_row x y zero p c = none_in p c
in_row x y (suc k) p c = elim (in_cons (x, y) p (row (x +ℤ pos 1) y k) c) [
  | inl e ↦ (first x k p.0 (ap (λ (q : Cell). q.0) e), sym (ap (λ (q : Cell). q.1) e))
  | inr d ↦ let (w, e) = in_row (x +ℤ pos 1) y k p d in (later x k p.0 w, e)
] where
  first : (x : ℤ) (k : ℕ) (a : ℤ) → x ≡ a → IsWithin x (x +ℤ pos (suc k)) a
  first x k a e = record { from = omega signed; to = omega signed }

  later : (x : ℤ) (k : ℕ) (a : ℤ) → IsWithin (x +ℤ pos 1) ((x +ℤ pos 1) +ℤ pos k) a → IsWithin x (x +ℤ pos (suc k)) a
  later x k a w = let f = w.from in let t = w.to in record { from = omega signed; to = omega signed }

row_has : (x y : ℤ) (k : ℕ) (a b : ℤ) → IsWithin x (x +ℤ pos k) a → b ≡ y → Contains (row x y k) (a, b)
unfolding row
row_has x y zero a b w e = let f = w.from in let t = w.to in absurd (nothing x a f t) where
  nothing : (x a : ℤ) → x ≤ℤ a → a <ℤ (x +ℤ pos 0) → ⊥
  nothing x a f t = omega signed
row_has x y (suc k) a b w e = by_lt_z x a
    (λ m. in_tail (x, y) (a, b) (row (x +ℤ pos 1) y k) (row_has (x +ℤ pos 1) y k a b (rest x a k m w) e))
    (λ m. in_head (x, y) (a, b) (row (x +ℤ pos 1) y k) (same x a w.from m e)) where
      rest : (x a : ℤ) (k : ℕ) → x <ℤ a → IsWithin x (x +ℤ pos (suc k)) a → IsWithin (x +ℤ pos 1) ((x +ℤ pos 1) +ℤ pos k) a
      rest x a k m w = let f = w.from in let t = w.to in record { from = omega signed; to = omega signed }

      same : (x a : ℤ) → x ≤ℤ a → a ≤ℤ x → b ≡ y → ◌≡◌ {A = Cell} (x, y) (a, b)
      same x a f m e = let g : x ≡ a = omega signed in ap (λ z. (z, y)) g ∙ ap (λ z. (a, z)) (sym e)

row_once : (x y : ℤ) (k : ℕ) → AllPairs Differ (row x y k)
unfolding row
row_once x y zero = λ i j d l m. absurd (omega (arith, m))
row_once x y (suc k) = AllPairs-cons Differ (x, y) (row (x +ℤ pos 1) y k)
    (all_contained (Differ (x, y)) (row (x +ℤ pos 1) y k) (λ p c e. let (w, _) = in_row (x +ℤ pos 1) y k p c in away x k p.0 w (ap (λ (q : Cell). q.0) e)))
    (row_once (x +ℤ pos 1) y k) where
      away : (x : ℤ) (k : ℕ) (a : ℤ) → IsWithin (x +ℤ pos 1) ((x +ℤ pos 1) +ℤ pos k) a → x ≡ a → ⊥
      away x k a w e = let f = w.from in omega signed

row_long : (x y : ℤ) (k : ℕ) → length (row x y k) ≡ k
unfolding row
row_long x y zero = refl
row_long x y (suc k) = ap suc (row_long (x +ℤ pos 1) y k)

-- ---- a block of rows

block : ℤ → ℤ → ℕ → ℕ → List Cell
block x y w zero = []
block x y w (suc h) = row x y w ++ block x (y +ℤ pos 1) w h

in_block : (x y : ℤ) (w h : ℕ) (p : Cell) → Contains (block x y w h) p → IsWithin x (x +ℤ pos w) p.0 × IsWithin y (y +ℤ pos h) p.1
unfolding block
in_block x y w zero p c = none_in p c
in_block x y w (suc h) p c = elim (Contains-append_cases (row x y w) (block x (y +ℤ pos 1) w h) p c) [
  | inl d ↦ let (v, e) = in_row x y w p d in (v, first y h p.1 e)
  | inr d ↦ let (v, u) = in_block x (y +ℤ pos 1) w h p d in (v, later y h p.1 u)
] where
  first : (y : ℤ) (h : ℕ) (b : ℤ) → b ≡ y → IsWithin y (y +ℤ pos (suc h)) b
  first y h b e = record { from = omega signed; to = omega signed }

  later : (y : ℤ) (h : ℕ) (b : ℤ) → IsWithin (y +ℤ pos 1) ((y +ℤ pos 1) +ℤ pos h) b → IsWithin y (y +ℤ pos (suc h)) b
  later y h b w = let f = w.from in let t = w.to in record { from = omega signed; to = omega signed }

block_has : (x y : ℤ) (w h : ℕ) (a b : ℤ) → IsWithin x (x +ℤ pos w) a → IsWithin y (y +ℤ pos h) b → Contains (block x y w h) (a, b)
unfolding block
block_has x y w zero a b v u = let f = u.from in let t = u.to in absurd (nothing y b f t) where
  nothing : (y b : ℤ) → y ≤ℤ b → b <ℤ (y +ℤ pos 0) → ⊥
  nothing y b f t = omega signed
block_has x y w (suc h) a b v u = by_lt_z y b
    (λ m. Contains-append_right (row x y w) (block x (y +ℤ pos 1) w h) (a, b) (block_has x (y +ℤ pos 1) w h a b v (rest y b h m u)))
    (λ m. Contains-append_left (row x y w) (block x (y +ℤ pos 1) w h) (a, b) (row_has x y w a b v (same y b u.from m))) where
      rest : (y b : ℤ) (h : ℕ) → y <ℤ b → IsWithin y (y +ℤ pos (suc h)) b → IsWithin (y +ℤ pos 1) ((y +ℤ pos 1) +ℤ pos h) b
      rest y b h m w = let f = w.from in let t = w.to in record { from = omega signed; to = omega signed }

      same : (y b : ℤ) → y ≤ℤ b → b ≤ℤ y → b ≡ y
      same y b f m = omega signed

block_once : (x y : ℤ) (w h : ℕ) → AllPairs Differ (block x y w h)
unfolding block
block_once x y w zero = λ i j d l m. absurd (omega (arith, m))
block_once x y w (suc h) = apart_lists (row x y w) (block x (y +ℤ pos 1) w h) (row_once x y w) (block_once x (y +ℤ pos 1) w h)
    (λ p c d. let (_, e) = in_row x y w p c in let (_, u) = in_block x (y +ℤ pos 1) w h p d in away y h p.1 u e) where
      away : (y : ℤ) (h : ℕ) (b : ℤ) → IsWithin (y +ℤ pos 1) ((y +ℤ pos 1) +ℤ pos h) b → b ≡ y → ⊥
      away y h b w e = let f = w.from in omega signed

block_long : (x y : ℤ) (w h : ℕ) → length (block x y w h) ≡ w * h
unfolding block
block_long x y w zero = omega arith
block_long x y w (suc h) = length-append (row x y w) (block x (y +ℤ pos 1) w h) ∙ omega (arith, row_long x y w, block_long x (y +ℤ pos 1) w h)

-- ---- rectangles

-- neither of its two stretches ends before it begins
pub record IsProper (r : Corners) : Type 0 where
  pub wide : r.x1 ≤ℤ r.x2
  pub high : r.y1 ≤ℤ r.y2

cells_of : Corners → List Cell
cells_of r = block r.x1 r.y1 (unsigned_abs (r.x2 -ℤ r.x1)) (unsigned_abs (r.y2 -ℤ r.y1))

to_end : (a b : ℤ) → a ≤ℤ b → (a +ℤ pos (unsigned_abs (b -ℤ a))) ≡ b
to_end a b h = omega signed

in_cells : (r : Corners) (p : Cell) → IsProper r → Contains (cells_of r) p → IsIn r p.0 p.1
unfolding cells_of
in_cells r p h c =
    let (v, u) = in_block r.x1 r.y1 _ _ p c in
    let P : ℤ → Type 0 = λ z. IsWithin r.x1 z p.0 in
    let Q : ℤ → Type 0 = λ z. IsWithin r.y1 z p.1 in
    record { column = subst P (to_end r.x1 r.x2 h.wide) v; row = subst Q (to_end r.y1 r.y2 h.high) u }

cells_have : (r : Corners) (a b : ℤ) → IsProper r → IsIn r a b → Contains (cells_of r) (a, b)
unfolding cells_of
cells_have r a b h i =
    let P : ℤ → Type 0 = λ z. IsWithin r.x1 z a in
    let Q : ℤ → Type 0 = λ z. IsWithin r.y1 z b in
    block_has r.x1 r.y1 _ _ a b (subst P (sym (to_end r.x1 r.x2 h.wide)) i.column) (subst Q (sym (to_end r.y1 r.y2 h.high)) i.row)

all_cells : List Corners → List Cell
all_cells [] = []
all_cells (r ∷ rs) = cells_of r ++ all_cells rs

held_cells : (rs : List Corners) (p : Cell) → All IsProper rs → Contains (all_cells rs) p → HoldCell rs p.0 p.1
unfolding all_cells
held_cells [] p h c = none_in p c
held_cells (r ∷ rs) p h c = elim (Contains-append_cases (cells_of r) (all_cells rs) p c) [
  | inl d ↦ any_head (λ s. IsIn s p.0 p.1) r rs (in_cells r p (All-head IsProper r rs h) d)
  | inr d ↦ any_tail (λ s. IsIn s p.0 p.1) r rs (held_cells rs p (All-tail IsProper r rs h) d)
]

cells_held : (rs : List Corners) (a b : ℤ) → All IsProper rs → HoldCell rs a b → Contains (all_cells rs) (a, b)
unfolding all_cells
cells_held [] a b h (k, s, l, e, i) = absurd (omega (arith, l))
cells_held (r ∷ rs) a b h (zero, s, l, e, i) =
    let P : Corners → Type 0 = λ s. IsIn s a b in
    Contains-append_left (cells_of r) (all_cells rs) (a, b) (cells_have r a b (All-head IsProper r rs h) (subst P (sym e) i))
cells_held (r ∷ rs) a b h (suc k, s, l, e, i) = Contains-append_right (cells_of r) (all_cells rs) (a, b)
    (cells_held rs a b (All-tail IsProper r rs h) (k, s, omega (arith, l), e, i))

cells_once : (rs : List Corners) → All IsProper rs → AllPairs AreApart rs → AllPairs Differ (all_cells rs)
unfolding all_cells cells_of
cells_once [] h a = λ i j d l m. absurd (omega (arith, m))
cells_once (r ∷ rs) h a = apart_lists (cells_of r) (all_cells rs) (block_once r.x1 r.y1 _ _)
    (cells_once rs (All-tail IsProper r rs h) (pairs_tail AreApart r rs a))
    (λ p c d.
    let one = in_cells r p (All-head IsProper r rs h) c in
    let (k, s, l, e, other) = held_cells rs p (All-tail IsProper r rs h) d in
    let away : AreApart r s = let P : Corners → Type 0 = AreApart r in subst P e (pairs_head AreApart r rs a k s l) in
    away (record { x = p.0; y = p.1; first = one; second = other }))

cells_long : (rs : List Corners) → length (all_cells rs) ≡ sum_by area_of rs
unfolding all_cells cells_of
cells_long [] = refl
cells_long (r ∷ rs) = length-append (cells_of r) (all_cells rs) ∙
    omega (arith, block_long r.x1 r.y1 (unsigned_abs (r.x2 -ℤ r.x1)) (unsigned_abs (r.y2 -ℤ r.y1)), cells_long rs) ∙
    sym (sum_by-cons area_of r rs)

-- rectangles of which no two share a cell have as many cells as their sizes sum to
pub apart_cells : (rs : List Corners) → All IsProper rs → AllPairs AreApart rs → HasCells (HoldCell rs) (sum_by area_of rs)
apart_cells rs h a = record {
  cells = all_cells rs;
  each = λ x y. (cells_held rs x y h, held_cells rs (x, y) h);
  once = cells_once rs h a;
  count = cells_long rs;
}

-- sets of the same cells have as many cells
pub same_cells : (one other : ℤ → ℤ → Type 0) (n : ℕ) → ((x y : ℤ) → one x y ↔ other x y) → HasCells one n → HasCells other n
same_cells one other n same c = record {
  cells = c.cells;
  each = λ x y. (λ o. (c.each x y).0 ((same x y).1 o), λ i. (same x y).0 ((c.each x y).1 i));
  once = c.once;
  count = c.count;
}
