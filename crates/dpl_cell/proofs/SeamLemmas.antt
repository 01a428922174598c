-- Cells and edges that rectangles share, by the part that they have in common.
use Rattle.std.proofs.Common.{arith, ◌≡◌, ℤ, pos, ◌-ℤ◌, ◌<ℤ◌, ◌≤ℤ◌, true, false, Bool, ◌&&◌, ◌||◌, inl, inr, ◌⊎◌, refl}
use Rattle.std.proofs.Math.Bool.{or-true}
use Rattle.std.proofs.lemmas.Bool.{and_parts, or_cases}
use Rattle.std.proofs.lemmas.Int.{ints, by_lt_z}
use Rattle.std.specs.Int.Signed.{le_z, lt_z}
use Rattle.std.specs.Int.{int_max, int_min}
use Rattle.dpl_cell.specs.Places.{Corners}
use Rattle.dpl_cell.specs.Cells.{IsIn, SharesCell, AreApart}
use Rattle.dpl_cell.specs.Edges.{SharesEdge, Touch}
use Rattle.dpl_cell.specs.Seams.{IsSeam}
use Rattle.dpl_cell.proofs.BoxLemmas.{HasCell}
use Rattle.dpl_list.proofs.Integers.{signed}

-- a column and a row in common make a cell in common
cell_in_both : (a b : Corners) → int_max a.x1 b.x1 <ℤ int_min a.x2 b.x2 → int_max a.y1 b.y1 <ℤ int_min a.y2 b.y2 → SharesCell (IsIn a) (IsIn b)
cell_in_both a b columns rows = record { x = int_max a.x1 b.x1; y = int_max a.y1 b.y1; first = search signed; second = search signed }

-- rectangles that meet at a column line, with a row in common, share an edge
edge_upright : (a b : Corners) → HasCell a → HasCell b → int_max a.x1 b.x1 ≡ int_min a.x2 b.x2
    → int_max a.y1 b.y1 <ℤ int_min a.y2 b.y2 → SharesEdge (IsIn a) (IsIn b)
edge_upright a b s t e rows =
    by_lt_z a.x1 b.x1
    (λ before. record {
      x = b.x1 -ℤ pos 1;
      y = int_max a.y1 b.y1;
      x' = b.x1;
      y' = int_max a.y1 b.y1;
      cells =
          record { first = search signed; second = search signed };
      neighbours = omega signed;
    })
    (λ after. record {
      x = a.x1;
      y = int_max a.y1 b.y1;
      x' = a.x1 -ℤ pos 1;
      y' = int_max a.y1 b.y1;
      cells =
          record { first = search signed; second = search signed };
      neighbours = omega signed;
    })

edge_level : (a b : Corners) → HasCell a → HasCell b → int_max a.y1 b.y1 ≡ int_min a.y2 b.y2
    → int_max a.x1 b.x1 <ℤ int_min a.x2 b.x2 → SharesEdge (IsIn a) (IsIn b)
edge_level a b s t e columns =
    by_lt_z a.y1 b.y1
    (λ before. record {
      x = int_max a.x1 b.x1;
      y = b.y1 -ℤ pos 1;
      x' = int_max a.x1 b.x1;
      y' = b.y1;
      cells =
          record { first = search signed; second = search signed };
      neighbours = omega signed;
    })
    (λ after. record {
      x = int_max a.x1 b.x1;
      y = a.y1;
      x' = int_max a.x1 b.x1;
      y' = a.y1 -ℤ pos 1;
      cells =
          record { first = search signed; second = search signed };
      neighbours = omega signed;
    })

-- the parts in common of two rectangles that touch: neither is less than nothing, and one is more
pub record HasContact (left right low high : ℤ) : Type 0 where
  pub columns : left ≤ℤ right
  pub rows : low ≤ℤ high
  pub more : (left <ℤ right) ⊎ (low <ℤ high)

-- rectangles whose columns and rows in common make a contact touch
pub touch_by_contact : (a b : Corners) → HasCell a → HasCell b
    → HasContact (int_max a.x1 b.x1) (int_min a.x2 b.x2) (int_max a.y1 b.y1) (int_min a.y2 b.y2)
    → Touch (IsIn a) (IsIn b)
touch_by_contact a b s t c =
    by_lt_z (int_max a.x1 b.x1) (int_min a.x2 b.x2)
    (λ columns. by_lt_z (int_max a.y1 b.y1) (int_min a.y2 b.y2)
    (λ rows. inl (cell_in_both a b columns rows))
    (λ none. let h = c.rows in inr (edge_level a b s t (omega signed) columns)))
    (λ none. let h = c.columns in elim c.more [
      | inl columns ↦ absurd (omega signed)
      | inr rows ↦ inr (edge_upright a b s t (omega signed) rows)
    ])

contact_by_cell : (a b : Corners) → SharesCell (IsIn a) (IsIn b) → HasContact (int_max a.x1 b.x1) (int_min a.x2 b.x2) (int_max a.y1 b.y1) (int_min a.y2 b.y2)
contact_by_cell a b s = let f = s.first in let g = s.second in record { columns = omega signed; rows = omega signed; more = inl (omega signed) }

contact_by_edge : (a b : Corners) → SharesEdge (IsIn a) (IsIn b) → HasContact (int_max a.x1 b.x1) (int_min a.x2 b.x2) (int_max a.y1 b.y1) (int_min a.y2 b.y2)
contact_by_edge a b s =
    let f = s.cells.first in let g = s.cells.second in let n = s.neighbours in
    record {
      columns = omega signed;
      rows = omega signed;
      more = by_lt_z (int_max a.x1 b.x1) (int_min a.x2 b.x2) (λ columns. inl columns) (λ none. inr (omega signed));
    }

-- rectangles that touch have columns and rows in common that make a contact
pub contact_by_touch : (a b : Corners) → Touch (IsIn a) (IsIn b) → HasContact (int_max a.x1 b.x1) (int_min a.x2 b.x2) (int_max a.y1 b.y1) (int_min a.y2 b.y2)
contact_by_touch a b (inl s) = contact_by_cell a b s
contact_by_touch a b (inr s) = contact_by_edge a b s

-- rectangles with no cell in common have no column in common or no row
pub apart_sides : (a b : Corners) → AreApart a b → (int_min a.x2 b.x2 ≤ℤ int_max a.x1 b.x1) ⊎ (int_min a.y2 b.y2 ≤ℤ int_max a.y1 b.y1)
apart_sides a b apart =
    by_lt_z (int_max a.x1 b.x1) (int_min a.x2 b.x2)
    (λ columns. by_lt_z (int_max a.y1 b.y1) (int_min a.y2 b.y2) (λ rows. absurd (apart (cell_in_both a b columns rows))) (λ h. inr h))
    (λ h. inl h)

-- rectangles that meet at a column line, with rows in common, share edges along it
pub upright_seam : (a b : Corners) (at low high : ℤ) → HasCell a → HasCell b → at ≡ int_max a.x1 b.x1
    → at ≡ int_min a.x2 b.x2 → low ≡ int_max a.y1 b.y1 → high ≡ int_min a.y2 b.y2 → low <ℤ high
    → IsSeam a b (record { upright = true; at = at; from = low; to = high })
upright_seam a b at low high s t e1 e2 e3 e4 h = record {
  long = h;
  each = λ k w. by_lt_z a.x1 b.x1
      (λ before. (at -ℤ pos 1, k, at, k, search signed, search signed))
      (λ after. (at, k, at -ℤ pos 1, k, search signed, search signed));
  all = λ x y x' y' m. (y, search signed, search signed);
}

-- rectangles that meet at a row line, with columns in common, share edges along it
pub level_seam : (a b : Corners) (at low high : ℤ) → HasCell a → HasCell b → at ≡ int_max a.y1 b.y1
    → at ≡ int_min a.y2 b.y2 → low ≡ int_max a.x1 b.x1 → high ≡ int_min a.x2 b.x2 → low <ℤ high
    → IsSeam a b (record { upright = false; at = at; from = low; to = high })
level_seam a b at low high s t e1 e2 e3 e4 h = record {
  long = h;
  each = λ k w. by_lt_z a.y1 b.y1
      (λ before. (k, at -ℤ pos 1, k, at, search signed, search signed))
      (λ after. (k, at, k, at -ℤ pos 1, search signed, search signed));
  all = λ x y x' y' m. (x, search signed, search signed);
}

-- rectangles with no cell in common share no edge where they meet at no line with a row or a column in common
pub no_edge : (a b : Corners) → AreApart a b
    → (int_max a.x1 b.x1 ≡ int_min a.x2 b.x2 → int_max a.y1 b.y1 <ℤ int_min a.y2 b.y2 → ⊥)
    → (int_max a.y1 b.y1 ≡ int_min a.y2 b.y2 → int_max a.x1 b.x1 <ℤ int_min a.x2 b.x2 → ⊥)
    → ¬ SharesEdge (IsIn a) (IsIn b)
no_edge a b apart p q s =
    let f = s.cells.first in let g = s.cells.second in let n = s.neighbours in
    elim (apart_sides a b apart) [ inl h ↦ p (omega signed) (omega signed) | inr h ↦ q (omega signed) (omega signed) ]

-- the test of a contact
abbrev pub is_contact : ℤ → ℤ → ℤ → ℤ → Bool
is_contact left right low high = le_z left right && le_z low high && (lt_z left right || lt_z low high)

-- what passes the test is a contact
pub contact_by_test : (left right low high : ℤ) → is_contact left right low high ≡ true → HasContact left right low high
contact_by_test left right low high t =
    let (p, q) = and_parts (le_z left right && le_z low high) (lt_z left right || lt_z low high) t in
    let (h, k) = and_parts (le_z left right) (le_z low high) p in
    record {
      columns = grind (arith, ints, h);
      rows = grind (arith, ints, k);
      more = elim (or_cases (lt_z left right) (lt_z low high) q) [ inl e ↦ inl (grind (arith, ints, e)) | inr e ↦ inr (grind (arith, ints, e)) ];
    }

-- a contact passes the test
pub test_by_contact : (left right low high : ℤ) → HasContact left right low high → is_contact left right low high ≡ true
test_by_contact left right low high c =
    let h : le_z left right ≡ true = let g = c.columns in grind (arith, ints) in
    let k : le_z low high ≡ true = let g = c.rows in grind (arith, ints) in
    rw (h, k) (elim c.more [
      | inl g ↦ (let e : lt_z left right ≡ true = grind (arith, ints) in rw e refl)
      | inr g ↦
          (let e : lt_z low high ≡ true = grind (arith, ints) in rw e (or-true _))
    ])

-- the test answers whether two rectangles touch
pub touch_test : (a b : Corners) (left right low high : ℤ) → HasCell a → HasCell b → left ≡ int_max a.x1 b.x1
    → right ≡ int_min a.x2 b.x2 → low ≡ int_max a.y1 b.y1 → high ≡ int_min a.y2 b.y2
    → (is_contact left right low high ≡ true → Touch (IsIn a) (IsIn b)) × (Touch (IsIn a) (IsIn b) → is_contact left right low high ≡ true)
touch_test a b left right low high s t e1 e2 e3 e4 = rw (e1, e2, e3, e4) (
  (λ h. touch_by_contact a b s t (contact_by_test _ _ _ _ h)),
  (λ h. test_by_contact _ _ _ _ (contact_by_touch a b h)),
)
