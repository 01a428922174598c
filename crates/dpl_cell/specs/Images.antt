-- Cells and rectangles that are moved, mirrored, or turned over so that columns become rows.
use Rattle.std.specs.Prelude.{ℕ, ◌-◌, ◌%◌, ℤ, pos, neg_ℤ, ◌+ℤ◌, ◌-ℤ◌, Bool}
use Rattle.dpl_cell.specs.Places.{Corners}

-- cells moved so many columns to the right and so many rows up
abbrev pub moved_cells : ℤ → ℤ → (ℤ → ℤ → Bool) → ℤ → ℤ → Bool
moved_cells right up cells x y = cells (x -ℤ right) (y -ℤ up)

abbrev pub moved : ℤ → ℤ → Corners → Corners
moved right up r = record {
  x1 = r.x1 +ℤ right;
  y1 = r.y1 +ℤ up;
  x2 = r.x2 +ℤ right;
  y2 = r.y2 +ℤ up;
}

-- the mirror image at the upright axis through the origin: the cell left of it and the cell right
-- of it are exchanged
abbrev pub mirrored_cells : (ℤ → ℤ → Bool) → ℤ → ℤ → Bool
mirrored_cells cells x y = cells (neg_ℤ x -ℤ pos 1) y

abbrev pub mirrored : Corners → Corners
mirrored r = record { x1 = neg_ℤ r.x2; y1 = r.y1; x2 = neg_ℤ r.x1; y2 = r.y2 }

-- columns and rows are exchanged: the mirror image at the axis from south-west to north-east
abbrev pub transposed : Corners → Corners
transposed r = record { x1 = r.y1; y1 = r.x1; x2 = r.y2; y2 = r.x2 }

-- east and west are exchanged
abbrev pub mirrored_port : ℕ → ℕ
mirrored_port port = (10 - port) % 8

-- south and west are exchanged, and so are east and north
abbrev pub transposed_port : ℕ → ℕ
transposed_port port = (8 - port) % 8
