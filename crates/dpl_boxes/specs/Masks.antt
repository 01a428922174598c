-- A box as a line of a CIF text in quarters of a hundredth of a micron (Mead and Conway 1980, section 4.5).
use Rattle.std.specs.Prelude.{ℕ, ℤ, pos, ◌+ℤ◌, ◌-ℤ◌, ◌*ℤ◌, List, ◌++◌, codes}
use Rattle.std.specs.Fmt.{signed_decimal}
use Rattle.dpl_cell.specs.Places.{Corners}

-- a number behind a space
abbrev pub spaced : ℤ → List ℕ
spaced z = codes " " ++ signed_decimal z

-- a box by its length, its width and its middle: a grid unit is two quarters of a hundredth
abbrev pub box_bytes : Corners → List ℕ
box_bytes b = codes "B" ++ spaced ((b.x2 -ℤ b.x1) *ℤ pos 2) ++ spaced ((b.y2 -ℤ b.y1) *ℤ pos 2)
    ++ spaced (b.x1 +ℤ b.x2) ++ spaced (b.y1 +ℤ b.y2)

-- the same as a line
abbrev pub box_line : Corners → List ℕ
box_line b = box_bytes b ++ codes ";\n"
