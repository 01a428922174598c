-- How long a made layout can be.
use Rattle.std.proofs.Common.{arith, ◌≡◌, ℕ, List, zero, suc, ◌+◌, ◌*◌, ◌/◌, ◌<◌, ◌≤◌, ◌++◌, length, length-append}
use Rattle.std.specs.Prelude.{codes, decimal}
use Rattle.std.proofs.lemmas.Fmt.{length-decimal-le}
use Rattle.dpl_gen.specs.Layout.{bottom, left, box_length, made_line, draw, next_state, state_after, row_text, rows_text, layout}

number_short : (n : ℕ) → n < 1000000 → length (decimal n) ≤ 6
number_short n small = length-decimal-le 6 n (omega arith) small (omega arith)

length_small : (d : ℕ) → box_length d < 1000
length_small d = omega arith

left_small : (column d : ℕ) → column ≤ 200 → left column d < 100000
left_small column d c = omega arith

bottom_small : (row : ℕ) → row ≤ 200 → bottom row < 100000
bottom_small row r = omega arith

joined : (a b c d e f g : List ℕ) → length (a ++ b ++ c ++ d ++ e ++ f ++ g) ≡ length a + length b + length c + length d + length e + length f + length g
joined a b c d e f g = simp (length-append)

box_short : (row column d : ℕ) → row ≤ 200 → column ≤ 200 → length (made_line row column d) ≤ 30
box_short row column d r c =
    let n = box_length d in
    let l : n < 1000 = length_small d in
    let w : length (decimal n) ≤ 6 = number_short n (omega arith) in
    let ls : left column d < 100000 = left_small column d c in
    let x : length (decimal (left column d + n / 2)) ≤ 6 = number_short (left column d + n / 2) (omega arith) in
    let bs : bottom row < 100000 = bottom_small row r in
    let y : length (decimal (bottom row + 50)) ≤ 6 = number_short (bottom row + 50) (omega arith) in
    let e = joined (codes "B ") (decimal n) (codes " 100 ") (decimal (left column d + n / 2)) (codes " ") (decimal (bottom row + 50)) (codes ";\n") in
    omega arith

row_short : (k row column s : ℕ) → row ≤ 200 → column + k ≤ 200 → length (row_text k row column s) ≤ k * 30
row_short zero row column s r c = omega arith
row_short (suc k) row column s r c =
    let line = made_line row column (draw (next_state s)) in
    let b : length line ≤ 30 = box_short row column (draw (next_state s)) r (omega arith) in
    let rest : length (row_text k row (column + 1) (next_state s)) ≤ k * 30 = row_short k row (column + 1) (next_state s) r (omega arith) in
    let e = length-append line (row_text k row (column + 1) (next_state s)) in
    omega arith

rows_short : (k row columns s : ℕ) → row + k ≤ 200 → columns ≤ 200 → length (rows_text k row columns s) ≤ k * 6000
rows_short zero row columns s r c = omega arith
rows_short (suc k) row columns s r c =
    let line = row_text columns row 0 s in
    let b : length line ≤ columns * 30 = row_short columns row 0 s (omega arith) (omega arith) in
    let rest : length (rows_text k (row + 1) columns (state_after columns s)) ≤ k * 6000 =
    rows_short k (row + 1) columns (state_after columns s) (omega arith) c in
    let e = length-append line (rows_text k (row + 1) columns (state_after columns s)) in
    omega arith

pub layout_short : (start rows columns : ℕ) → rows ≤ 200 → columns ≤ 200 → length (layout start rows columns) ≤ 2000000
layout_short start rows columns r c =
    let b : length (rows_text rows 0 columns start) ≤ rows * 6000 = rows_short rows 0 columns start (omega arith) c in
    let e = length-append (codes "L M;\n" ++ rows_text rows 0 columns start) (codes "E\n") in
    let f = length-append (codes "L M;\n") (rows_text rows 0 columns start) in
    omega arith
