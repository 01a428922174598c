-- Each cell lies in exactly one tile.
use Rattle.std.proofs.Common.{arith, rules, ◌≡◌, ℕ, zero, suc, ◌^◌, ℤ, pos, neg_ℤ, ◌+ℤ◌, ◌-ℤ◌, ◌<ℤ◌, ◌≤ℤ◌, List, Any}
use Rattle.std.proofs.Common.{refl, inl, inr, ◌⊎◌, Bool, true, false, IsTrue}
use Rattle.std.specs.Int.RustNames.{unsigned_abs}
use Rattle.std.proofs.lemmas.Int.{by_lt_z}
use Rattle.dpl_cell.specs.Places.{Corners}
use Rattle.dpl_cell.specs.Cells.{IsWithin, IsIn, SharesCell}
use Rattle.dpl_cell.specs.Tiles.{IsRun, IsTile, AreTiles}
use Rattle.dpl_tiles.specs.Union.{SharesOut}
use Rattle.std.specs.Cmp.{both_ways}
use Rattle.dpl_cell.proofs.BoxLemmas.{is_true, true_is, drawn_any, any_drawn, never_before}
use Rattle.dpl_list.proofs.Integers.{signed}
use Rattle.dpl_tiles.proofs.TileLemmas.{one_tile}
use Rattle.dpl_cell.proofs.StretchLemmas.{one_maximal}
use Rattle.dpl_tiles.proofs.BoundLemmas.{IsBounded, around}

-- ---- a cell lies in a run, and a run in a tile

false_is : IsTrue false → ⊥
false_is t = search (rules, t)

cell_or_not : (b : Bool) → IsTrue b ⊎ ¬ IsTrue b
cell_or_not true = inl (is_true refl)
cell_or_not false = inr (λ t. false_is t)

pub no_cell : {b : Bool} → b ≡ false → ¬ IsTrue b
no_cell e t = false_is (rw e at t)

all_or_not : (p : ℤ → Bool) (a : ℤ) (n : ℕ) → ((x : ℤ) → IsWithin a (a +ℤ pos n) x → IsTrue (p x)) ⊎ ¬ ((x : ℤ) → IsWithin a (a +ℤ pos n) x → IsTrue (p x))
all_or_not p a zero = inl (λ x w. absurd (let f = w.from in let g = w.to in omega signed))
all_or_not p a (suc n) = elim (all_or_not p a n) [
  | inr m ↦ inr (λ h. m (λ x w. h x (longer a n x w)))
  | inl h ↦ elim (cell_or_not (p (a +ℤ pos n))) [
    | inr m ↦ inr (λ g. m (g (a +ℤ pos n) (last a n)))
    | inl t ↦ inl (λ x w. by_lt_z x (a +ℤ pos n) (λ g. h x (record { from = w.from; to = g })) (λ g. let e : x ≡ a +ℤ pos n = at_last a n x w g in rw e t))
  ]
] where
  longer : (a : ℤ) (n : ℕ) (x : ℤ) → IsWithin a (a +ℤ pos n) x → IsWithin a (a +ℤ pos (suc n)) x
  longer a n x w = record { from = w.from; to = let g = w.to in omega signed }

  last : (a : ℤ) (n : ℕ) → IsWithin a (a +ℤ pos (suc n)) (a +ℤ pos n)
  last a n = record { from = omega signed; to = omega signed }

  at_last : (a : ℤ) (n : ℕ) (x : ℤ) → IsWithin a (a +ℤ pos (suc n)) x → (a +ℤ pos n) ≤ℤ x → x ≡ a +ℤ pos n
  at_last a n x w g = let h = w.to in omega signed

pub run_or_not : (cells : ℤ → ℤ → Bool) (x1 x2 y : ℤ) → x1 <ℤ x2 → IsRun cells x1 x2 y ⊎ ¬ IsRun cells x1 x2 y
run_or_not cells x1 x2 y long =
    let n = unsigned_abs (x2 -ℤ x1) in
    let e : x1 +ℤ pos n ≡ x2 = omega signed in
    elim (cell_or_not (cells (x1 -ℤ pos 1) y)) [
      | inl t ↦ inr (λ r. r.left t)
      | inr left ↦ elim (cell_or_not (cells x2 y)) [
        | inl t ↦ inr (λ r. r.right t)
        | inr right ↦ elim (all_or_not (λ x. cells x y) x1 n) [
          | inl full ↦ inl (record { long = long; full = λ x w. full x (rw e w); left = left; right = right })
          | inr m ↦ inr (λ r. m (λ x w. r.full x (rw e at w)))
        ]
      ]
    ]

-- a run around a cell of a row that ends on both sides
pub run_around : (cells : ℤ → ℤ → Bool) (x y : ℤ) → ((z : ℤ) → z <ℤ neg_ℤ (pos (2 ^ 30)) → cells z y ≡ false)
    → ((z : ℤ) → pos (2 ^ 30) ≤ℤ z → cells z y ≡ false) → IsTrue (cells x y)
    → (x1 : ℤ) × (x2 : ℤ) × IsRun cells x1 x2 y × IsWithin x1 x2 x
run_around cells x y left right t =
    let (x1, x2, a) = around (λ x. IsTrue (cells x y)) (λ x. cell_or_not (cells x y)) (neg_ℤ (pos (2 ^ 30)))
    (pos (2 ^ 30)) (λ z h. no_cell (left z h)) (λ z h. no_cell (right z h)) x t in
    let f = a.inside.from in let g = a.inside.to in
    (x1, x2, record { long = omega signed; full = a.each; left = a.before; right = a.after }, a.inside)

pub cell_run : (cells : ℤ → ℤ → Bool) (x y : ℤ) → IsBounded cells → IsTrue (cells x y) → (x1 : ℤ) × (x2 : ℤ) × IsRun cells x1 x2 y × IsWithin x1 x2 x
cell_run cells x y b t = run_around cells x y (λ z h. b.left z y h) (λ z h. b.right z y h) t

first_cell : (cells : ℤ → ℤ → Bool) (x1 x2 y : ℤ) → IsRun cells x1 x2 y → IsTrue (cells x1 y)
first_cell cells x1 x2 y r = r.full x1 (record { from = let h = r.long in omega signed; to = r.long })

run_tile : (cells : ℤ → ℤ → Bool) (x1 x2 y : ℤ) → IsBounded cells → IsRun cells x1 x2 y
    → (y1 : ℤ) × (y2 : ℤ) × IsTile cells (record { x1 = x1; y1 = y1; x2 = x2; y2 = y2 }) × IsWithin y1 y2 y
run_tile cells x1 x2 y b r =
    let (y1, y2, a) = around (λ y. IsRun cells x1 x2 y) (λ y. run_or_not cells x1 x2 y r.long) (neg_ℤ (pos (2 ^ 30))) (pos (2 ^ 30))
    (λ z h. λ s. no_cell (b.below x1 z h) (first_cell cells x1 x2 z s)) (λ z h. λ s. no_cell (b.above x1 z h) (first_cell cells x1 x2 z s)) y r in
    let f = a.inside.from in let g = a.inside.to in
    (y1, y2, record { high = omega signed; rows = a.each; below = a.before; above = a.after }, a.inside)

-- ---- the union

cell_held : (cells : ℤ → ℤ → Bool) (tiles : List Corners) → IsBounded cells → AreTiles cells tiles → (x y : ℤ)
    → IsTrue (cells x y) → Any (λ r. IsIn r x y) tiles
cell_held cells tiles b a x y t =
    let (x1, x2, r, w) = cell_run cells x y b t in
    let (y1, y2, s, v) = run_tile cells x1 x2 y b r in
    let (k, l, e) = a.all _ s in
    (k, record { x1 = x1; y1 = y1; x2 = x2; y2 = y2 }, l, e, record { column = w; row = v })

held_cell : (cells : ℤ → ℤ → Bool) (tiles : List Corners) → AreTiles cells tiles → (x y : ℤ) → Any (λ r. IsIn r x y) tiles → IsTrue (cells x y)
held_cell cells tiles a x y (k, r, l, e, i) =
    let s : IsTile cells r = rw e at (a.each k r l) in
    let run : IsRun cells r.x1 r.x2 y = s.rows y i.row in run.full x i.column

-- two tiles that share a cell are the same
shared : (cells : ℤ → ℤ → Bool) (a b : Corners) → IsTile cells a → IsTile cells b → SharesCell (IsIn a) (IsIn b) → a ≡ b
shared cells a b s t c =
    let (e, f) = one_maximal (λ x. IsTrue (cells x c.y)) a.x1 a.x2 b.x1 b.x2 c.x (s.rows c.y c.first.row)
    (t.rows c.y c.second.row) c.first.column c.second.column in
    one_tile cells a b c.y s t e f c.first.row c.second.row

pub shares_out : (cells : ℤ → ℤ → Bool) (tiles : List Corners) → IsBounded cells → AreTiles cells tiles → SharesOut cells tiles
shares_out cells tiles b a = record {
  union = λ x y. ((λ t. cell_held cells tiles b a x y t), (λ h. held_cell cells tiles a x y h));
  apart = λ i j d h l. λ c. never_before _ _ (shared cells _ _ (a.each i d (omega arith)) (a.each j d l) c) (a.ordered i j d h l);
  drawn = λ x y. both_ways _ _ (λ t. true_is _ (held_cell cells tiles a x y (drawn_any tiles x y t)))
      (λ t. any_drawn tiles x y (cell_held cells tiles b a x y (is_true t)));
}
