-- The sides of a polygon: how many of them span a row at or left of a column.
use Rattle.std.proofs.Common.{arith, ◌≡◌, ℕ, ◌+◌, ◌%◌, ◌<◌, ◌≤◌, ℤ, List, length, get_or, drop, ◌∙◌, refl, sym, ap, ◌∷◌}
use Rattle.std.proofs.Common.{[], ◌++◌, Bool, ◌==◌, cond, int_le, map}
use Rattle.std.specs.Int.{int_min, int_max}
use Rattle.std.proofs.lemmas.Int.{ints, clamps}
use Rattle.std.proofs.lemmas.List.{at_drop_more, at_drop_all}
use Rattle.std.proofs.lemmas.List.Sums.{sum_by-cons, sum_by_push}
use Rattle.dpl_cell.specs.declared.point.Point.{Point}
use Rattle.dpl_cell.specs.Places.{place_of}
use Rattle.dpl_cell.specs.Layers.{is_within, is_left_side, left_sides, is_in_polygon}
use Rattle.dpl_tiles.specs.declared.side.Side.{Side}
use Rattle.dpl_tiles.specs.Sides.{AreAllSidesOf, AreSidesOf, IsSideOf, sides_of, standing, stands, is_between, at_or_left}

-- 1 for true
abbrev pub bit : Bool → ℕ
bit b = cond b 1 0

pub left_cons : (x z : ℤ) (zs : List ℤ) → at_or_left x (z ∷ zs) ≡ bit (int_le z x) + at_or_left x zs
left_cons x z zs = sum_by-cons (λ z. bit (int_le z x)) z zs

pub left_push : (x z : ℤ) (zs : List ℤ) → at_or_left x (zs ++ z ∷ []) ≡ at_or_left x zs + bit (int_le z x)
left_push x z zs = sum_by_push (λ z. bit (int_le z x)) zs z

-- the side spans the row
abbrev pub spans : ℤ → ℤ × ℤ → ℤ × ℤ → Bool
spans y p q = is_within (int_min p.1 q.1) (int_max p.1 q.1) y

pub spans_parity : (y : ℤ) (p q : ℤ × ℤ) → bit (spans y p q) % 2 ≡ (bit (int_le p.1 y) + bit (int_le q.1 y)) % 2
spans_parity y p q = grind (arith, ints, clamps)

-- ---- the sides between the points of a polygon

-- the sides that are left to go, from this point on and back to the first
abbrev left_to_go : ℤ → ℤ → Point → List Point → Point → ℕ
left_to_go x y before points first = left_sides x y (place_of before) (map place_of points) (place_of first)

-- the sides up to the i-th point behind the first
pub record Round (first : Point) (rest : List Point) (i : ℕ) (before : Point) (sides : List Side) : Type 0 where
  pub each : (x y : ℤ) → standing x y sides + left_to_go x y before (drop i rest) first ≡ left_to_go x y first rest first

pub round_none : (first : Point) (rest : List Point) → Round first rest 0 first []
round_none first rest = record { each = λ x y. omega arith }

stood : (x y : ℤ) (p q : ℤ × ℤ) (s : Side) (sides : List Side) → IsSideOf p q s
    → standing x y (sides ++ s ∷ []) ≡ standing x y sides + bit (is_left_side x y p q)
stood x y p q s sides i = sum_by_push (λ s. bit (stands x y s)) sides s ∙ ap (λ b. standing x y sides + bit b) (same i) where
  same : IsSideOf p q s → stands x y s ≡ is_left_side x y p q
  same i = rw (i.column, i.low, i.high) refl

step_sides : (x y : ℤ) (rest : List Point) (i : ℕ) (before p first : Point) → i < length rest → p ≡ get_or rest i p
    → left_to_go x y before (drop i rest) first ≡ bit (is_left_side x y (place_of before) (place_of p)) + left_to_go x y p (drop (i + 1) rest) first
step_sides x y rest i before p first within is =
    at_drop_more (λ ps. left_to_go x y before ps first) rest i p within ∙
    ap (λ (q : Point). bit (is_left_side x y (place_of before) (place_of q)) + left_to_go x y q (drop (i + 1) rest)
    first) (sym is)

pub round_more : (first : Point) (rest : List Point) (i : ℕ) (before p : Point) (s : Side) (sides new : List Side)
    → Round first rest i before sides → i < length rest → p ≡ get_or rest i p
    → IsSideOf (place_of before) (place_of p) s → new ≡ sides ++ s ∷ [] → Round first rest (i + 1) p new
round_more first rest i before p s sides new r within is side e = rw e (record {
  each = λ x y. omega (arith, stood x y (place_of before) (place_of p) s sides side, step_sides x y rest i before p first within is, r.each x y);
})

pub round_end : (first : Point) (rest : List Point) (i : ℕ) (before : Point) (s : Side) (sides new : List Side)
    → length rest ≤ i → Round first rest i before sides → IsSideOf (place_of before) (place_of first) s
    → new ≡ sides ++ s ∷ [] → AreAllSidesOf (map place_of (first ∷ rest)) new
round_end first rest i before s sides new whole r side e =
    λ x y. rw e (omega (arith, stood x y (place_of before) (place_of first) s sides side, last_side x y, r.each x y))
  where
    last_side : (x y : ℤ) → left_to_go x y before (drop i rest) first ≡ bit (is_left_side x y (place_of before) (place_of first))
    last_side x y = at_drop_all (λ ps. left_to_go x y before ps first) rest i whole

-- the cells of a polygon lie between its sides
pub polygon_between : (points : List (ℤ × ℤ)) (sides : List Side) (x y : ℤ) → AreSidesOf points sides → is_between sides x y ≡ is_in_polygon points x y
polygon_between points sides x y are = ap (λ n. n == 1) (are x y) ∙ by_sides points where
  by_sides : (points : List (ℤ × ℤ)) → (sides_of x y points % 2 == 1) ≡ is_in_polygon points x y
  by_sides [] = refl
  by_sides (p ∷ ps) = refl
