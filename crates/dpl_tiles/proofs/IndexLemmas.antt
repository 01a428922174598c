-- The bounds of primitives, and which primitives can have a cell in a part of a row.
use Rattle.std.proofs.Common.{arith, ◌≡◌, ℕ, ◌+◌, ◌<◌, ◌≤◌, ℤ, pos, ◌-ℤ◌, ◌≤ℤ◌, List, length, get_or, ◌∙◌, All, sym, ap, inl, inr, map, Bool, true, false}
use Rattle.std.proofs.lemmas.Bool.{cases_lt}
use Rattle.std.proofs.lemmas.Int.{by_lt_z}
use Rattle.std.proofs.lemmas.List.{get_or_default}
use Rattle.std.proofs.lemmas.List.Elements.{All-map}
use Rattle.std.proofs.lemmas.List.Folds.{list_any_at}
use Rattle.dpl_index.specs.declared.bounds.Bounds.{Bounds}
use Rattle.dpl_index.specs.Meetings.{Meets}
use Rattle.dpl_cell.specs.declared.point.Point.{Point}
use Rattle.dpl_cell.specs.declared.layout.Primitive.{Primitive}
use Rattle.dpl_cell.specs.declared.layout.Primitive.TheVariants as prim
use Rattle.dpl_cell.specs.Places.{place_of}
use Rattle.dpl_cell.specs.Outlines.{outline_of}
use Rattle.dpl_cell.specs.Layers.{is_cell, is_in_outline}
use Rattle.dpl_tiles.specs.Bounds.{LiesIn, HoldsCorners}
use Rattle.dpl_tiles.specs.Windows.{IsOutside}
use Rattle.dpl_list.proofs.Integers.{signed}
use Rattle.dpl_tiles.proofs.OutlineLemmas.{AllRows, Lies, outline_none, outline_past, at_most, above}
use Rattle.dpl_tiles.proofs.StretchLemmas.{in_parts}
use Rattle.dpl_tiles.proofs.ChangeLemmas.{columns_past}

-- ---- a primitive has cells within its bounds alone

-- a primitive has no cell in a row outside those of its corners
rows_past : (low high y : ℤ) (p : Primitive) → LiesIn low high p → IsOutside low high y → (b : Bool) × AllRows (Lies b y) (outline_of p)
rows_past low high y (prim.Box r) (f, g) (inl h) = (false, (above _ y (omega signed), above _ y (let w = r.high in omega signed)))
rows_past low high y (prim.Box r) (f, g) (inr h) = (true, (at_most _ y (let w = r.high in omega signed), at_most _ y (omega signed)))
rows_past low high y (prim.Poly points) a (inl h) = (
  false,
  All-map (λ c. Lies false y c.1) place_of points (λ k d l. let e = (a k d l).0 in above _ y (omega signed)),
)
rows_past low high y (prim.Poly points) a (inr h) = (
  true,
  All-map (λ c. Lies true y c.1) place_of points (λ k d l. let e = (a k d l).1 in at_most _ y (omega signed)),
)

-- bounds of a primitive with a cell in the row, from right beside the window on, meet the row in the window
pub meets_there : (b : Bounds) (left right x y : ℤ) (p : Primitive) → HoldsCorners p b → (left -ℤ pos 1) ≤ℤ x
    → x ≤ℤ right → is_in_outline x y (outline_of p) ≡ true
    → Meets b (record { left = left; right = right; low = y; high = y })
meets_there b left right x y p h from to t = record {
  left = by_lt_z right b.left (λ g. absurd (beside (inl (omega signed)))) (λ g. g);
  right = by_lt_z b.right left (λ g. absurd (beside (inr (omega signed)))) (λ g. g);
  low = by_lt_z y b.low (λ g. absurd (missed (inl g))) (λ g. g);
  high = by_lt_z b.high y (λ g. absurd (missed (inr (omega signed)))) (λ g. g);
} where
  beside : IsOutside b.left b.right x → ⊥
  beside out = let (c, past) = columns_past _ _ x p h.columns out in let n = outline_past c x y (outline_of p) past in cc

  missed : IsOutside b.low b.high y → ⊥
  missed out = let (c, past) = rows_past _ _ y p h.rows out in let n = outline_none c x y (outline_of p) past in cc

pub held : (prims : List Primitive) (n : ℕ) (p : Primitive) (x y : ℤ) → n < length prims
    → p ≡ get_or prims n p → is_in_outline x y (outline_of p) ≡ true
    → is_cell (map outline_of prims) x y ≡ true
held prims n p x y l is t = in_parts prims x y ∙ list_any_at (λ p. is_in_outline x y (outline_of p)) prims n p l
    (ap (λ (q : Primitive). is_in_outline x y (outline_of q)) (sym is) ∙ t)

-- ---- the corners of a polygon

-- a coordinate of the first n corners lies from low to high
pub record Bounded (of : Point → ℤ) (points : List Point) (n : ℕ) (low high : ℤ) : Type 0 where
  pub each : (k : ℕ) (d : Point) → k < n → k < length points → (low ≤ℤ of (get_or points k d)) × (of (get_or points k d) ≤ℤ high)

pub bounded_none : (of : Point → ℤ) (points : List Point) (low high : ℤ) → Bounded of points 0 low high
bounded_none of points low high = record { each = λ k d l. absurd (omega arith) }

pub bounded_more : (of : Point → ℤ) (points : List Point) (n : ℕ) (low high low' high' : ℤ) (p : Point)
    → n < length points → p ≡ get_or points n p → low' ≤ℤ low → low' ≤ℤ of p → high ≤ℤ high' → of p ≤ℤ high'
    → Bounded of points n low high → Bounded of points (n + 1) low' high'
bounded_more of points n low high low' high' p within is a b c e s = record {
  each = λ k d l h. elim (cases_lt k n) [
    | inl g ↦ let f = s.each k d g h in (chain _ _ _ a f.0, chain _ _ _ f.1 c)
    | inr g ↦ let f : k ≡ n = omega arith in rw (f, get_or_default points n d p within, ← is) (b, e)
  ];
} where
  chain : (a b c : ℤ) → a ≤ℤ b → b ≤ℤ c → a ≤ℤ c
  chain a b c h k = omega signed

pub bounded_all : (of : Point → ℤ) (points : List Point) (n : ℕ) (low high : ℤ) → length points ≤ n
    → Bounded of points n low high → All (λ p. (low ≤ℤ of p) × (of p ≤ℤ high)) points
bounded_all of points n low high whole s k d l = s.each k d (omega arith) l
