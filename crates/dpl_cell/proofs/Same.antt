-- Rectangles with the same corners are the same, and so are points at one place: what the types keep of them
-- has one proof at most.
use Rattle.std.proofs.Common.{rules, ◌≡◌, ℤ, pos, neg_ℤ, ◌^◌, ◌<ℤ◌, ◌≤ℤ◌, SFits, w64, ap, subst}
use Rattle.std.proofs.Props.{props}
use Rattle.dpl_cell.specs.declared.rect.Rect.{Rect}
use Rattle.dpl_cell.specs.declared.point.Point.{Point}
use Rattle.dpl_cell.specs.Places.{Corners, corners_of, place_of}

-- what a rectangle keeps of its corners
record RectFacts (c : Corners) : Type 0 where
  wide : c.x1 <ℤ c.x2
  high : c.y1 <ℤ c.y2
  left : neg_ℤ (pos (2 ^ 30)) ≤ℤ c.x1
  right : c.x2 ≤ℤ pos (2 ^ 30)
  below : neg_ℤ (pos (2 ^ 30)) ≤ℤ c.y1
  above : c.y2 ≤ℤ pos (2 ^ 30)

RectFacts-prop : (c : Corners) (p q : RectFacts c) → p ≡ q
RectFacts-prop c = hlevel props

rect_with : (c : Corners) → RectFacts c → Rect
rect_with c p = record {
  x1 = c.x1;
  y1 = c.y1;
  x2 = c.x2;
  y2 = c.y2;
  wide = p.wide;
  high = p.high;
  left = p.left;
  right = p.right;
  below = p.below;
  above = p.above;
}

rect_facts : (r : Rect) → RectFacts (corners_of r)
rect_facts r = record { wide = r.wide; high = r.high; left = r.left; right = r.right; below = r.below; above = r.above }

-- rectangles with the same corners are the same
pub same_corners : (a b : Rect) → corners_of a ≡ corners_of b → a ≡ b
unfolding rect_with rect_facts
same_corners a b e =
    let P : Corners → Type 0 = λ c. (p : RectFacts c) → a ≡ rect_with c p in
    subst P e (λ p. ap (rect_with (corners_of a)) (RectFacts-prop (corners_of a) (rect_facts a) p)) (rect_facts b)

-- rectangles with the same corners are the same
pub same_rect : (a b : Rect) → a.x1 ≡ b.x1 → a.y1 ≡ b.y1 → a.x2 ≡ b.x2 → a.y2 ≡ b.y2 → a ≡ b
same_rect a b e1 e2 e3 e4 = let e : corners_of a ≡ corners_of b = cc in same_corners a b e

-- the corners of a rectangle are numbers of the code
pub corners_fit : (r : Rect) → SFits w64 r.x1 × (SFits w64 r.x2 × (SFits w64 r.y1 × SFits w64 r.y2))
corners_fit r = (search rules, (search rules, (search rules, search rules)))

-- what a point keeps of its place
record PointFacts (c : ℤ × ℤ) : Type 0 where
  left : neg_ℤ (pos (2 ^ 30)) ≤ℤ c.0
  right : c.0 ≤ℤ pos (2 ^ 30)
  below : neg_ℤ (pos (2 ^ 30)) ≤ℤ c.1
  above : c.1 ≤ℤ pos (2 ^ 30)

PointFacts-prop : (c : ℤ × ℤ) (p q : PointFacts c) → p ≡ q
PointFacts-prop c = hlevel props

point_with : (c : ℤ × ℤ) → PointFacts c → Point
point_with c p = record { x = c.0; y = c.1; left = p.left; right = p.right; below = p.below; above = p.above }

point_facts : (p : Point) → PointFacts (place_of p)
point_facts p = record { left = p.left; right = p.right; below = p.below; above = p.above }

-- points at one place are the same
pub same_point : (a b : Point) → place_of a ≡ place_of b → a ≡ b
unfolding point_with point_facts
same_point a b e =
    let P : ℤ × ℤ → Type 0 = λ c. (p : PointFacts c) → a ≡ point_with c p in
    subst P e (λ p. ap (point_with (place_of a)) (PointFacts-prop (place_of a) (point_facts a) p)) (point_facts b)
