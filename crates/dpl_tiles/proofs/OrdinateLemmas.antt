-- The ordinates of corners.
use Rattle.std.proofs.Common.{arith, ◌≡◌, ◌∙◌, ℕ, ◌<◌, ℤ, pos, List, length, get_or, map, All, AllPairs, Any, Contains, ap, ◌∷◌, []}
use Rattle.std.proofs.lemmas.List.{get_or_default, get_or-map, length-map}
use Rattle.std.proofs.lemmas.List.Elements.{All-cons, All-weaker}
use Rattle.dpl_list.specs.Order.{Ascends}
use Rattle.dpl_cell.specs.declared.point.Point.{Point}
use Rattle.dpl_cell.specs.declared.layout.Primitive.{Primitive}
use Rattle.dpl_cell.specs.declared.layout.Primitive.TheVariants as prim
use Rattle.dpl_cell.specs.Ranges.{IsInRange}
use Rattle.dpl_tiles.specs.declared.corners.Corner.{Corner}
use Rattle.dpl_tiles.specs.Bands.{HasCorners, HasOrdinates}
use Rattle.dpl_tiles.specs.Corners.{AreInRange, ComesBefore, HasCornersOf, HasSide, HasSides, IsCornerOf, IsEndOf}
use Rattle.dpl_tiles.proofs.CornerLemmas.{rising_rows}

-- a corner, where one is read past the end of a list
abbrev no_corner : Corner
no_corner = record { y = pos 0; left = pos 0; right = pos 0 }

row_at : (corners : List Corner) (k : ℕ) (d : ℤ) → k < length corners → get_or (map (λ (c : Corner). c.y) corners) k d ≡ (get_or corners k no_corner).y
row_at corners k d l = get_or-map (λ (c : Corner). c.y) corners k no_corner d l

pub rows_rise : (corners : List Corner) (rows : List ℤ) → rows ≡ map (λ c. c.y) corners → AllPairs ComesBefore corners → Ascends (λ z. z) rows
rows_rise corners rows e up = rw e (λ i j d h l.
    let n = length-map corners (λ (c : Corner). c.y) in
    rw (row_at corners i d (omega arith), row_at corners j d (omega arith)) (rising_rows corners up i j no_corner h (omega arith)))

pub rows_in_range : (corners : List Corner) (rows : List ℤ) → rows ≡ map (λ c. c.y) corners → AreInRange corners → All IsInRange rows
rows_in_range corners rows e a = rw e (λ k d l.
    let n = length-map corners (λ (c : Corner). c.y) in
    let within : k < length corners = omega arith in
    let x = get_or corners k no_corner in
    rw (row_at corners k d within) (a x (k, within, get_or_default corners k x no_corner within)))

found : (corners : List Corner) (P : Corner → Type 0) (z : ℤ) → ((c : Corner) → P c → c.y ≡ z) → Any P corners
    → Contains (map (λ (c : Corner). c.y) corners) z
found corners P z y (k, c, l, e, h) =
    (k, rw (length-map corners (λ (x : Corner). x.y)) l, get_or-map (λ (x : Corner). x.y) corners k c z l ∙ ap (λ (x : Corner). x.y) e ∙ y c h)

side_has : (corners : List Corner) (p q : Point) → HasSide corners p q → Contains (map (λ (c : Corner). c.y) corners) p.y
side_has corners p q (a, b) = found corners (IsEndOf p q p.y) p.y (λ c h. h.y) a

sides_have : (corners : List Corner) (last p : Point) (ps : List Point) → HasSides corners p ps last
    → All (λ (q : Point). Contains (map (λ (c : Corner). c.y) corners) q.y) (p ∷ ps)
sides_have corners last p [] h = All-cons (λ (q : Point). Contains (map (λ (c : Corner). c.y) corners) q.y) p []
    (side_has corners p last h) (λ k d l. absurd (omega arith))
sides_have corners last p (q ∷ qs) (g, h) = All-cons (λ (t : Point). Contains (map (λ (c : Corner). c.y) corners) t.y) p (q ∷ qs)
    (side_has corners p q g) (sides_have corners last q qs h)

has_rows : (corners : List Corner) (p : Primitive) → HasCornersOf corners p → HasCorners (map (λ (c : Corner). c.y) corners) p
has_rows corners (prim.Box r) (a, b) = (
  found corners (IsCornerOf r.y1 r.x1 r.x2) r.y1 (λ c h. h.y) a,
  found corners (IsCornerOf r.y2 r.x1 r.x2) r.y2 (λ c h. h.y) b,
)
has_rows corners (prim.Poly []) h = λ k d l. absurd (omega arith)
has_rows corners (prim.Poly (p ∷ ps)) h = sides_have corners p p ps h

pub rows_have : (corners : List Corner) (rows : List ℤ) (prims : List Primitive) → rows ≡ map (λ c. c.y) corners
    → All (HasCornersOf corners) prims → HasOrdinates rows prims
rows_have corners rows prims e a = rw e (All-weaker (HasCornersOf corners) (HasCorners (map (λ (c : Corner). c.y) corners))
    (λ p h. has_rows corners p h) prims a)
