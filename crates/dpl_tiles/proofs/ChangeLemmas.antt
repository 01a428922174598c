-- Which columns of a row can differ from the row below it: those of the sides that end there.
use Rattle.std.proofs.Common.{arith, ◌≡◌, ◌≢◌, ◌∙◌, refl, sym, ap, inl, inr, ℕ, ◌+◌, ◌%◌, ◌==◌, ℤ, pos, ◌-ℤ◌, ◌≤ℤ◌}
use Rattle.std.proofs.Common.{int_le, Bool, true, false, cond, ◌&&◌, ◌||◌, List, [], ◌∷◌, get_or, map, All, Any}
use Rattle.std.proofs.Common.{Contains}
use Rattle.std.proofs.lemmas.Int.{by_lt_z}
use Rattle.std.proofs.lemmas.List.{get_or_default}
use Rattle.std.proofs.lemmas.List.Elements.{All-head, All-tail, All-map}
use Rattle.dpl_cell.specs.declared.rect.Rect.{Rect}
use Rattle.dpl_cell.specs.declared.point.Point.{Point}
use Rattle.dpl_cell.specs.declared.layout.Primitive.{Primitive}
use Rattle.dpl_cell.specs.declared.layout.Primitive.TheVariants as prim
use Rattle.dpl_cell.specs.Places.{place_of}
use Rattle.dpl_cell.specs.Outlines.{outline_of}
use Rattle.dpl_cell.specs.Layers.{is_left_side, left_sides, is_in_polygon, is_cell, is_in_outline}
use Rattle.dpl_tiles.specs.declared.corners.Corner.{Corner}
use Rattle.dpl_tiles.specs.Windows.{IsOutside}
use Rattle.dpl_tiles.specs.Bounds.{SpansColumns}
use Rattle.dpl_tiles.specs.Corners.{IsCornerOf, SpansSide, IsEndOf, HasSides, HasCornersOf, AreCorners, AreCornersAt}
use Rattle.dpl_tiles.specs.Clusters.{AreChanges}
use Rattle.dpl_cell.proofs.BoxLemmas.{equal_z}
use Rattle.dpl_list.proofs.Integers.{signed, same_or_not}
use Rattle.dpl_tiles.proofs.SideLemmas.{bit, spans, spans_parity}
use Rattle.dpl_tiles.proofs.OutlineLemmas.{AllColumns, Agrees, Lies, side_same, outline_same, outline_past, at_most, above}

-- an ordinate that is not z lies on one side of row z and of the row below it
agrees : (z c : ℤ) → c ≢ z → Agrees (z -ℤ pos 1) z c
agrees z c n = by_lt_z c z
    (λ h. at_most c (z -ℤ pos 1) (omega signed) ∙ sym (at_most c z (omega signed)))
    (λ h. by_lt_z z c (λ g. above c (z -ℤ pos 1) (omega signed) ∙ sym (above c z g)) (λ g. absurd (n (equal_z c z g h))))

-- a primitive has no cell in a column outside those of its corners
pub columns_past : (left right x : ℤ) (p : Primitive) → SpansColumns left right p → IsOutside left right x → (b : Bool) × AllColumns (Lies b x) (outline_of p)
columns_past left right x (prim.Box r) (f, g) (inl h) = (false, (above _ x (omega signed), above _ x (let w = r.wide in omega signed)))
columns_past left right x (prim.Box r) (f, g) (inr h) = (true, (at_most _ x (let w = r.wide in omega signed), at_most _ x (omega signed)))
columns_past left right x (prim.Poly points) a (inl h) =
    (false, All-map (λ c. Lies false x c.0) place_of points (λ k d l. let e = (a k d l).0 in above _ x (omega signed)))
columns_past left right x (prim.Poly points) a (inr h) =
    (true, All-map (λ c. Lies true x c.0) place_of points (λ k d l. let e = (a k d l).1 in at_most _ x (omega signed)))

-- ---- the sides of a polygon that have an end at row z

-- how often the corner counts for the row below z and for row z, if it stands at or left of the column
abbrev turn : ℤ → ℤ → ℤ × ℤ → ℕ
turn x z p = cond (int_le p.0 x) (bit (int_le p.1 (z -ℤ pos 1)) + bit (int_le p.1 z)) 0

left_is : (x y : ℤ) (p q : ℤ × ℤ) (b : Bool) → int_le p.0 x ≡ b → bit (is_left_side x y p q) ≡ bit (b && spans y p q)
left_is x y p q b e = ap (λ c. bit (c && spans y p q)) e

turn_is : (x z : ℤ) (p : ℤ × ℤ) (b : Bool) → int_le p.0 x ≡ b → turn x z p ≡ cond b (bit (int_le p.1 (z -ℤ pos 1)) + bit (int_le p.1 z)) 0
turn_is x z p b e = ap (λ c. cond c (bit (int_le p.1 (z -ℤ pos 1)) + bit (int_le p.1 z)) 0) e

-- a side with both ends on one side of the column
one_side : (x z : ℤ) (p q : ℤ × ℤ) (b : Bool) → Lies b x p.0 → Lies b x q.0
    → (bit (is_left_side x (z -ℤ pos 1) p q) + bit (is_left_side x z p q) + turn x z p + turn x z q) % 2 ≡ 0
one_side x z p q false e f = omega (arith, left_is x (z -ℤ pos 1) p q false e, left_is x z p q false e, turn_is x z p false e, turn_is x z q false f)
one_side x z p q true e f = omega (
  arith,
  left_is x (z -ℤ pos 1) p q true e,
  left_is x z p q true e,
  turn_is x z p true e,
  turn_is x z q true f,
  spans_parity (z -ℤ pos 1) p q,
  spans_parity z p q,
)

even_turn : (x z : ℤ) (p : ℤ × ℤ) → p.1 ≢ z → turn x z p % 2 ≡ 0
even_turn x z p n = go (int_le p.0 x) (ap bit (agrees z p.1 n)) where
  go : (b : Bool) → bit (int_le p.1 (z -ℤ pos 1)) ≡ bit (int_le p.1 z) → cond b (bit (int_le p.1 (z -ℤ pos 1)) + bit (int_le p.1 z)) 0 % 2 ≡ 0
  go true e = omega arith
  go false e = refl

-- a side with no end at row z
no_end : (x z : ℤ) (p q : ℤ × ℤ) → p.1 ≢ z → q.1 ≢ z → (bit (is_left_side x (z -ℤ pos 1) p q) + bit (is_left_side x z p q) + turn x z p + turn x z q) % 2 ≡ 0
no_end x z p q n m = omega (arith, ap bit (side_same x (z -ℤ pos 1) z p q (agrees z p.1 n) (agrees z q.1 m)), even_turn x z p n, even_turn x z q m)

-- both ends of the side stand on one side of the column
abbrev IsAside : ℤ → Point → Point → Type 0
IsAside x p q = (b : Bool) × Lies b x p.x × Lies b x q.x

past_columns : (d1 d2 x : ℤ) (p q : Point) → SpansSide d1 d2 p q → IsOutside d1 d2 x → IsAside x p q
past_columns d1 d2 x p q s (inl h) = (false, above p.x x (let f = s.first_left in omega signed), above q.x x (let f = s.second_left in omega signed))
past_columns d1 d2 x p q s (inr h) = (true, at_most p.x x (let f = s.first_right in omega signed), at_most q.x x (let f = s.second_right in omega signed))

-- so does the side if it has an end at row z
abbrev IsAsideAt : ℤ → ℤ → Point → Point → Type 0
IsAsideAt x z p q = (p.y ≡ z → IsAside x p q) × (q.y ≡ z → IsAside x p q)

past_side : (x z : ℤ) (p q : Point) → IsAside x p q → (bit (is_left_side x (z -ℤ pos 1) (place_of p) (place_of q)) + bit
    (is_left_side x z (place_of p) (place_of q)) + turn x z (place_of p) + turn x z (place_of q)) % 2 ≡ 0
past_side x z p q (b, e, f) = one_side x z (place_of p) (place_of q) b e f

side_turns : (x z : ℤ) (p q : Point) → IsAsideAt x z p q →
    (bit (is_left_side x (z -ℤ pos 1) (place_of p) (place_of q)) + bit
    (is_left_side x z (place_of p) (place_of q)) + turn x z (place_of p) + turn x z (place_of q)) % 2 ≡ 0
side_turns x z p q (f, g) = elim (same_or_not p.y z) [
  | inl e ↦ past_side x z p q (f e)
  | inr n ↦ elim (same_or_not q.y z) [ inl e ↦ past_side x z p q (g e) | inr m ↦ no_end x z (place_of p) (place_of q) n m ]
]

-- each side with an end at row z, from one point through the list and on to the last
abbrev AreAsideAt : ℤ → ℤ → Point → List Point → Point → Type 0
AreAsideAt x z p [] last = IsAsideAt x z p last
AreAsideAt x z p (q ∷ qs) last = IsAsideAt x z p q × AreAsideAt x z q qs last

-- each corner counts for the side before it and for the one behind it
round_turns : (x z : ℤ) (p : Point) (ps : List Point) (last : Point) → AreAsideAt x z p ps last →
    (left_sides x (z -ℤ pos 1) (place_of p) (map place_of ps) (place_of last) + left_sides x z (place_of p)
    (map place_of ps) (place_of last) + turn x z (place_of p) + turn x z (place_of last)) % 2 ≡ 0
round_turns x z p [] last s = side_turns x z p last s
round_turns x z p (q ∷ qs) last (s, ss) = omega (arith, side_turns x z p q s, round_turns x z q qs last ss)

round_same : (x z : ℤ) (p : Point) (ps : List Point) → AreAsideAt x z p ps p
    → is_in_polygon (map place_of (p ∷ ps)) x (z -ℤ pos 1) ≡ is_in_polygon (map place_of (p ∷ ps)) x z
round_same x z p ps s =
    let h = round_turns x z p ps p s in
    let e : left_sides x (z -ℤ pos 1) (place_of p) (map place_of ps) (place_of p) % 2 ≡ left_sides x z (place_of p)
    (map place_of ps) (place_of p) % 2 = omega (arith, h) in
    ap (λ n. n == 1) e

-- ---- all primitives

-- the column lies outside those of the corner, if it stands at row z
abbrev IsPast : ℤ → ℤ → Corner → Type 0
IsPast x z c = c.y ≡ z → IsOutside c.left c.right x

end_past : (x z y : ℤ) (p q : Point) (corners : List Corner) → All (IsPast x z) corners → Any (IsEndOf p q y) corners → y ≡ z → IsAside x p q
end_past x z y p q corners a (k, c, l, e, f) g = let w : IsPast x z c = rw e at (a k c l) in past_columns c.left c.right x p q f.spans (w (f.y ∙ g))

round_past : (x z : ℤ) (corners : List Corner) (p : Point) (ps : List Point) (last : Point)
    → All (IsPast x z) corners → HasSides corners p ps last → AreAsideAt x z p ps last
round_past x z corners p [] last a (g, h) = (end_past x z p.y p last corners a g, end_past x z last.y p last corners a h)
round_past x z corners p (q ∷ qs) last a ((g, h), more) =
    ((end_past x z p.y p q corners a g, end_past x z q.y p q corners a h), round_past x z corners q qs last a more)

box_past : (x z y : ℤ) (r : Rect) (corners : List Corner) → All (IsPast x z) corners → Any (IsCornerOf y r.x1 r.x2) corners → y ≡ z → IsOutside r.x1 r.x2 x
box_past x z y r corners a (k, c, l, e, f) g =
    let w : IsPast x z c = rw e at (a k c l) in
    rw (f.left, f.right) at (w (f.y ∙ g))

box_same : (x z : ℤ) (r : Rect) → IsOutside r.x1 r.x2 x → is_in_outline x (z -ℤ pos 1) (outline_of (prim.Box r)) ≡ is_in_outline x z (outline_of (prim.Box r))
box_same x z r out = let (b, a) = columns_past r.x1 r.x2 x (prim.Box r) (itself r.x1, itself r.x2) out in
    outline_past b x (z -ℤ pos 1) (outline_of (prim.Box r)) a ∙
    sym (outline_past b x z (outline_of (prim.Box r)) a) where
      itself : (a : ℤ) → a ≤ℤ a
      itself a = omega signed

-- one primitive
same_cell : (x z : ℤ) (corners : List Corner) (p : Primitive) → All (IsPast x z) corners
    → HasCornersOf corners p → is_in_outline x (z -ℤ pos 1) (outline_of p) ≡ is_in_outline x z (outline_of p)
same_cell x z corners (prim.Box r) a (g, h) = elim (same_or_not r.y1 z) [
  | inl e ↦ box_same x z r (box_past x z r.y1 r corners a g e)
  | inr n ↦ elim (same_or_not r.y2 z) [
    | inl e ↦ box_same x z r (box_past x z r.y2 r corners a h e)
    | inr m ↦ outline_same x (z -ℤ pos 1) z (outline_of (prim.Box r)) (agrees z r.y1 n, agrees z r.y2 m)
  ]
]
same_cell x z corners (prim.Poly []) a h = refl
same_cell x z corners (prim.Poly (p ∷ ps)) a h = round_same x z p ps (round_past x z corners p ps p a h)

layer_equal : (x y y' : ℤ) (prims : List Primitive)
    → All (λ p. is_in_outline x y (outline_of p) ≡ is_in_outline x y' (outline_of p)) prims
    → is_cell (map outline_of prims) x y ≡ is_cell (map outline_of prims) x y'
layer_equal x y y' [] a = refl
layer_equal x y y' (p ∷ ps) a = let P : Primitive → Type 0 = λ p. is_in_outline x y (outline_of p) ≡ is_in_outline x y' (outline_of p) in
    ap (λ b. b || is_cell (map outline_of ps) x y) (All-head P p ps a) ∙
    ap (λ b. is_in_outline x y' (outline_of p) || b) (layer_equal x y y' ps (All-tail P p ps a))

column_same : (prims : List Primitive) (corners : List Corner) (x z : ℤ) → AreCorners prims corners
    → All (IsPast x z) corners
    → is_cell (map outline_of prims) x (z -ℤ pos 1) ≡ is_cell (map outline_of prims) x z
column_same prims corners x z has a = layer_equal x (z -ℤ pos 1) z prims (λ k d l. same_cell x z corners (get_or prims k d) a (has.all k d l))

-- outside the columns of its corners a row has the cells of the row below it
pub changes_of : (prims : List Primitive) (corners row : List Corner) (z : ℤ) → AreCorners prims corners
    → AreCornersAt corners z row → AreChanges (is_cell (map outline_of prims)) z row
changes_of prims corners row z has at = record {
  ordered = at.ordered;
  same = λ x out. column_same prims corners x z has (λ k d l e. past x out (get_or corners k d)
      (at.all (get_or corners k d) (k, l, get_or_default corners k (get_or corners k d) d l) e));
} where
  past : (x : ℤ) → All (λ c. IsOutside c.left c.right x) row → (c : Corner) → Contains row c → IsOutside c.left c.right x
  past x out c (m, l, e) = rw e at (out m c l)
