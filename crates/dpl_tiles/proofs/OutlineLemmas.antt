-- Which cells an outline can hold, by the columns and the rows of its corners.
use Rattle.std.proofs.Common.{arith, ◌≡◌, ◌+◌, ◌%◌, ◌==◌, ℤ, ◌<ℤ◌, ◌≤ℤ◌, List, ◌∙◌, All, refl, sym, ap, [], ◌∷◌, Bool}
use Rattle.std.proofs.Common.{true, false, not, ◌&&◌, ◌||◌, cond, int_le}
use Rattle.std.proofs.lemmas.Int.{ints, clamps}
use Rattle.std.proofs.lemmas.List.Elements.{All-tail, All-head}
use Rattle.dpl_cell.specs.Places.{Corners}
use Rattle.dpl_cell.specs.Outlines.{Outline, Box, Polygon}
use Rattle.dpl_cell.specs.Layers.{is_within, is_in_box, is_left_side, left_sides, is_in_outline, is_cell}
use Rattle.dpl_tiles.proofs.SideLemmas.{bit, spans, spans_parity}
use Rattle.std.proofs.Math.Bool.{and-false}

-- a property of the rows and of the columns of all corners
abbrev pub AllRows : (ℤ → Type 0) → Outline → Type 0
AllRows R (Box r) = R r.y1 × R r.y2
AllRows R (Polygon ps) = All (λ p. R p.1) ps

abbrev pub AllColumns : (ℤ → Type 0) → Outline → Type 0
AllColumns C (Box r) = C r.x1 × C r.x2
AllColumns C (Polygon ps) = All (λ p. C p.0) ps

-- the tests of the ends decide
within_by_ends : (a b y : ℤ) → is_within a b y ≡ (int_le a y && not (int_le b y))
within_by_ends a b y = grind (arith, ints)

spans_by_ends : (y : ℤ) (p q : ℤ × ℤ) → spans y p q ≡ cond (int_le p.1 y) (not (int_le q.1 y)) (int_le q.1 y)
spans_by_ends y p q = grind (arith, ints, clamps)

-- ---- rows that no corner parts have the same cells

-- the two rows lie on one side of the ordinate
abbrev pub Agrees : ℤ → ℤ → ℤ → Type 0
Agrees y y' c = int_le c y ≡ int_le c y'

pub side_same : (x y y' : ℤ) (p q : ℤ × ℤ) → Agrees y y' p.1 → Agrees y y' q.1 → is_left_side x y p q ≡ is_left_side x y' p q
side_same x y y' p q e f =
    ap (λ b. int_le p.0 x && b) (spans_by_ends y p q ∙ ap (λ b. cond b (not (int_le q.1 y)) (int_le q.1 y)) e ∙
    ap (λ b. cond (int_le p.1 y') (not b) b) f ∙ sym (spans_by_ends y' p q))

sides_same : (x y y' : ℤ) (p : ℤ × ℤ) (ps : List (ℤ × ℤ)) (last : ℤ × ℤ) → Agrees y y' p.1
    → All (λ q. Agrees y y' q.1) ps → Agrees y y' last.1
    → left_sides x y p ps last ≡ left_sides x y' p ps last
sides_same x y y' p [] last e a f = ap bit (side_same x y y' p last e f)
sides_same x y y' p (q ∷ qs) last e a f =
    let g = All-head (λ q. Agrees y y' q.1) q qs a in
    let h : bit (is_left_side x y p q) ≡ bit (is_left_side x y' p q) = ap bit (side_same x y y' p q e g) in
    let i = sides_same x y y' q qs last g (All-tail (λ q. Agrees y y' q.1) q qs a) f in
    ap (λ n. n + left_sides x y q qs last) h ∙ ap (λ n. bit (is_left_side x y' p q) + n) i

pub outline_same : (x y y' : ℤ) (o : Outline) → AllRows (Agrees y y') o → is_in_outline x y o ≡ is_in_outline x y' o
outline_same x y y' (Box r) (e, f) =
    ap (λ b. is_within r.x1 r.x2 x && b) (within_by_ends r.y1 r.y2 y ∙ ap (λ b. b && not (int_le r.y2 y)) e ∙
    ap (λ b. int_le r.y1 y' && not b) f ∙ sym (within_by_ends r.y1 r.y2 y'))
outline_same x y y' (Polygon []) a = refl
outline_same x y y' (Polygon (p ∷ ps)) a =
    let e = All-head (λ q. Agrees y y' q.1) p ps a in ap (λ n. n % 2 == 1) (sides_same x y y' p ps p e (All-tail (λ q. Agrees y y' q.1) p ps a) e)

pub layer_same : (x y y' : ℤ) (os : List Outline) → All (AllRows (Agrees y y')) os → is_cell os x y ≡ is_cell os x y'
layer_same x y y' [] a = refl
layer_same x y y' (o ∷ os) a =
    ap (λ b. b || is_cell os x y) (outline_same x y y' o (All-head (AllRows (Agrees y y')) o os a)) ∙
    ap (λ b. is_in_outline x y' o || b) (layer_same x y y' os (All-tail (AllRows (Agrees y y')) o os a))

-- ---- a row with all corners on one side has no cell

-- the ordinate is at most y, or is not
abbrev pub Lies : Bool → ℤ → ℤ → Type 0
Lies b y c = int_le c y ≡ b

side_none : (b : Bool) (x y : ℤ) (p q : ℤ × ℤ) → Lies b y p.1 → Lies b y q.1 → is_left_side x y p q ≡ false
side_none b x y p q e f = ap (λ c. int_le p.0 x && c) (spans_by_ends y p q ∙
    ap (λ c. cond c (not (int_le q.1 y)) (int_le q.1 y)) e ∙ ap (λ c. cond b (not c) c) f ∙ same b) ∙
    and-false (int_le p.0 x) where
      same : (b : Bool) → cond b (not b) b ≡ false
      same true = refl
      same false = refl

sides_none : (b : Bool) (x y : ℤ) (p : ℤ × ℤ) (ps : List (ℤ × ℤ)) (last : ℤ × ℤ) → Lies b y p.1
    → All (λ q. Lies b y q.1) ps → Lies b y last.1 → left_sides x y p ps last ≡ 0
sides_none b x y p [] last e a f = ap bit (side_none b x y p last e f)
sides_none b x y p (q ∷ qs) last e a f =
    let g = All-head (λ q. Lies b y q.1) q qs a in
    let h : bit (is_left_side x y p q) ≡ 0 = ap bit (side_none b x y p q e g) in
    let i = sides_none b x y q qs last g (All-tail (λ q. Lies b y q.1) q qs a) f in
    omega arith

pub outline_none : (b : Bool) (x y : ℤ) (o : Outline) → AllRows (Lies b y) o → is_in_outline x y o ≡ false
outline_none b x y (Box r) (e, f) =
    ap (λ c. is_within r.x1 r.x2 x && c) (within_by_ends r.y1 r.y2 y ∙ ap (λ c. c && not (int_le r.y2 y)) e ∙
    ap (λ c. b && not c) f ∙ same b) ∙ and-false (is_within r.x1 r.x2 x) where
      same : (b : Bool) → (b && not b) ≡ false
      same true = refl
      same false = refl
outline_none b x y (Polygon []) a = refl
outline_none b x y (Polygon (p ∷ ps)) a =
    let e = All-head (λ q. Lies b y q.1) p ps a in ap (λ n. n % 2 == 1) (sides_none b x y p ps p e (All-tail (λ q. Lies b y q.1) p ps a) e)

-- ---- a column with all corners on one side has no cell

left_none : (x y : ℤ) (p : ℤ × ℤ) (ps : List (ℤ × ℤ)) (last : ℤ × ℤ) → Lies false x p.0 → All (λ q. Lies false x q.0) ps → left_sides x y p ps last ≡ 0
left_none x y p [] last e a = ap (λ b. bit (b && spans y p last)) e
left_none x y p (q ∷ qs) last e a =
    let h : bit (is_left_side x y p q) ≡ 0 = ap (λ b. bit (b && spans y p q)) e in
    let i = left_none x y q qs last (All-head (λ q. Lies false x q.0) q qs a) (All-tail (λ q. Lies false x q.0) q qs a) in
    omega arith

-- right of all corners each side that spans the row counts, and they are even
right_even : (x y : ℤ) (p : ℤ × ℤ) (ps : List (ℤ × ℤ)) (last : ℤ × ℤ) → Lies true x p.0
    → All (λ q. Lies true x q.0) ps
    → (left_sides x y p ps last + bit (int_le p.1 y) + bit (int_le last.1 y)) % 2 ≡ 0
right_even x y p [] last e a =
    let h : bit (is_left_side x y p last) ≡ bit (spans y p last) = ap (λ b. bit (b && spans y p last)) e in
    omega (arith, h, spans_parity y p last)
right_even x y p (q ∷ qs) last e a =
    let h : bit (is_left_side x y p q) ≡ bit (spans y p q) = ap (λ b. bit (b && spans y p q)) e in
    let i = right_even x y q qs last (All-head (λ q. Lies true x q.0) q qs a) (All-tail (λ q. Lies true x q.0) q qs a) in
    omega (arith, h, i, spans_parity y p q)

box_past : (b : Bool) (x y : ℤ) (r : Corners) → Lies b x r.x1 → Lies b x r.x2 → is_in_box r x y ≡ false
box_past b x y r e f = ap (λ c. c && is_within r.y1 r.y2 y)
    (within_by_ends r.x1 r.x2 x ∙ ap (λ c. c && not (int_le r.x2 x)) e ∙ ap (λ c. b && not c) f ∙ same b) where
      same : (b : Bool) → (b && not b) ≡ false
      same true = refl
      same false = refl

pub outline_past : (b : Bool) (x y : ℤ) (o : Outline) → AllColumns (Lies b x) o → is_in_outline x y o ≡ false
outline_past b x y (Box r) (e, f) = box_past b x y r e f
outline_past b x y (Polygon []) a = refl
outline_past false x y (Polygon (p ∷ ps)) a = ap (λ n. n % 2 == 1)
    (left_none x y p ps p (All-head (λ q. Lies false x q.0) p ps a) (All-tail (λ q. Lies false x q.0) p ps a))
outline_past true x y (Polygon (p ∷ ps)) a =
    let h = right_even x y p ps p (All-head (λ q. Lies true x q.0) p ps a) (All-tail (λ q. Lies true x q.0) p ps a) in
    let g : left_sides x y p ps p % 2 ≡ 0 = omega (arith, h) in
    ap (λ n. n == 1) g

-- ---- layers

layer_none : (x y : ℤ) (os : List Outline) → All (λ o. is_in_outline x y o ≡ false) os → is_cell os x y ≡ false
layer_none x y [] a = refl
layer_none x y (o ∷ os) a = let P : Outline → Type 0 = λ o. is_in_outline x y o ≡ false in
    ap (λ b. b || is_cell os x y) (All-head P o os a) ∙ layer_none x y os (All-tail P o os a)

pub no_row : (b : Bool) (x y : ℤ) (os : List Outline) → All (AllRows (Lies b y)) os → is_cell os x y ≡ false
no_row b x y os a = layer_none x y os (λ k d l. outline_none b x y _ (a k d l))

pub no_column : (b : Bool) (x y : ℤ) (os : List Outline) → All (AllColumns (Lies b x)) os → is_cell os x y ≡ false
no_column b x y os a = layer_none x y os (λ k d l. outline_past b x y _ (a k d l))

pub at_most : (c y : ℤ) → c ≤ℤ y → Lies true y c
at_most c y h = grind (arith, ints)

pub above : (c y : ℤ) → y <ℤ c → Lies false y c
above c y h = grind (arith, ints)
