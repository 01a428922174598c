-- A placement of a placement is the placement of both.
use Rattle.std.proofs.Common.{◌≡◌, Bool, true, false, cond, ◌==◌, ℤ, pos, ◌+ℤ◌, List, [], ◌∷◌, ◌++◌, map, refl, sym, ◌∙◌, ap, arith, unsigned_abs}
use Rattle.std.specs.Prelude.{int_lt}
use Rattle.std.specs.Int.{int_min, int_max}
use Rattle.std.proofs.Math.IntN.{neg_ℤ}
use Rattle.std.proofs.lemmas.Int.{by_lt_z, ints, clamps}
use Rattle.dpl_rules.specs.declared.command.Spot.{Spot}
use Rattle.dpl_rules.specs.declared.command.Scale.{Scale}
use Rattle.dpl_rules.specs.declared.command.Transformation.{Transformation}
use Rattle.dpl_rules.specs.declared.command.Transformation.TheVariants.{Shift, MirrorX, MirrorY, Rotate}
use Rattle.dpl_rules.specs.declared.figures.Extent.{Extent}
use Rattle.dpl_calls.specs.declared.figure.Corner.{Corner}
use Rattle.dpl_calls.specs.declared.figure.Figure.{Figure}
use Rattle.dpl_calls.specs.declared.figure.Figure.TheVariants.{Rectangle, Polygon}
use Rattle.dpl_calls.specs.Parts.{corner, turned, transformed, transformed_by}
use Rattle.dpl_calls.specs.Unfolding.{extent_between, placed}

pub points_joined : (s : Scale) (inner outer : List Transformation) (c : Corner)
    → transformed_by s (inner ++ outer) c ≡ transformed_by s outer (transformed_by s inner c)
points_joined s [] outer c = refl
points_joined s (t ∷ ts) outer c = points_joined s ts outer (transformed s t c)

-- ---- rectangles go to the rectangles between the same corners

-- the corners of the least rectangle of two points go where it goes
abbrev IsBoxed : (Corner → Corner) → Type 0
IsBoxed f = (a b : Corner) → extent_between (f (corner (int_min a.x b.x) (int_min a.y b.y))) (f (corner (int_max a.x b.x) (int_max a.y b.y)))
    ≡ extent_between (f a) (f b)

ends : (P : ℤ → ℤ → Type 0) (a b : ℤ) → P a b → P b a → P (int_min a b) (int_max a b)
ends P a b p q = by_lt_z b a
    (λ h. let e : int_min a b ≡ b = omega (arith, ints, clamps) in let f : int_max a b ≡ a = omega (arith, ints, clamps) in rw (e, f) q)
    (λ h. let e : int_min a b ≡ a = omega (arith, ints, clamps) in let f : int_max a b ≡ b = omega (arith, ints, clamps) in rw (e, f) p)

min_turns : (a b : ℤ) → int_min b a ≡ int_min a b
min_turns a b = omega (arith, ints, clamps)

max_turns : (a b : ℤ) → int_max b a ≡ int_max a b
max_turns a b = omega (arith, ints, clamps)

min_ends : (u : ℤ → ℤ) (a b : ℤ) → int_min (u (int_min a b)) (u (int_max a b)) ≡ int_min (u a) (u b)
min_ends u a b = ends (λ x y. int_min (u x) (u y) ≡ int_min (u a) (u b)) a b refl (min_turns (u a) (u b))

max_ends : (u : ℤ → ℤ) (a b : ℤ) → int_max (u (int_min a b)) (u (int_max a b)) ≡ int_max (u a) (u b)
max_ends u a b = ends (λ x y. int_max (u x) (u y) ≡ int_max (u a) (u b)) a b refl (max_turns (u a) (u b))

same_extent : (a b c d x y z w : ℤ) → a ≡ x → b ≡ y → c ≡ z → d ≡ w
    → ◌≡◌ {A = Extent} (record { x1 = a; y1 = b; x2 = c; y2 = d }) (record { x1 = x; y1 = y; x2 = z; y2 = w })
same_extent a b c d x y z w e f g h = rw (e, f, g, h) refl

-- a map of each coordinate alone
each : (u v : ℤ → ℤ) → IsBoxed (λ c. corner (u c.x) (v c.y))
each u v a b = same_extent _ _ _ _ _ _ _ _ (min_ends u a.x b.x) (min_ends v a.y b.y) (max_ends u a.x b.x) (max_ends v a.y b.y)

-- the same with the coordinates exchanged
crossed : (u v : ℤ → ℤ) → IsBoxed (λ c. corner (u c.y) (v c.x))
crossed u v a b = same_extent _ _ _ _ _ _ _ _ (min_ends u a.y b.y) (min_ends v a.x b.x) (max_ends u a.y b.y) (max_ends v a.x b.x)

-- where the corners of a rectangle go
abbrev gone : (Corner → Corner) → Extent → Extent
gone f e = extent_between (f (corner e.x1 e.y1)) (f (corner e.x2 e.y2))

composed : (f h : Corner → Corner) → IsBoxed f → IsBoxed h → IsBoxed (λ c. f (h c))
composed f h F H a b =
    let low = h (corner (int_min a.x b.x) (int_min a.y b.y)) in
    let high = h (corner (int_max a.x b.x) (int_max a.y b.y)) in
    sym (F low high) ∙ (ap (λ (e : Extent). gone f e) (H a b) ∙ F (h a) (h b))

turned_boxed : (to : Spot) → IsBoxed (turned to)
turned_boxed to = by (unsigned_abs to.y == 0) (int_lt to.x (pos 0)) (int_lt to.y (pos 0))
  where
    by : (p q r : Bool) → IsBoxed (λ c. cond p (cond q (corner (neg_ℤ c.x) (neg_ℤ c.y)) c) (cond r (corner c.y (neg_ℤ c.x)) (corner (neg_ℤ c.y) c.x)))
    by true true r = each (λ z. neg_ℤ z) (λ z. neg_ℤ z)
    by true false r = each (λ z. z) (λ z. z)
    by false q true = crossed (λ z. z) (λ z. neg_ℤ z)
    by false q false = crossed (λ z. neg_ℤ z) (λ z. z)

transformed_boxed : (s : Scale) (t : Transformation) → IsBoxed (transformed s t)
transformed_boxed s (Shift by) = each (λ z. z +ℤ _) (λ z. z +ℤ _)
transformed_boxed s MirrorX = each (λ z. neg_ℤ z) (λ z. z)
transformed_boxed s MirrorY = each (λ z. z) (λ z. neg_ℤ z)
transformed_boxed s (Rotate to) = turned_boxed to

transformations_boxed : (s : Scale) (ts : List Transformation) → IsBoxed (transformed_by s ts)
transformations_boxed s [] = each (λ z. z) (λ z. z)
transformations_boxed s (t ∷ ts) = composed (transformed_by s ts) (transformed s t) (transformations_boxed s ts) (transformed_boxed s t)

-- ---- figures

corners_joined : (s : Scale) (inner outer : List Transformation) (cs : List Corner)
    → map (transformed_by s (inner ++ outer)) cs ≡ map (transformed_by s outer) (map (transformed_by s inner) cs)
corners_joined s inner outer [] = refl
corners_joined s inner outer (c ∷ cs) = rw (points_joined s inner outer c, corners_joined s inner outer cs) refl

pub figures_joined : (s : Scale) (inner outer : List Transformation) (figure : Figure)
    → placed (transformed_by s (inner ++ outer)) figure ≡ placed (transformed_by s outer) (placed (transformed_by s inner) figure)
figures_joined s inner outer (Rectangle e) =
    let p = corner e.x1 e.y1 in
    let q = corner e.x2 e.y2 in
    rw (points_joined s inner outer p, points_joined s inner outer q)
    (ap (λ (x : Extent). Rectangle x) (sym (transformations_boxed s outer (transformed_by s inner p)
    (transformed_by s inner q))))
figures_joined s inner outer (Polygon corners) = ap (λ (cs : List Corner). Polygon cs) (corners_joined s inner outer corners)
