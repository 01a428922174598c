-- Sound figures within the range of coordinates make rectangles and polygons.
use Rattle.std.proofs.Common.{◌≡◌, ◌⊎◌, inl, inr, ℕ, zero, suc, ◌+◌, ◌≤◌, ◌<◌, ◌^◌, max, ℤ, pos, Bool, true, false}
use Rattle.std.proofs.Common.{◌||◌, ◌&&◌, List, [], ◌∷◌, map, length, cond, Option, None, Some, IsSome, unsigned_abs}
use Rattle.std.proofs.Common.{refl, sym, ◌∙◌, ap, subst, arith, get_or}
use Rattle.std.proofs.Math.IntN.{negsuc, neg_ℤ}
use Rattle.std.proofs.lemmas.Int.{ints}
use Rattle.std.specs.Ordering.{int_eq}
use Rattle.std.proofs.lemmas.Cmp.{int_eq_equiv}
use Rattle.dpl_rules.specs.declared.figures.Extent.{Extent}
use Rattle.dpl_calls.specs.declared.figure.Corner.{Corner}
use Rattle.dpl_calls.specs.declared.figure.Figure.{Figure}
use Rattle.dpl_calls.specs.declared.figure.Figure.TheVariants.{Rectangle, Polygon}
use Rattle.dpl_calls.specs.Kept.{IsSound, IsLevel, AreLevel, HasLevelSides}
use Rattle.dpl_cell.specs.Places.{Corners}
use Rattle.dpl_cell.specs.Ranges.{IsInRange, IsStretch, IsRectangle, is_straight, are_straight, has_straight_sides}
use Rattle.dpl_cif.specs.Drawn.{drawn, corner_place, place_reach, places_reach, outline_reach, reach}
use Rattle.std.proofs.lemmas.Bool.{and_from}

abbrev pub corners : ℤ → ℤ → ℤ → ℤ → Corners
corners x1 y1 x2 y2 = record { x1 = x1; y1 = y1; x2 = x2; y2 = y2 }

pub in_range : (z : ℤ) → unsigned_abs z ≤ 2 ^ 30 → IsInRange z
in_range z h = record { low = omega (arith, ints, h); high = omega (arith, ints, h) }

pub rect_fits : (e : Extent) → IsSound (Rectangle e) → outline_reach (drawn (Rectangle e)) ≤ 2 ^ 30 → IsRectangle (corners e.x1 e.y1 e.x2 e.y2)
rect_fits e s h =
    let x1 : unsigned_abs e.x1 ≤ 2 ^ 30 = omega (arith, h) in
    let y1 : unsigned_abs e.y1 ≤ 2 ^ 30 = omega (arith, h) in
    let x2 : unsigned_abs e.x2 ≤ 2 ^ 30 = omega (arith, h) in
    let y2 : unsigned_abs e.y2 ≤ 2 ^ 30 = omega (arith, h) in record {
      columns = record { some = s.0; low = (in_range e.x1 x1).low; high = (in_range e.x2 x2).high };
      rows = record { some = s.1; low = (in_range e.y1 y1).low; high = (in_range e.y2 y2).high };
    }

pub place_fits : (c : Corner) → place_reach (corner_place c) ≤ 2 ^ 30 → IsInRange c.x × IsInRange c.y
place_fits c h =
    let x : unsigned_abs c.x ≤ 2 ^ 30 = omega (arith, h) in
    let y : unsigned_abs c.y ≤ 2 ^ 30 = omega (arith, h) in
    (in_range c.x x, in_range c.y y)

pub place_low : (cs : List Corner) (i : ℕ) (d : Corner) (n : ℕ) → i < length cs
    → places_reach (map corner_place cs) ≤ n → place_reach (corner_place (get_or cs i d)) ≤ n
place_low [] i d n l h = absurd (omega arith)
place_low (c ∷ cs) zero d n l h = omega (arith, h)
place_low (c ∷ cs) (suc i) d n l h = place_low cs i d n (omega arith) (omega (arith, h))

pub figure_low : (fs : List Figure) (i : ℕ) (d : Figure) (n : ℕ) → i < length fs → reach (map drawn fs) ≤ n → outline_reach (drawn (get_or fs i d)) ≤ n
figure_low [] i d n l h = absurd (omega arith)
figure_low (f ∷ fs) zero d n l h = omega (arith, h)
figure_low (f ∷ fs) (suc i) d n l h = figure_low fs i d n (omega arith) (omega (arith, h))

int_same : (a b : ℤ) → a ≡ b → int_eq a b ≡ true
int_same a b e = subst (λ (z : ℤ). int_eq a z ≡ true) e (int_eq_equiv.refl a)

level_straight : (p q : Corner) → IsLevel p q → is_straight (corner_place p) (corner_place q) ≡ true
level_straight p q (inl e) = by (int_eq p.x q.x) (int_eq p.y q.y) (int_same p.x q.x e)
  where
    by : (a b : Bool) → a ≡ true → (a || b) ≡ true
    by true b h = refl
    by false b h = cc
level_straight p q (inr e) = by (int_eq p.x q.x) (int_eq p.y q.y) (int_same p.y q.y e)
  where
    by : (a b : Bool) → b ≡ true → (a || b) ≡ true
    by true b h = refl
    by false b h = h

levels_straight : (p : Corner) (ps : List Corner) (last : Corner) → AreLevel p ps last
    → are_straight (corner_place p) (map corner_place ps) (corner_place last) ≡ true
levels_straight p [] last h = level_straight p last h
levels_straight p (q ∷ qs) last h = and_from (is_straight (corner_place p) (corner_place q))
    (are_straight (corner_place q) (map corner_place qs) (corner_place last)) (level_straight p q h.0)
    (levels_straight q qs last h.1)

pub sides_straight : (cs : List Corner) → HasLevelSides cs → has_straight_sides (map corner_place cs) ≡ true
sides_straight [] h = refl
sides_straight (c ∷ cs) h = levels_straight c cs c h

pub is_none : {A : Type 0} (o : Option A) → o ≡ None → IsSome o → ⊥
is_none None e h = cc
is_none (Some x) e h = cc

pub not_chosen : {A : Type 0} (o : Option A) (b : Bool) (x : A) → o ≡ None → o ≡ cond b (Some x) None → b ≡ true → ⊥
not_chosen None true x e f h = cc
not_chosen None false x e f h = cc
not_chosen (Some y) b x e f h = cc
