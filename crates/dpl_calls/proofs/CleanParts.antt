-- What a command that breaks no rule puts in is kept to.
use Rattle.std.proofs.Common.{◌≡◌, ◌⊎◌, inl, inr, ℕ, ◌+◌, ◌≤◌, ◌<◌, ◌^◌, ℤ, pos, ◌+ℤ◌, ◌<ℤ◌, unsigned_abs, Bool, true}
use Rattle.std.proofs.Common.{false, not, cond, ◌&&◌, ◌||◌, ◌==◌, eqb, List, [], ◌∷◌, map, Option, None, Some, Result}
use Rattle.std.proofs.Common.{Ok, Err, All, refl, ap, arith}
use Rattle.std.specs.List.{list_all}
use Rattle.std.specs.Int.{int_min, int_max}
use Rattle.std.proofs.Math.IntN.{negsuc}
use Rattle.std.proofs.lemmas.Int.{ints}
use Rattle.std.proofs.lemmas.Grind.{common_steps}
use Rattle.std.proofs.lemmas.List.Elements.{All-append, All-nil, All-cons}
use Rattle.dpl_lex.specs.declared.types.Ending.{Ending}
use Rattle.dpl_rules.specs.declared.command.Spot.{Spot}
use Rattle.dpl_rules.specs.declared.command.BoxForm.{BoxForm}
use Rattle.dpl_rules.specs.declared.command.Scale.{Scale}
use Rattle.dpl_rules.specs.declared.command.Command.{Command}
use Rattle.dpl_rules.specs.declared.command.Command.TheVariants.{Idle, Polygon, Box, Wire, Flash, Layer, Start, Finish, Delete, Call}
use Rattle.dpl_rules.specs.declared.figures.Extent.{Extent}
use Rattle.dpl_rules.specs.declared.scope.Scope.{Scope}
use Rattle.dpl_rules.specs.declared.what.What.{What}
use Rattle.dpl_rules.specs.declared.what.What.TheVariants.{Nest, Twice, Angle, Layerless, Slant, OffGrid, Round, Delete as DeleteRule, Scale as ScaleRule}
use Rattle.dpl_rules.specs.Bounds.{is_in_bounds, is_spot_in_bounds, is_command_in_bounds}
use Rattle.dpl_rules.specs.Figures.{IsScale, double, less, more, around, box_extent, leg, legs, legs_from, scaled}
use Rattle.dpl_rules.specs.Figures.{is_on_grid, is_extent_on_grid, eq_z, is_slanted, slants_from, slants_round, last_spot}
use Rattle.dpl_rules.specs.Rules.{Fault, rule_fault, or_later, broken_rule, breaks_nest, breaks_twice, breaks_angle}
use Rattle.dpl_rules.specs.Rules.{breaks_layerless, breaks_slant, breaks_off_grid, breaks_round, breaks_delete}
use Rattle.dpl_rules.specs.Rules.{breaks_scale, first_broken, after, with_start, is_chosen}
use Rattle.dpl_calls.specs.declared.figure.Figure.TheVariants as figure
use Rattle.dpl_calls.specs.Parts.{Part, is_same, scaled_corner, rectangle, parts_of, parts_from}
use Rattle.dpl_calls.specs.Put.{where_true, scaled_extent}
use Rattle.dpl_calls.specs.Kept.{IsLevel, AreLevel, HasLevelSides, IsSound, IsPartKept}
use Rattle.dpl_calls.proofs.Cases.{of_eq}
use Rattle.dpl_calls.proofs.Nearness.{in_bounds_le}
use Rattle.dpl_calls.proofs.FarParts.{path_near, leg_near, box_near}
use Rattle.dpl_calls.proofs.Few.{AllFit}
use Rattle.dpl_calls.proofs.Rigid.{transformations_rigid}
use Rattle.dpl_calls.proofs.Scaling.{scaled_apart}
use Rattle.std.proofs.lemmas.Bool.{and_parts, not-false, not-true, or_parts}

-- ---- which rules were tried

-- no rule of nine is broken
nine : (a b c d e f g h i : Bool) (w1 w2 w3 w4 w5 w6 w7 w8 w9 : What)
    → first_broken ((a, w1) ∷ (b, w2) ∷ (c, w3) ∷ (d, w4) ∷ (e, w5) ∷ (f, w6) ∷ (g, w7) ∷ (h, w8) ∷ (i, w9) ∷ []) ≡ None
    → (e ≡ false) × (f ≡ false) × (i ≡ false)
nine true b c d e f g h i w1 w2 w3 w4 w5 w6 w7 w8 w9 n = cc
nine false true c d e f g h i w1 w2 w3 w4 w5 w6 w7 w8 w9 n = cc
nine false false true d e f g h i w1 w2 w3 w4 w5 w6 w7 w8 w9 n = cc
nine false false false true e f g h i w1 w2 w3 w4 w5 w6 w7 w8 w9 n = cc
nine false false false false true f g h i w1 w2 w3 w4 w5 w6 w7 w8 w9 n = cc
nine false false false false false true g h i w1 w2 w3 w4 w5 w6 w7 w8 w9 n = cc
nine false false false false false false true h i w1 w2 w3 w4 w5 w6 w7 w8 w9 n = cc
nine false false false false false false false true i w1 w2 w3 w4 w5 w6 w7 w8 w9 n = cc
nine false false false false false false false false true w1 w2 w3 w4 w5 w6 w7 w8 w9 n = cc
nine false false false false false false false false false w1 w2 w3 w4 w5 w6 w7 w8 w9 n = (refl, refl, refl)

pub record Clean (s : Scope) (c : Command) : Type 0 where
  pub slant : breaks_slant s c ≡ false
  pub grid : breaks_off_grid s c ≡ false
  pub scale : breaks_scale c ≡ false

pub clean : (s : Scope) (twice : Bool) (c : Command) → broken_rule s twice c ≡ None → Clean s c
clean s twice c h =
    let n = nine (breaks_nest s c) twice (breaks_angle s c) (breaks_layerless s c) (breaks_slant s c)
    (breaks_off_grid s c) (breaks_round s c) (breaks_delete c) (breaks_scale c) Nest Twice Angle Layerless Slant
    OffGrid Round DeleteRule ScaleRule h in
    record { slant = n.0; grid = n.1; scale = n.2 }

-- ---- corners stay apart

less_more : (z : ℤ) (n : ℕ) → 0 < n → less z n <ℤ more z n
unfolding less more double
less_more z n h = omega (arith, ints, h)

legs_apart : (a b : ℤ) (n : ℕ) → 0 < n → less (int_min a b) n <ℤ more (int_max a b) n
unfolding less more double
legs_apart a b n h =
    let le : int_min a b <ℤ (int_max a b +ℤ pos 1) = grind (arith, ints) in
    omega (arith, ints, h, le)

extent_sound : (s : Scale) (e : Extent) → IsScale s → is_extent_on_grid s e ≡ true → e.x1 <ℤ e.x2
    → e.y1 <ℤ e.y2 → IsSound (figure.Rectangle (scaled_extent s e))
extent_sound s e sc h x y =
    let f = and_parts (is_on_grid s e.x1 && is_on_grid s e.y1 && is_on_grid s e.x2) (is_on_grid s e.y2) h in
    let g = and_parts (is_on_grid s e.x1 && is_on_grid s e.y1) (is_on_grid s e.x2) f.0 in
    let i = and_parts (is_on_grid s e.x1) (is_on_grid s e.y1) g.0 in
    (scaled_apart s e.x1 e.x2 sc.some i.0 g.1 x, scaled_apart s e.y1 e.y2 sc.some i.1 f.1 y)

pub positive : (n : ℕ) → (n == 0) ≡ false → 0 < n
positive n h = grind (arith, common_steps)

box_apart : (b : BoxForm) → 0 < b.length → 0 < b.width → ((box_extent b).x1 <ℤ (box_extent b).x2) × ((box_extent b).y1 <ℤ (box_extent b).y2)
box_apart b l w = by (unsigned_abs b.direction.y == 0)
  where
    by : (t : Bool) → let e : Extent = cond t (around b.centre.x b.length b.centre.y b.width)
        (around b.centre.x b.width b.centre.y b.length) in (e.x1 <ℤ e.x2) × (e.y1 <ℤ e.y2)
    by true = (less_more b.centre.x b.length l, less_more b.centre.y b.width w)
    by false = (less_more b.centre.x b.width w, less_more b.centre.y b.length l)

-- ---- sides stay level and upright

eq_of : (a b : ℤ) → eq_z a b ≡ true → a ≡ b
eq_of (pos a) (pos b) h = ap pos (of_eq a b h)
eq_of (pos a) (negsuc b) h = cc
eq_of (negsuc a) (pos b) h = cc
eq_of (negsuc a) (negsuc b) h = ap negsuc (of_eq a b h)

and_false : (a b : Bool) → (not a && not b) ≡ false → (a ≡ true) ⊎ (b ≡ true)
and_false true b h = inl refl
and_false false true h = inr refl
and_false false false h = cc

level : (s : Scale) (p q : Spot) → is_slanted p q ≡ false → IsLevel (scaled_corner s p) (scaled_corner s q)
level s p q h = elim (and_false (eq_z p.x q.x) (eq_z p.y q.y) h) [
  | inl e ↦ inl (ap (λ (z : ℤ). scaled s (double z)) (eq_of p.x q.x e))
  | inr e ↦ inr (ap (λ (z : ℤ). scaled s (double z)) (eq_of p.y q.y e))
]

levels : (s : Scale) (p : Spot) (ps : List Spot) (last : Spot) → slants_from p ps ≡ false
    → is_slanted (last_spot p ps) last ≡ false
    → AreLevel (scaled_corner s p) (map (scaled_corner s) ps) (scaled_corner s last)
levels s p [] last h k = level s p last k
levels s p (q ∷ qs) last h k =
    let f = or_parts (is_slanted p q) (slants_from q qs) h in
    (level s p q f.0, levels s q qs last f.1 k)

polygon_sound : (s : Scale) (path : List Spot) → slants_round path ≡ false → HasLevelSides (map (scaled_corner s) path)
polygon_sound s [] h = tt
polygon_sound s (p ∷ ps) h =
    let f = or_parts (slants_from p ps) (is_slanted (last_spot p ps) p) h in
    levels s p ps p f.0 f.1

-- ---- the parts of a command

where_kept : (b : Bool) (ps : List Part) → (b ≡ true → All IsPartKept ps) → All IsPartKept (where_true b ps)
where_kept true ps h = h refl
where_kept false ps h = All-nil IsPartKept

one : (p : Part) → IsPartKept p → All IsPartKept (p ∷ [])
one p h = All-cons IsPartKept p [] h (All-nil IsPartKept)

leg_kept : (s : Scale) (w : ℕ) (p q : Spot) → IsScale s → w ≤ 10 ^ 12 → 0 < w → is_spot_in_bounds p ≡ true
    → is_spot_in_bounds q ≡ true → is_extent_on_grid s (leg w p q) ≡ true
    → IsPartKept (rectangle s (leg w p q))
leg_kept s w p q sc hw some hp hq grid = (
  leg_near s w p q sc hw hp hq,
  extent_sound s (leg w p q) sc grid (legs_apart p.x q.x w some) (legs_apart p.y q.y w some),
)

legs_kept : (s : Scale) (w : ℕ) (p : Spot) (ps : List Spot) → IsScale s → w ≤ 10 ^ 12 → 0 < w
    → is_spot_in_bounds p ≡ true → list_all is_spot_in_bounds ps ≡ true
    → list_all (is_extent_on_grid s) (legs_from w p ps) ≡ true
    → All IsPartKept (map (rectangle s) (legs_from w p ps))
legs_kept s w p [] sc hw some hp h grid = All-nil IsPartKept
legs_kept s w p (q ∷ qs) sc hw some hp h grid =
    let f = and_parts (is_spot_in_bounds q) (list_all is_spot_in_bounds qs) h in
    let k = and_parts (is_extent_on_grid s (leg w p q)) (list_all (is_extent_on_grid s) (legs_from w q qs)) grid in
    All-cons IsPartKept (rectangle s (leg w p q)) (map (rectangle s) (legs_from w q qs))
    (leg_kept s w p q sc hw some hp f.0 k.0) (legs_kept s w q qs sc hw some f.0 f.1 k.1)

wire_kept : (s : Scale) (w : ℕ) (ps : List Spot) → IsScale s → w ≤ 10 ^ 12 → 0 < w
    → list_all is_spot_in_bounds ps ≡ true → list_all (is_extent_on_grid s) (legs w ps) ≡ true
    → All IsPartKept (map (rectangle s) (legs w ps))
wire_kept s w [] sc hw some h grid = All-nil IsPartKept
wire_kept s w (p ∷ []) sc hw some h grid =
    let f = and_parts (is_spot_in_bounds p) true h in
    let k = and_parts (is_extent_on_grid s (leg w p p)) true grid in
    one (rectangle s (leg w p p)) (leg_kept s w p p sc hw some f.0 f.0 k.0)
wire_kept s w (p ∷ q ∷ qs) sc hw some h grid =
    let f = and_parts (is_spot_in_bounds p) (list_all is_spot_in_bounds (q ∷ qs)) h in
    legs_kept s w p (q ∷ qs) sc hw some f.0 f.1 grid

on_grid : (chosen off : Bool) → (chosen && not off) ≡ false → chosen ≡ true → off ≡ true
on_grid true off h k = not-false off h
on_grid false off h k = cc

no_slant : (chosen slant : Bool) → (chosen && slant) ≡ false → chosen ≡ true → slant ≡ false
no_slant true slant h k = h
no_slant false slant h k = cc

pub parts_kept : (s : Scope) (c : Command) → IsScale s.scale → is_command_in_bounds c ≡ true → Clean s c → All IsPartKept (parts_of s c)
parts_kept s Idle sc h k = All-nil IsPartKept
parts_kept s (Polygon path) sc h k = where_kept (is_chosen s.layer) _
    (λ on. one _ (
      path_near s.scale path sc h,
      polygon_sound s.scale path
          (no_slant (is_chosen s.layer) (slants_round path) k.slant on),
    ))
parts_kept s (Box b) sc h k = where_kept (is_chosen s.layer && not (b.length == 0 || b.width == 0)) _ (λ on.
    let f = and_parts (is_chosen s.layer) (not (b.length == 0 || b.width == 0)) on in
    let z = or_parts (b.length == 0) (b.width == 0) (not-true (b.length == 0 || b.width == 0) f.1) in
    let a = box_apart b (positive b.length z.0) (positive b.width z.1) in
    one _ (
      box_near s.scale b sc h,
      extent_sound s.scale (box_extent b) sc
          (on_grid (is_chosen s.layer) (is_extent_on_grid s.scale (box_extent b)) k.grid f.0) a.0 a.1,
    ))
parts_kept s (Wire width path) sc h k = where_kept (is_chosen s.layer && not (width == 0)) _ (λ on.
    let f = and_parts (is_chosen s.layer) (not (width == 0)) on in
    let g = and_parts (is_in_bounds width) (list_all is_spot_in_bounds path) h in
    wire_kept s.scale width path sc (in_bounds_le width g.0) (positive width (not-true (width == 0) f.1)) g.1
    (on_grid (is_chosen s.layer) (list_all (is_extent_on_grid s.scale) (legs width path)) k.grid f.0))
parts_kept s (Flash d p) sc h k = All-nil IsPartKept
parts_kept s (Layer name) sc h k = All-nil IsPartKept
parts_kept s (Start n scale) sc h k = All-nil IsPartKept
parts_kept s Finish sc h k = All-nil IsPartKept
parts_kept s (Delete n) sc h k = All-nil IsPartKept
parts_kept s (Call n ts) sc h k = one _ (transformations_rigid s.scale ts)

start_scale : (n : ℕ) (scale : Scale) → (eqb scale.times 0 || eqb scale.over 0) ≡ false → is_command_in_bounds (Start n scale) ≡ true → IsScale scale
start_scale n scale z h =
    let f = and_parts (is_in_bounds n && is_in_bounds scale.times) (is_in_bounds scale.over) h in
    let g = and_parts (is_in_bounds n) (is_in_bounds scale.times) f.0 in
    let q = or_parts (eqb scale.times 0) (eqb scale.over 0) z in
    record { some = positive scale.times q.0; times = in_bounds_le scale.times g.1; over = positive scale.over q.1 }

after_scale : (chosen : List ℕ) (s : Scope) (c : Command) → Clean s c → is_command_in_bounds c ≡ true → IsScale s.scale → IsScale (after chosen s c).scale
after_scale chosen s (Start n scale) k h sc = start_scale n scale k.scale h
after_scale chosen s Finish k h sc = record { some = omega arith; times = omega arith; over = omega arith }
after_scale chosen s (Layer name) k h sc = sc
after_scale chosen s c k h sc = sc

or_none : (at : ℕ) (o : Option What) (later : Option Fault) → or_later at o later ≡ None → (o ≡ None) × (later ≡ None)
or_none at None later h = (refl, h)
or_none at (Some w) later h = cc

-- so are the parts of a layout without a broken rule
pub bodies_kept : (chosen : List ℕ) (s : Scope) (seen : List ℕ) (at : ℕ) (rest : List (Result Command What)) (ending : Ending)
    → rule_fault chosen s seen at rest ending ≡ None → IsScale s.scale → AllFit rest → (place : Option ℕ)
    → All IsPartKept (parts_from chosen s rest place)
bodies_kept chosen s seen at [] ending r sc fit place = All-nil IsPartKept
bodies_kept chosen s seen at (Err w ∷ rest) ending r sc fit place = cc
bodies_kept chosen s seen at (Ok c ∷ rest) ending r sc fit place =
    let split = or_none at (broken_rule s (breaks_twice seen c) c) (rule_fault chosen (after chosen s c) (with_start c seen) (at + 1) rest ending) r in
    let k : Clean s c = clean s (breaks_twice seen c) c split.0 in
    All-append IsPartKept (where_true (is_same place s.definition) (parts_of s c)) (parts_from chosen (after chosen s c) rest place)
    (where_kept (is_same place s.definition) (parts_of s c) (λ on. parts_kept s c sc fit.0 k))
    (bodies_kept chosen (after chosen s c) (with_start c seen) (at + 1) rest ending split.1 (after_scale chosen s c k fit.0 sc) fit.2 place)
