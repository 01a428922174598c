-- How large scaled numbers are.
use Rattle.std.proofs.Common.{◌≡◌, ℕ, zero, suc, ◌*◌, ◌/◌, ◌≤◌, ◌^◌, ℤ, pos, ◌*ℤ◌, refl, arith, unsigned_abs, true}
use Rattle.std.specs.Int.{int_min, int_max}
use Rattle.std.specs.Int.RustNames.{int_div}
use Rattle.std.proofs.lemmas.Grind.{common_steps}
use Rattle.std.proofs.lemmas.Int.{ints, unsigned_abs-mul}
use Rattle.std.proofs.Math.IntN.{negsuc, neg_ℤ}
use Rattle.std.proofs.Math.Nat.{div-le_self, mul-le-mul}
use Rattle.dpl_rules.specs.declared.command.Spot.{Spot}
use Rattle.dpl_rules.specs.declared.command.Scale.{Scale}
use Rattle.dpl_rules.specs.Bounds.{is_in_bounds, is_spot_in_bounds}
use Rattle.dpl_rules.specs.Figures.{IsScale, scaled, double, less, more}
use Rattle.dpl_calls.specs.Parts.{scaled_corner}
use Rattle.dpl_calls.specs.Placement.{IsCornerNear}
use Rattle.std.proofs.lemmas.Bool.{and_parts}

abs_neg : (x : ℕ) → unsigned_abs (neg_ℤ (pos x)) ≡ x
abs_neg zero = refl
abs_neg (suc x) = refl

quotient_less : (z : ℤ) (d : ℕ) → unsigned_abs (int_div z (pos d)) ≤ unsigned_abs z
quotient_less (pos n) d = div-le_self n d
quotient_less (negsuc n) d =
    let q : suc n / d ≤ suc n = div-le_self (suc n) d in
    let a : unsigned_abs (neg_ℤ (pos (suc n / d))) ≡ suc n / d = abs_neg (suc n / d) in
    omega arith

pub min_near : (a b : ℤ) → unsigned_abs a ≤ 10 ^ 12 → unsigned_abs b ≤ 10 ^ 12 → unsigned_abs (int_min a b) ≤ 10 ^ 12
min_near a b h k = grind (arith, ints)

pub max_near : (a b : ℤ) → unsigned_abs a ≤ 10 ^ 12 → unsigned_abs b ≤ 10 ^ 12 → unsigned_abs (int_max a b) ≤ 10 ^ 12
max_near a b h k = grind (arith, ints)

pub less_near : (z : ℤ) (by : ℕ) → unsigned_abs z ≤ 10 ^ 12 → by ≤ 10 ^ 12 → unsigned_abs (less z by) ≤ 3 * 10 ^ 12
unfolding less double
less_near z by h k = omega (arith, ints, h, k)

pub more_near : (z : ℤ) (by : ℕ) → unsigned_abs z ≤ 10 ^ 12 → by ≤ 10 ^ 12 → unsigned_abs (more z by) ≤ 3 * 10 ^ 12
unfolding more double
more_near z by h k = omega (arith, ints, h, k)

pub scaled_near : (s : Scale) (z : ℤ) → IsScale s → unsigned_abs z ≤ 3 * 10 ^ 12 → unsigned_abs (scaled s z) ≤ 2 ^ 82
unfolding scaled
scaled_near s z sc h =
    let a : ℤ = z *ℤ pos s.times in
    let q : unsigned_abs (int_div a (pos s.over)) ≤ unsigned_abs a = quotient_less a s.over in
    let m : unsigned_abs a ≡ unsigned_abs z * s.times = unsigned_abs-mul z (pos s.times) in
    let b : unsigned_abs z * s.times ≤ (3 * 10 ^ 12) * 10 ^ 12 = mul-le-mul h sc.times in
    omega arith

pub in_bounds_le : (n : ℕ) → is_in_bounds n ≡ true → n ≤ 10 ^ 12
in_bounds_le n h = grind (arith, common_steps)

double_near : (z : ℤ) → unsigned_abs z ≤ 10 ^ 12 → unsigned_abs (double z) ≤ 3 * 10 ^ 12
unfolding double
double_near z h = omega (arith, ints, h)

-- a point in bounds stays near in its scale
pub spot_near : (s : Scale) (p : Spot) → IsScale s → is_spot_in_bounds p ≡ true → IsCornerNear (scaled_corner s p)
spot_near s p sc h =
    let f = and_parts (is_in_bounds (unsigned_abs p.x)) (is_in_bounds (unsigned_abs p.y)) h in record {
      x = scaled_near s (double p.x) sc (double_near p.x (in_bounds_le (unsigned_abs p.x) f.0));
      y = scaled_near s (double p.y) sc (double_near p.y (in_bounds_le (unsigned_abs p.y) f.1));
    }
