-- How far points of the tree of a family are apart.
use Rattle.std.proofs.Common.{arith, ◌≡◌, ℕ, ◌≢◌, ◌⊎◌, ◌+◌, ◌-◌, ◌*◌, ◌≤◌, min, refl, sym, ap, ◌∙◌, Bool, true, false, cond, inl, inr}
use Rattle.std.proofs.lemmas.Bool.{true≢false}
use Rattle.dpl_laminar.specs.Loads.{differ}
use Rattle.dpl_laminar.specs.Families.{Sets, load_of}
use Rattle.dpl_laminar.proofs.Sums.{sum_same, sum_most, sum_added, sum_zero}
use Rattle.dpl_pack.specs.Depths.{gap}
use Rattle.dpl_pack.specs.Nests.{inner_of}
use Rattle.dpl_pack.specs.Points.{Point, water, on, depth_in, apart}

-- ---- what a point is

-- whether it is open water
abbrev pub is_water : Point → Bool
is_water water = true
is_water (on t far) = false

-- its member, and 0 of open water
abbrev pub member_at : Point → ℕ
member_at water = 0
member_at (on t far) = t

-- how far out it is, and 0 of open water
abbrev pub far_at : Point → ℕ
far_at water = 0
far_at (on t far) = far

-- open water is on no way out
pub water_on : (t far : ℕ) → water ≡ on t far → ⊥
water_on t far e = true≢false (ap is_water e)

-- and nothing on one is open water
pub on_water : (t far : ℕ) → on t far ≡ water → ⊥
on_water t far e = true≢false (ap is_water (sym e))

-- a point is open water or not
pub water_or : (q : Point) → (q ≡ water) ⊎ (q ≢ water)
water_or water = inl refl
water_or (on t far) = inr (λ e. on_water t far e)

-- equal points have one member
pub same_member : (t u a b : ℕ) → on t a ≡ on u b → t ≡ u
same_member t u a b e = ap member_at e

-- and are equally far out
pub same_far : (t u a b : ℕ) → on t a ≡ on u b → a ≡ b
same_far t u a b e = ap far_at e

-- ---- a measure

gap_self : (a : ℕ) → gap a a ≡ 0
gap_self a = omega arith

-- a gap is the same from both sides
pub gap_back : (a b : ℕ) → gap a b ≡ gap b a
gap_back a b = omega arith

gap_over : (a b c : ℕ) → gap a c ≤ gap a b + gap b c
gap_over a b c = omega arith

-- a point is no distance from itself
pub apart_self : (f : Sets) (p : Point) → apart f p p ≡ 0
apart_self f p = sum_same (2 * f.size) _ (λ k. 0) (λ k l. gap_self (depth_in f p k)) ∙ sum_zero (2 * f.size)

-- two points are as far apart from either side
pub apart_back : (f : Sets) (p q : Point) → apart f p q ≡ apart f q p
apart_back f p q = sum_same (2 * f.size) _ _ (λ k l. gap_back (depth_in f p k) (depth_in f q k))

-- the triangle rule
pub apart_over : (f : Sets) (p q r : Point) → apart f p r ≤ apart f p q + apart f q r
apart_over f p q r =
    omega (
      arith,
      sum_added (2 * f.size) (λ k. gap (depth_in f p k) (depth_in f q k)) (λ k. gap (depth_in f q k) (depth_in f r k)),
      sum_most (2 * f.size) (λ k. gap (depth_in f p k) (depth_in f r k))
          (λ k. gap (depth_in f p k) (depth_in f q k) + gap (depth_in f q k) (depth_in f r k))
          (λ k l. gap_over (depth_in f p k) (depth_in f q k) (depth_in f r k)),
    )

-- ---- seats

-- a seat lies in no set that does not hold its member, and at the bottom of each other
pub seat_depth : (f : Sets) (t k : ℕ) → depth_in f (on t 0) k ≡ cond (f.holds k t) 0 (f.value k)
seat_depth f t k = ap (λ z. cond (f.holds k t) z (f.value k)) (bottom (f.value k) (inner_of f k t))
  where
    bottom : (v i : ℕ) → min v (0 - i) ≡ 0
    bottom v i = omega arith

seats_gap : (a b : Bool) (v : ℕ) → gap (cond a 0 v) (cond b 0 v) ≡ cond (differ a b) v 0
seats_gap true true v = omega arith
seats_gap true false v = omega arith
seats_gap false true v = omega arith
seats_gap false false v = omega arith

-- the load of two members is how far their seats are apart
pub load_apart : (f : Sets) (t u : ℕ) → load_of f t u ≡ apart f (on t 0) (on u 0)
load_apart f t u = sym (sum_same (2 * f.size) _ _ (λ k l.
    ap (λ z. gap z (depth_in f (on u 0) k)) (seat_depth f t k) ∙
    ap (λ z. gap (cond (f.holds k t) 0 (f.value k)) z) (seat_depth f u k) ∙
    seats_gap (f.holds k t) (f.holds k u) (f.value k)))
