-- How far points are from open water, and the room of ways.
use Rattle.std.proofs.Common.{arith, ◌≡◌, ◌≢◌, ℕ, zero, suc, ◌+◌, ◌-◌, ◌*◌, ◌%◌, ◌<◌, ◌≤◌, min, sym, ap, ◌∙◌}
use Rattle.std.proofs.Common.{cond, inl, inr, Some, subst, refl, ◌⊎◌}
use Rattle.std.specs.Prelude.{option_and_then}
use Rattle.std.proofs.lemmas.Bool.{cases_Bool, cond-true, cond-false}
use Rattle.std.proofs.lemmas.Option.{same_Some}
use Rattle.dpl_laminar.specs.Families.{Sets, IsFamily, climb, load_of}
use Rattle.dpl_laminar.proofs.Sums.{sum_same, sum_added}
use Rattle.dpl_laminar.proofs.Reached.{all_reached}
use Rattle.dpl_laminar.proofs.Numbers.{some_none, cases_Option}
use Rattle.dpl_pack.specs.Nests.{inner_of}
use Rattle.dpl_pack.specs.Depths.{gap}
use Rattle.dpl_pack.specs.Points.{Point, water, on, depth_in, apart, total_at}
use Rattle.dpl_pack.proofs.ClimbLemmas.{inner_by, total_by, single_by, parent_by, top_by}
use Rattle.dpl_pack.proofs.PointLemmas.{load_apart}

-- what is left of a set beyond a point of it
abbrev beyond_in : Sets → ℕ → ℕ → ℕ → ℕ
beyond_in f t far k = f.value k - min (f.value k) (far - inner_of f k t)

-- below each set on the way out of a member there is as much beyond a point as the sets have without it
passed : (f : Sets) → IsFamily f → (t far c k : ℕ) → t < f.size → climb f t c ≡ Some k
    → inner_by f (beyond_in f t far) k t ≡ inner_of f k t - far
passed f fam t far zero k h at =
    let e : t ≡ k = same_Some _ _ at in
    subst (λ z. inner_by f (beyond_in f t far) z t ≡ inner_of f z t - far) e
    (omega (arith, single_by f fam (beyond_in f t far) t h, single_by f fam f.value t h))
passed f fam t far (suc c) k h at = elim (cases_Option (climb f t c)) [
  | inl none ↦ some_none (climb f t (suc c)) k at (ap (option_and_then f.parent) none)
  | inr some ↦
      let up : f.parent some.0 ≡ Some k = sym (ap (option_and_then f.parent) some.1) ∙ at in
      omega (
        arith,
        passed f fam t far c some.0 h some.1,
        parent_by f fam (beyond_in f t far) t c some.0 k h some.1 up,
        parent_by f fam f.value t c some.0 k h some.1 up,
      )
]

-- the top of a member is on the way out of it
top_climbed : (f : Sets) → IsFamily f → (t : ℕ) → t < f.size → (c : ℕ) × (climb f t c ≡ Some (f.top t))
top_climbed f fam t h =
    let r = all_reached f fam (f.top t) t (fam.laminar.tops.top_range t h) h (fam.laminar.tops.top_live t h) (fam.laminar.tops.top_holds t h) in
    (r.0, r.2)

-- what the top has and what is inside it is all
pub top_total : (f : Sets) → IsFamily f → (t : ℕ) → t < f.size → inner_of f (f.top t) t + f.value (f.top t) ≡ total_at f t
top_total f fam t h =
    let r = top_climbed f fam t h in
    omega (arith, top_by f fam f.value t r.0 (f.top t) h r.1 (fam.laminar.tops.top_parent t h))

beyond_all : (f : Sets) → IsFamily f → (t far : ℕ) → t < f.size → total_by f (beyond_in f t far) t ≡ total_at f t - far
beyond_all f fam t far h =
    let r = top_climbed f fam t h in
    omega (
      arith,
      top_by f fam (beyond_in f t far) t r.0 (f.top t) h r.1 (fam.laminar.tops.top_parent t h),
      top_total f fam t h,
      passed f fam t far r.0 (f.top t) h r.1,
    )

-- a point is as far from open water as it is below the total of its member
pub water_apart : (f : Sets) → IsFamily f → (t far : ℕ) → t < f.size → apart f (on t far) water ≡ total_at f t - far
water_apart f fam t far h = sum_same (2 * f.size) (λ k. gap (depth_in f (on t far) k) (f.value k))
    (λ k. cond (f.holds k t) (beyond_in f t far k) 0) (λ k hk. elim (cases_Bool (f.holds k t)) [
      | inl y ↦ omega (
        arith,
        cond-true {A = ℕ} (f.holds k t) (min (f.value k) (far - inner_of f k t)) (f.value k) y,
        cond-true (f.holds k t) (beyond_in f t far k) 0 y,
      )
      | inr y ↦ omega (
        arith,
        cond-false {A = ℕ} (f.holds k t) (min (f.value k) (far - inner_of f k t)) (f.value k) y,
        cond-false (f.holds k t) (beyond_in f t far k) 0 y,
      )
    ]) ∙ beyond_all f fam t far h

-- where no set holds both members, the way from one point to the other leads through open water
pub through_water : (f : Sets) → IsFamily f → (t far u far' : ℕ) → t < f.size → u < f.size → f.top t ≢ f.top u
    → apart f (on t far) (on u far') ≡ apart f (on t far) water + apart f (on u far') water
through_water f fam t far u far' ht hu ne =
    let one : ℕ → ℕ = λ k. gap (depth_in f (on t far) k) (f.value k) in
    let two : ℕ → ℕ = λ k. gap (depth_in f (on u far') k) (f.value k) in
    sum_same (2 * f.size) (λ k. gap (depth_in f (on t far) k) (depth_in f (on u far') k)) (λ k. one k + two k)
    (λ k hk. elim (cases_Bool (f.holds k t)) [
      | inr y ↦
          let a = cond-false {A = ℕ} (f.holds k t) (min (f.value k) (far - inner_of f k t)) (f.value k) y in
          omega (arith, a)
      | inl y ↦ elim (cases_Bool (f.holds k u)) [
        | inl z ↦ absurd (ne (fam.laminar.tops.top_shared k t u hk ht hu y z))
        | inr z ↦
            let b = cond-false {A = ℕ} (f.holds k u) (min (f.value k) (far' - inner_of f k u)) (f.value k) z in
            omega (arith, b, least (f.value k) (far - inner_of f k t), cond-true {A = ℕ} (f.holds k t) (min (f.value k) (far - inner_of f k t)) (f.value k) y)
      ]
    ]) ∙ sum_added (2 * f.size) one two
  where
    least : (v x : ℕ) → min v x ≤ v
    least v x = omega arith

-- Room: two points of different tops are as far apart as both are below the totals of their members.
pub tops_apart : (f : Sets) → IsFamily f → (t far u far' : ℕ) → t < f.size → u < f.size → f.top t ≢ f.top u
    → apart f (on t far) (on u far') ≡ (total_at f t - far) + (total_at f u - far')
tops_apart f fam t far u far' ht hu ne =
    omega (arith, through_water f fam t far u far' ht hu ne, water_apart f fam t far ht, water_apart f fam u far' hu)

-- the load of members of different tops is their totals together
pub tops_load : (f : Sets) → IsFamily f → (t u : ℕ) → t < f.size → u < f.size → f.top t ≢ f.top u
    → load_of f t u ≡ total_at f t + total_at f u
tops_load f fam t u ht hu ne = omega (arith, load_apart f t u, tops_apart f fam t 0 u 0 ht hu ne)

-- Tight: where a way has no room left, it and what leads to its faces are together as long as the load.
pub way_tight : (f : Sets) → IsFamily f → (t far u far' long : ℕ) → t < f.size → u < f.size → f.top t ≢ f.top u
    → far ≤ total_at f t → far' ≤ total_at f u → apart f (on t far) (on u far') ≡ long
    → far + long + far' ≡ load_of f t u
way_tight f fam t far u far' long ht hu ne a b e = omega (arith, tops_load f fam t u ht hu ne, tops_apart f fam t far u far' ht hu ne, a, b, e)

-- The same of a face in open water: with the way a top comes to it just at its shore.
pub shore_tight : (f : Sets) → IsFamily f → (t far long : ℕ) → t < f.size → far ≤ total_at f t
    → apart f (on t far) water ≡ long → far + long ≡ total_at f t
shore_tight f fam t far long ht a e = omega (arith, water_apart f fam t far ht, a, e)

-- Half: of a way between two faces on members whose totals have one parity, half of the room is whole.
pub half_whole : (f : Sets) → IsFamily f → (t far u far' long : ℕ) → t < f.size → u < f.size → f.top t ≢ f.top u
    → far ≤ total_at f t → far' ≤ total_at f u → far % 2 ≡ 0 → far' % 2 ≡ 0 → long % 2 ≡ 0
    → total_at f t % 2 ≡ total_at f u % 2 → apart f (on t far) (on u far') ≤ long
    → (long - apart f (on t far) (on u far')) % 2 ≡ 0
half_whole f fam t far u far' long ht hu ne a b ea eb el p h =
    omega (arith, tops_apart f fam t far u far' ht hu ne, a, b, ea, eb, el, p, h)

-- a point is open water, or on the way of a member
pub cases_point : (p : Point) → (p ≡ water) ⊎ ((t : ℕ) × ((far : ℕ) × (p ≡ on t far)))
cases_point water = inl refl
cases_point (on t far) = inr (t, (far, refl))
