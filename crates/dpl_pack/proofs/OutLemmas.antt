-- How far two points are apart, by the ways of their members out to open water.
use Rattle.std.proofs.Common.{arith, ◌≡◌, ℕ, suc, ◌+◌, ◌-◌, ◌*◌, ◌<◌, ◌≤◌, ◌&&◌, min, refl, sym, ap, ◌∙◌}
use Rattle.std.proofs.Common.{Bool, true, false, cond, inl, inr, Some, None}
use Rattle.std.specs.Prelude.{option_and_then}
use Rattle.std.proofs.lemmas.Bool.{cases_Bool, cond-true, cond-false}
use Rattle.dpl_laminar.specs.Families.{Sets, IsFamily, climb, total_of}
use Rattle.dpl_laminar.proofs.Sums.{sum_same, sum_added, sum_most}
use Rattle.dpl_pack.specs.Nests.{inner_of, comes_before}
use Rattle.dpl_pack.specs.Depths.{gap}
use Rattle.dpl_pack.specs.Points.{on, depth_in, apart, total_at}
use Rattle.dpl_pack.specs.Climbs.{weight_in, walked}
use Rattle.dpl_pack.proofs.NestLemmas.{inner_within, inner_total}
use Rattle.dpl_pack.proofs.ClimbLemmas.{IsClimbed, climb_is, inner_by, total_by, single_by, parent_by, top_by, few_steps}
use Rattle.dpl_pack.proofs.BeyondLemmas.{totals_beyond}
use Rattle.dpl_pack.proofs.FoldLemmas.{depth_most_in}
use Rattle.dpl_pack.proofs.PointLemmas.{gap_back}

-- ---- two ways out

two_sides : (hp hq : Bool) (x : ℕ) → (hp ≡ false → hq ≡ false → x ≡ 0)
    → x ≡ cond hp (cond (false && hq) 0 x) 0 + cond hq (cond (true && hp) 0 x) 0
two_sides true true x e = omega arith
two_sides true false x e = omega arith
two_sides false true x e = omega arith
two_sides false false x e = e refl refl

out_depth : (f : Sets) (t far k : ℕ) → f.holds k t ≡ false → depth_in f (on t far) k ≡ f.value k
out_depth f t far k h = cond-false {A = ℕ} (f.holds k t) (min (f.value k) (far - inner_of f k t)) (f.value k) h

-- the depth in a set that holds the member
pub in_depth : (f : Sets) (t far k : ℕ) → f.holds k t ≡ true → depth_in f (on t far) k ≡ min (f.value k) (far - inner_of f k t)
in_depth f t far k h = cond-true {A = ℕ} (f.holds k t) (min (f.value k) (far - inner_of f k t)) (f.value k) h

-- two points are as far apart as both ways out say, sets that hold both counted once
pub apart_walked : (f : Sets) (p q : ℕ × ℕ) → apart f (on p.0 p.1) (on q.0 q.1) ≡ walked f p q false + walked f q p true
apart_walked f p q =
    let first : ℕ → ℕ = λ k. cond (f.holds k p.0) (weight_in f p q false k) 0 in
    let second : ℕ → ℕ = λ k. cond (f.holds k q.0) (weight_in f q p true k) 0 in
    let x : ℕ → ℕ = λ k. gap (depth_in f (on p.0 p.1) k) (depth_in f (on q.0 q.1) k) in
    sum_same (2 * f.size) x (λ k. first k + second k) (λ k hk.
    two_sides (f.holds k p.0) (f.holds k q.0) (x k) (λ a b. omega (arith, out_depth f p.0 p.1 k a, out_depth f q.0 q.1 k b)) ∙
    ap (λ z. first k + cond (f.holds k q.0) (cond (true && f.holds k p.0) 0 z) 0)
    (gap_back (depth_in f (on p.0 p.1) k) (depth_in f (on q.0 q.1) k))) ∙
    sum_added (2 * f.size) first second

-- ---- one way out

weight_most : (f : Sets) (p q : ℕ × ℕ) (skips : Bool) (k : ℕ) → weight_in f p q skips k ≤ f.value k
weight_most f p q skips k = elim (cases_Bool (skips && f.holds k q.0)) [
  | inl y ↦ omega (arith, cond-true {A = ℕ} (skips && f.holds k q.0) 0 (gap (depth_in f (on p.0 p.1) k) (depth_in f (on q.0 q.1) k)) y)
  | inr y ↦ omega (
    arith,
    cond-false {A = ℕ} (skips && f.holds k q.0) 0 (gap (depth_in f (on p.0 p.1) k) (depth_in f (on q.0 q.1) k)) y,
    depth_most_in f (on p.0 p.1) k,
    depth_most_in f (on q.0 q.1) k,
  )
]

inner_most : (f : Sets) (p q : ℕ × ℕ) (skips : Bool) (k : ℕ) → inner_by f (weight_in f p q skips) k p.0 ≤ inner_of f k p.0
inner_most f p q skips k = sum_most (2 * f.size) (λ j. cond (comes_before f j k && f.holds j p.0) (weight_in f p q skips j) 0)
    (λ j. cond (comes_before f j k && f.holds j p.0) (f.value j) 0)
    (λ j hj. most (comes_before f j k && f.holds j p.0) (weight_in f p q skips j) (f.value j) (weight_most f p q skips j))
  where
    most : (b : Bool) (x y : ℕ) → x ≤ y → cond {A = ℕ} b x 0 ≤ cond b y 0
    most true x y h = h
    most false x y h = omega arith

-- so many steps were taken on the way out of a member, past the sets inside, and the weights in these are added up
pub record IsWalking (f : Sets) (w : ℕ → ℕ) (t steps set inside sum : ℕ) : Type 0 where
  pub at : climb f t steps ≡ Some set
  pub passed : inside ≡ inner_of f set t
  pub added : sum ≡ inner_by f w set t

-- a walk starts at the single of the member
pub walk_starts : (f : Sets) → IsFamily f → (w : ℕ → ℕ) (t : ℕ) → t < f.size → IsWalking f w t 0 t 0 0
walk_starts f fam w t h = record { at = refl; passed = sym (single_by f fam f.value t h); added = sym (single_by f fam w t h) }

-- it goes on to the parent
pub walk_on : (f : Sets) → IsFamily f → (w : ℕ → ℕ) (t steps set inside sum next : ℕ) (inside' sum' : ℕ) → t < f.size
    → IsWalking f w t steps set inside sum → f.parent set ≡ Some next → inside' ≡ inside + f.value set → sum' ≡ sum + w set
    → IsWalking f w t (steps + 1) next inside' sum'
walk_on f fam w t steps set inside sum next inside' sum' h l up ei es = record {
  at =
      let e : steps + 1 ≡ suc steps = omega arith in
      ap (climb f t) e ∙ ap (option_and_then f.parent) l.at ∙ up;
  passed = omega (arith, ei, l.passed, parent_by f fam f.value t steps set next h l.at up);
  added = omega (arith, es, l.added, parent_by f fam w t steps set next h l.at up);
}

-- at the top all sets that hold the member were passed
pub walk_ends : (f : Sets) → IsFamily f → (w : ℕ → ℕ) (t steps set inside sum sum' : ℕ) → t < f.size
    → IsWalking f w t steps set inside sum → f.parent set ≡ None → sum' ≡ sum + w set → sum' ≡ total_by f w t
walk_ends f fam w t steps set inside sum sum' h l top es = omega (arith, es, l.added, top_by f fam w t steps set h l.at top)

-- it is at a set that holds the member
pub walk_place : (f : Sets) → IsFamily f → (w : ℕ → ℕ) (t steps set inside sum : ℕ) → t < f.size
    → IsWalking f w t steps set inside sum → IsClimbed f t set
walk_place f fam w t steps set inside sum h l = climb_is f fam t steps set h l.at

-- it takes fewer steps than there are members
pub walk_short : (f : Sets) → IsFamily f → (w : ℕ → ℕ) (t steps set inside sum : ℕ) → t < f.size
    → IsWalking f w t steps set inside sum → steps < f.size
walk_short f fam w t steps set inside sum h l = few_steps f fam t steps set h l.at

-- what is passed is within all values together
pub walk_small : (f : Sets) → IsFamily f → (w : ℕ → ℕ) (t steps set inside sum : ℕ) → t < f.size
    → IsWalking f w t steps set inside sum → inside + f.value set ≤ total_of f
walk_small f fam w t steps set inside sum h l =
    omega (arith, l.passed, inner_within f set t (climb_is f fam t steps set h l.at).below)

-- what is added up is at most what is passed
pub walk_less : (f : Sets) (p q : ℕ × ℕ) (skips : Bool) (steps set inside sum : ℕ)
    → IsWalking f (weight_in f p q skips) p.0 steps set inside sum → (sum ≤ inside) × (weight_in f p q skips set ≤ f.value set)
walk_less f p q skips steps set inside sum l = (
  omega (arith, l.passed, l.added, inner_most f p q skips set),
  weight_most f p q skips set,
)

-- what a walk adds up is at most all values together
pub walked_most : (f : Sets) (p q : ℕ × ℕ) (skips : Bool) → walked f p q skips ≤ total_of f
walked_most f p q skips = sum_most (2 * f.size) (λ k. cond (f.holds k p.0) (weight_in f p q skips k) 0) f.value
    (λ k hk. most (f.holds k p.0) (weight_in f p q skips k) (f.value k) (weight_most f p q skips k))
  where
    most : (b : Bool) (x y : ℕ) → x ≤ y → cond {A = ℕ} b x 0 ≤ y
    most true x y h = h
    most false x y h = omega arith

-- so is a total
pub total_most : (f : Sets) (t : ℕ) → total_at f t ≤ total_of f
total_most f t = sum_most (2 * f.size) (λ k. cond (f.holds k t) (f.value k) 0) f.value
    (λ k hk. most (f.holds k t) (f.value k))
  where
    most : (b : Bool) (x : ℕ) → cond {A = ℕ} b x 0 ≤ x
    most true x = omega arith
    most false x = omega arith

-- ---- the weight of a set

-- the weight of a set that holds both members
pub weight_both : (f : Sets) → IsFamily f → (p q : ℕ × ℕ) (k inside other depth second : ℕ) → k < 2 * f.size → p.0 < f.size
    → q.0 < f.size → f.holds k p.0 ≡ true → f.holds k q.0 ≡ true → inside ≡ inner_of f k p.0
    → other ≡ inside + total_at f q.0 - total_at f p.0 → depth ≡ min (f.value k) (p.1 - inside)
    → second ≡ min (f.value k) (q.1 - other) → weight_in f p q false k ≡ gap depth second
weight_both f fam p q k inside other depth second hk hp hq kp kq ei eo ed es =
    let there : other ≡ inner_of f k q.0 = omega (arith, eo, ei, totals_beyond f fam k p.0 q.0 hk hp hq kp kq) in
    let a : depth_in f (on p.0 p.1) k ≡ depth = omega (arith, in_depth f p.0 p.1 k kp, ei, ed) in
    let b : depth_in f (on q.0 q.1) k ≡ second = omega (arith, in_depth f q.0 q.1 k kq, there, es) in
    λ i. gap (a i) (b i)

-- the total of one member of a set is at most what it has inside the set and the total of the other
pub totals_less : (f : Sets) → IsFamily f → (k t u inside : ℕ) → k < 2 * f.size → t < f.size
    → u < f.size → f.holds k t ≡ true → f.holds k u ≡ true → inside ≡ inner_of f k t → total_at f t ≤ inside + total_at f u
totals_less f fam k t u inside hk ht hu kt ku e = omega (arith, e, totals_beyond f fam k t u hk ht hu kt ku)

-- ---- open water as a place on the way of any member

-- at the total of its member a point has the depths of open water
pub shore_depth : (f : Sets) → IsFamily f → (t far k : ℕ) → t < f.size → far ≡ total_at f t → k < 2 * f.size
    → depth_in f (on t far) k ≡ f.value k
shore_depth f fam t far k ht e hk = elim (cases_Bool (f.holds k t)) [
  | inr y ↦ out_depth f t far k y
  | inl y ↦ omega (arith, in_depth f t far k y, e, inner_total f k t hk y)
]
