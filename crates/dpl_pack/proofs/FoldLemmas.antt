-- Points while sets without a value are folded and taken apart.
use Rattle.std.proofs.Common.{arith, ◌≡◌, ◌≢◌, ℕ, ◌-◌, ◌*◌, ◌<◌, ◌≤◌, ◌==◌, ◌&&◌, ◌||◌, min, refl, sym, ap, ◌∙◌}
use Rattle.std.proofs.Common.{Bool, true, false, cond, inl, inr, List, get_or}
use Rattle.std.specs.Prelude.{nat_lt}
use Rattle.std.proofs.lemmas.Bool.{cases_eq, cases_Bool, cond-true, cond-false}
use Rattle.dpl_laminar.specs.Loads.{sum_below, size_of}
use Rattle.dpl_laminar.specs.Families.{Sets}
use Rattle.dpl_laminar.specs.Changes.{IsShrunk, IsExpanded}
use Rattle.dpl_laminar.proofs.Sums.{sum_same}
use Rattle.dpl_dual.specs.declared.crosses.Cross.{Cross}
use Rattle.dpl_dual.specs.declared.crosses.Dual.{Dual}
use Rattle.dpl_pack.specs.Nests.{inner_of, comes_before}
use Rattle.dpl_pack.specs.Depths.{gap}
use Rattle.dpl_pack.specs.Points.{Point, water, on, depth_in, apart}
use Rattle.dpl_pack.specs.Floods.{IsFlood}
use Rattle.dpl_pack.specs.Tides.{AreBut}
use Rattle.dpl_pack.proofs.PointLemmas.{same_member}

sizes_same : (set : ℕ) (f g : Sets) → AreBut set f g → (k : ℕ) → k < 2 * f.size → k ≢ set
    → size_of g.size (g.holds k) ≡ size_of f.size (f.holds k)
sizes_same set f g w k hk ne =
    ap (λ z. size_of z (g.holds k)) w.size ∙
    sum_same f.size (λ m. cond (g.holds k m) 1 0) (λ m. cond (f.holds k m) 1 0) (λ m l. ap (λ b. cond {A = ℕ} b 1 0) (w.holds k m hk ne l))

order_same : (set : ℕ) (f g : Sets) → AreBut set f g → (j k : ℕ) → j < 2 * f.size → k < 2 * f.size → j ≢ set → k ≢ set
    → comes_before g j k ≡ comes_before f j k
order_same set f g w j k hj hk nj nk =
    let a = sizes_same set f g w j hj nj in
    let b = sizes_same set f g w k hk nk in
    λ i. nat_lt (a i) (b i) || ((a i == b i) && nat_lt j k)

cond_zero : (b : Bool) (x : ℕ) → x ≡ 0 → cond b x 0 ≡ 0
cond_zero true x e = e
cond_zero false x e = refl

-- the values inside a set are the same with and without a set that has no value
pub inner_same : (set : ℕ) (f g : Sets) → AreBut set f g → (k t : ℕ) → k < 2 * f.size → k ≢ set → t < f.size
    → inner_of g k t ≡ inner_of f k t
inner_same set f g w k t hk ne ht =
    ap (λ z. sum_below (2 * z) (λ j. cond (comes_before g j k && g.holds j t) (g.value j) 0)) w.size ∙
    sum_same (2 * f.size) (λ j. cond (comes_before g j k && g.holds j t) (g.value j) 0)
    (λ j. cond (comes_before f j k && f.holds j t) (f.value j) 0) (λ j hj. elim (cases_eq j set) [
      | inl e ↦
          let z : f.value j ≡ 0 = ap f.value e ∙ w.none in
          cond_zero (comes_before g j k && g.holds j t) (g.value j) (w.value j ∙ z) ∙
          sym (cond_zero (comes_before f j k && f.holds j t) (f.value j) z)
      | inr nj ↦
          let a = order_same set f g w j k hj hk nj ne in
          let b = w.holds j t hj nj ht in
          λ i. cond (a i && b i) (w.value j i) 0
    ])

-- no depth is more than the value
pub depth_most_in : (f : Sets) (p : Point) (k : ℕ) → depth_in f p k ≤ f.value k
depth_most_in f water k = omega arith
depth_most_in f (on t far) k = elim (cases_Bool (f.holds k t)) [
  | inl y ↦ omega (arith, cond-true {A = ℕ} (f.holds k t) (min (f.value k) (far - inner_of f k t)) (f.value k) y)
  | inr y ↦ omega (arith, cond-false {A = ℕ} (f.holds k t) (min (f.value k) (far - inner_of f k t)) (f.value k) y)
]

depth_same : (set : ℕ) (f g : Sets) → AreBut set f g → (p : Point) → ((t far : ℕ) → p ≡ on t far → t < f.size) → (k : ℕ)
    → k < 2 * f.size → depth_in g p k ≡ depth_in f p k
depth_same set f g w water m k hk = w.value k
depth_same set f g w (on t far) m k hk = elim (cases_eq k set) [
  | inl e ↦
      let z : f.value k ≡ 0 = ap f.value e ∙ w.none in
      omega (arith, depth_most_in f (on t far) k, depth_most_in g (on t far) k, z, w.value k)
  | inr ne ↦
      let a = w.holds k t hk ne (m t far refl) in
      let b = inner_same set f g w k t hk ne (m t far refl) in
      λ i. cond (a i) (min (w.value k i) (far - b i)) (w.value k i)
]

-- no points move
pub apart_same : (set : ℕ) (f g : Sets) → AreBut set f g → (p q : Point) → ((t far : ℕ) → p ≡ on t far → t < f.size)
    → ((t far : ℕ) → q ≡ on t far → t < f.size) → apart g p q ≡ apart f p q
apart_same set f g w p q mp mq =
    ap (λ z. sum_below (2 * z) (λ k. gap (depth_in g p k) (depth_in g q k))) w.size ∙
    sum_same (2 * f.size) (λ k. gap (depth_in g p k) (depth_in g q k)) (λ k. gap (depth_in f p k) (depth_in f q k)) (λ k hk.
    let a = depth_same set f g w p mp k hk in
    let b = depth_same set f g w q mq k hk in
    λ i. gap (a i) (b i))

-- what is a flood stays one
pub flood_same : (set : ℕ) (d : Dual) (terminals : List ℕ) (f g : Sets) (point : ℕ → Point) → AreBut set f g
    → IsFlood d terminals f point → IsFlood d terminals g point
flood_same set d terminals f g point w flood = record {
  members = λ x t far e. omega (arith, flood.members x t far e, w.size);
  seats = λ t ht.
      let h : t < f.size = omega (arith, ht, w.size) in
      apart_same set f g w (point (get_or terminals t 0)) (on t 0) (flood.members (get_or terminals t 0))
      (λ u x e. omega (arith, h, same_member t u 0 x e)) ∙ flood.seats t h;
  ways = λ k e l.
      let x : Cross = get_or d.crosses k e in
      omega (arith, flood.ways k e l, apart_same set f g w (point x.f) (point x.g) (flood.members x.f) (flood.members x.g));
  home = flood.home;
}

-- a fold and a set that gives way are such changes
pub shrunk_but : (old : Sets) (children : List ℕ) (joins : List (ℕ × ℕ)) (set : ℕ) (new : Sets) → IsShrunk old children joins set new
    → AreBut set old new
shrunk_but old children joins set new s = record {
  size = s.size;
  value = s.value;
  none = sym (s.value set) ∙ s.value_set;
  holds = s.sets.holds_others;
}

-- where a set without a value gives way the other sets stay
pub expanded_but : (old : Sets) (set : ℕ) (new : Sets) → IsExpanded old set new → old.value set ≡ 0 → AreBut set old new
expanded_but old set new s z = record { size = s.size; value = s.value; none = z; holds = s.sets.holds_others }
