-- The state at the beginning.
use Rattle.std.proofs.Common.{◌≢◌, ◌<◌, ◌⊎◌, length, arith, ◌≡◌, ℕ, ◌*◌, refl, sym, ap, ◌∙◌}
use Rattle.std.proofs.Common.{Bool, true, false, cond, inl, inr, List, get_or}
use Rattle.std.proofs.lemmas.Bool.{cases_lt, true≢false}
use Rattle.dpl_laminar.specs.Families.{Sets}
use Rattle.dpl_laminar.proofs.Sums.{sum_same, sum_zero}
use Rattle.dpl_dual.specs.declared.crosses.Cross.{Cross}
use Rattle.dpl_dual.specs.declared.crosses.Dual.{Dual}
use Rattle.dpl_pack.specs.Depths.{gap}
use Rattle.dpl_pack.specs.Points.{Point, water, on, depth_in, apart, total_at}
use Rattle.dpl_pack.specs.Tides.{place_of}
use Rattle.dpl_flood.specs.Dues.{IsDueAt}
use Rattle.dpl_dual.specs.Duals.{way_at}
use Rattle.dpl_flood.specs.Seas.{Sea, sides_of, tide_of, IsSea, IsSeaDue, IsStart}
use Rattle.dpl_pack.proofs.FoldLemmas.{depth_most_in}
use Rattle.dpl_pack.proofs.PointLemmas.{water_or}
use Rattle.dpl_flood.proofs.ShoreLemmas.{cases_point}

-- without values all points are one
nothing_apart : (f : Sets) → ((k : ℕ) → f.value k ≡ 0) → (p q : Point) → apart f p q ≡ 0
nothing_apart f v p q = sum_same (2 * f.size) (λ k. gap (depth_in f p k) (depth_in f q k)) (λ k. 0)
    (λ k hk. omega (arith, v k, depth_most_in f p k, depth_most_in f q k)) ∙ sum_zero (2 * f.size)

nothing_whole : (f : Sets) → ((k : ℕ) → f.value k ≡ 0) → (t : ℕ) → total_at f t ≡ 0
nothing_whole f v t = sum_same (2 * f.size) (λ k. cond (f.holds k t) (f.value k) 0) (λ k. 0) (λ k hk. none (f.holds k t) (f.value k) (v k)) ∙
    sum_zero (2 * f.size)
  where
    none : (b : Bool) (x : ℕ) → x ≡ 0 → cond b x 0 ≡ 0
    none true x e = e
    none false x e = refl

-- the beginning is such a state
pub start_stands : (d : Dual) (terminals : List ℕ) (s : Sea) → IsStart d terminals s → IsSea d terminals s
start_stands d terminals s a =
    let f = s.sets in
    let v = a.singles.value in
    record {
      family = a.family;
      flood = record {
        members = λ g t far e. (a.others g t far e).0;
        seats = λ t ht. nothing_apart f v (s.point (get_or terminals t 0)) (on t 0);
        ways = λ k e l. let x : Cross = get_or d.crosses k e in omega (arith, nothing_apart f v (s.point x.f) (s.point x.g));
        home = λ g ne. elim (cases_point (s.point g)) [
          | inl w ↦ absurd (ne w)
          | inr o ↦
              let q = a.others g o.0 o.1.0 o.1.1 in
              let r = a.seats o.0 q.0 in
              (omega (arith, q.1.1, r.0), ap (λ z. get_or d.part z 0) q.1.1 ∙ r.1)
        ];
      };
      moving = record {
        once = λ k. elim (cases_lt k f.size) [
          | inl l ↦ omega (arith, a.grow k l, a.none_falls k)
          | inr l ↦ omega (arith, a.rest k l, a.none_falls k)
        ];
        tops = λ k h. elim (cases_lt k f.size) [
          | inr l ↦ absurd (omega (arith, a.rest k l, a.none_falls k, h))
          | inl l ↦ (omega (arith, l), (a.family.laminar.sets.single_live k l, a.singles.parent k))
        ];
        still = λ k r. absurd (true≢false (sym r ∙ a.none_rests k));
      };
      reached = λ g t far e. omega (arith, (a.others g t far e).1.0);
      clock = λ t ht. omega (arith, nothing_whole f v t);
      pace = λ t ht m. omega (arith, nothing_whole f v t, a.time);
      even = λ g t far e. omega (arith, (a.others g t far e).1.0);
      seated = a.seated;
    }

-- What is told of the ways at seats is all that is due.
pub start_due : (d : Dual) (terminals : List ℕ) (s : Sea) (way_key top_key : ℕ → ℕ) → IsStart d terminals s
    → ((w : ℕ) → w < length d.crosses → (s.point (way_at d.crosses w).f ≢ water) ⊎ (s.point (way_at d.crosses w).g ≢ water)
    → IsDueAt (sides_of d) (tide_of d s) s.time way_key w) → IsSeaDue d s way_key top_key
start_due d terminals s way_key top_key a looks = record {
  ways = λ w hw. elim (water_or (s.point (way_at d.crosses w).f)) [
    | inr n ↦ looks w hw (inl n)
    | inl e ↦ elim (water_or (s.point (way_at d.crosses w).g)) [
      | inr n ↦ looks w hw (inr n)
      | inl q ↦ inl (ap (place_of s.sets) e ∙ sym (ap (place_of s.sets) q))
    ]
  ];
  tops = λ k l. absurd (omega (arith, l, a.none_falls k));
}
