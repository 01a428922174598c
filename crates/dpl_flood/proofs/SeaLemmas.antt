-- Time passes over moats, and what was due is still due.
use Rattle.std.proofs.Common.{arith, ◌≡◌, ◌≢◌, ℕ, zero, suc, ◌+◌, ◌-◌, ◌*◌, ◌<◌, ◌≤◌, ◌^◌, ◌⊎◌, ◌==◌, refl, sym, ap, ◌∙◌, subst}
use Rattle.std.proofs.Common.{Bool, true, cond, inl, inr, eq-eqb, None, List, length, get_or}
use Rattle.std.proofs.lemmas.Bool.{cases_eq, cases_lt, cases_Bool, cond-true, cond-false, ne_eqb, true≢false}
use Rattle.std.proofs.Math.Nat.{add-mul}
use Rattle.std.proofs.lemmas.List.{get_or_default}
use Rattle.dpl_laminar.specs.Loads.{size_of}
use Rattle.dpl_laminar.specs.Families.{Sets, IsFamily, IsLaminar}
use Rattle.dpl_laminar.proofs.Sums.{sum_same, sum_added, sum_at, sum_zero}
use Rattle.dpl_dual.specs.declared.crosses.Cross.{Cross}
use Rattle.dpl_dual.specs.declared.crosses.Dual.{Dual}
use Rattle.dpl_dual.specs.Chains.{no_cross, Leads, length_of}
use Rattle.dpl_pack.specs.Points.{Point, water, on, apart, total_at}
use Rattle.dpl_pack.specs.Floods.{IsFlood}
use Rattle.dpl_pack.specs.Tides.{with_values, place_of, share, Stays, AreTurned}
use Rattle.dpl_flood.specs.Dues.{HasRoom, NoneRests, AreRates}
use Rattle.dpl_dual.specs.Duals.{way_at}
use Rattle.dpl_flood.specs.Seas.{Sea, sides_of, tide_of, AreMoving, IsSea, IsSeaDue, ArePassed, advanced, AreLate, AreNow}
use Rattle.dpl_pack.proofs.NestLemmas.{inner_total}
use Rattle.dpl_pack.proofs.FloodLemmas.{flood_within}
use Rattle.dpl_pack.proofs.PointLemmas.{apart_self, load_apart, member_at, far_at}
use Rattle.dpl_flood.proofs.ShoreLemmas.{top_total, tops_apart}
use Rattle.dpl_pack.proofs.TideLemmas.{turned_apart, turned_way}
use Rattle.dpl_flood.proofs.DueLemmas.{room_before, passed}
use Rattle.dpl_pack.proofs.TightLemmas.{times_one}

-- ---- rates

cases_once : (a b : ℕ) → a + b ≤ 1 → ((a ≡ 0) × (b ≡ 0)) ⊎ (((a ≡ 1) × (b ≡ 0)) ⊎ ((a ≡ 0) × (b ≡ 1)))
cases_once zero zero h = inl (refl, refl)
cases_once zero (suc zero) h = inr (inr (refl, refl))
cases_once (suc zero) zero h = inr (inl (refl, refl))
cases_once zero (suc (suc b)) h = absurd (omega arith)
cases_once (suc zero) (suc b) h = absurd (omega arith)
cases_once (suc (suc a)) b h = absurd (omega arith)

-- nothing times a number
pub times_none : (a n : ℕ) → a ≡ 0 → a * n ≡ 0
times_none a n e = subst (λ z. z * n ≡ 0) (sym e) (omega arith)

-- what a top gains and what it loses after a time: nothing, or the time on one side
pub record Gains (g l m : ℕ) (span : ℕ) : Type 0 where
  pub is : ((g * span ≡ 0) × (l * span ≡ 0)) ⊎ (((g * span ≡ span) × (l * span ≡ 0)) ⊎ ((g * span ≡ 0) × ((l * span ≡ span) × (l ≡ 1))))
  pub most : m ≡ 1 → g + l ≡ 1 → ((g * span ≡ span) × (l * span ≡ 0)) ⊎ ((g * span ≡ 0) × (l * span ≡ span))

-- a top gains the time or loses it or neither
pub gains_of : (g l span : ℕ) → g + l ≤ 1 → Gains g l 1 span
gains_of g l span h = elim (cases_once g l h) [
  | inl a ↦ record { is = inl (times_none g span a.0, times_none l span a.1); most = λ _ e. absurd (omega (arith, e, a.0, a.1)) }
  | inr b ↦ elim b [
    | inl a ↦ record { is = inr (inl (times_one g span a.0, times_none l span a.1)); most = λ _ _. inl (times_one g span a.0, times_none l span a.1) }
    | inr a ↦ record { is = inr (inr (times_none g span a.0, (times_one l span a.1, a.1))); most = λ _ _. inr (times_none g span a.0, times_one l span a.1) }
  ]
]

-- a number that no top has does not move
pub still_beyond : (x : Sea) → AreMoving x → (k : ℕ) → 2 * x.sets.size ≤ k → (x.gain k ≡ 0) × (x.loss k ≡ 0)
still_beyond x m k h = elim (cases_once (x.gain k) (x.loss k) (m.once k)) [
  | inl a ↦ a
  | inr b ↦ elim b [
    | inl a ↦ absurd (omega (arith, (m.tops k (omega (arith, a.0, a.1))).0, h))
    | inr a ↦ absurd (omega (arith, (m.tops k (omega (arith, a.0, a.1))).0, h))
  ]
]

-- nor does a set with a parent
still_inside : (x : Sea) → AreMoving x → (k : ℕ) → (x.sets.parent k ≡ None → ⊥) → (x.gain k ≡ 0) × (x.loss k ≡ 0)
still_inside x m k h = elim (cases_once (x.gain k) (x.loss k) (m.once k)) [
  | inl a ↦ a
  | inr b ↦ elim b [
    | inl a ↦ absurd (h (m.tops k (omega (arith, a.0, a.1))).1.1)
    | inr a ↦ absurd (h (m.tops k (omega (arith, a.0, a.1))).1.1)
  ]
]

-- ---- values

abbrev gained : Sea → ℕ → ℕ → ℕ
gained x t k = x.gain k * (t - x.time)

abbrev lost : Sea → ℕ → ℕ → ℕ
lost x t k = x.loss k * (t - x.time)

-- what the rates give in a time changes the tops alone
pub are_turned : (x : Sea) (t : ℕ) (v : ℕ → ℕ) → AreMoving x → ArePassed x t v → AreTurned x.sets (gained x t) (lost x t) v
are_turned x t v m p = record {
  each = p.each;
  gains = λ k _. elim (cases_once (x.gain k) (x.loss k) (m.once k)) [
    | inl a ↦ inl (times_none (x.gain k) (t - x.time) a.0)
    | inr b ↦ elim b [
      | inl a ↦ inr (m.tops k (omega (arith, a.0, a.1))).1.1
      | inr a ↦ inl (times_none (x.gain k) (t - x.time) a.0)
    ]
  ];
  losses = λ k _. elim (cases_once (x.gain k) (x.loss k) (m.once k)) [
    | inl a ↦ inl (times_none (x.loss k) (t - x.time) a.1)
    | inr b ↦ elim b [
      | inl a ↦ inl (times_none (x.loss k) (t - x.time) a.1)
      | inr a ↦ inr (m.tops k (omega (arith, a.0, a.1))).1.1
    ]
  ];
}

-- the total of a member changes by what its top gains and loses
pub total_passed : (x : Sea) (t : ℕ) (v : ℕ → ℕ) → IsFamily x.sets → AreMoving x → ArePassed x t v → (m : ℕ) → m < x.sets.size
    → total_at (with_values x.sets v) m + lost x t (x.sets.top m) ≡ total_at x.sets m + gained x t (x.sets.top m)
total_passed x t v fam mo p m hm =
    let f = x.sets in
    let n = 2 * f.size in
    let new : ℕ → ℕ = λ k. cond (f.holds k m) (v k) 0 in
    let old : ℕ → ℕ = λ k. cond (f.holds k m) (f.value k) 0 in
    let less : ℕ → ℕ = λ k. cond (f.top m == k) (lost x t k) 0 in
    let more : ℕ → ℕ = λ k. cond (f.top m == k) (gained x t k) 0 in
    let range = fam.laminar.tops.top_range m hm in
    omega (
      arith,
      sum_same n (λ k. new k + less k) (λ k. old k + more k) (λ k hk. elim (cases_eq (f.top m) k) [
        | inl e ↦
            let y : f.holds k m ≡ true = ap (λ z. f.holds z m) (sym e) ∙ fam.laminar.tops.top_holds m hm in
            omega (
              arith,
              p.each k hk,
              cond-true {A = ℕ} (f.holds k m) (v k) 0 y,
              cond-true {A = ℕ} (f.holds k m) (f.value k) 0 y,
              cond-true {A = ℕ} (f.top m == k) (lost x t k) 0 (eq-eqb (f.top m) k e),
              cond-true {A = ℕ} (f.top m == k) (gained x t k) 0 (eq-eqb (f.top m) k e),
            )
        | inr ne ↦
            let a = cond-false {A = ℕ} (f.top m == k) (lost x t k) 0 (ne_eqb (f.top m) k ne) in
            let b = cond-false {A = ℕ} (f.top m == k) (gained x t k) 0 (ne_eqb (f.top m) k ne) in
            elim (cases_Bool (f.holds k m)) [
              | inr y ↦ omega (arith, a, b, cond-false {A = ℕ} (f.holds k m) (v k) 0 y, cond-false {A = ℕ} (f.holds k m) (f.value k) 0 y)
              | inl y ↦
                  let s = still_inside x mo k (λ none. ne (fam.laminar.tops.top_alone k m hk hm none y)) in
                  omega (
                    arith,
                    a,
                    b,
                    p.each k hk,
                    times_none (x.gain k) (t - x.time) s.0,
                    times_none (x.loss k) (t - x.time) s.1,
                    cond-true {A = ℕ} (f.holds k m) (v k) 0 y,
                    cond-true {A = ℕ} (f.holds k m) (f.value k) 0 y,
                  )
            ]
      ]),
      sum_added n new less,
      sum_added n old more,
      sum_at n (f.top m) (lost x t) range,
      sum_at n (f.top m) (gained x t) range,
    )

-- ---- points

-- a point stays on its top: this one does not fall, or falls no farther than to the point
pub stays : (x : Sea) (t : ℕ) (v : ℕ → ℕ) → IsFamily x.sets → AreMoving x → ArePassed x t v → (p : Point)
    → ((m far : ℕ) → p ≡ on m far → (m < x.sets.size) × ((far ≤ total_at x.sets m) × (x.loss (x.sets.top m) ≡ 1 → far + (t - x.time) ≤ total_at x.sets m)))
    → Stays x.sets v p
stays x t v fam mo p water h = tt
stays x t v fam mo p (on m far) h =
    let a = h m far refl in
    let k = x.sets.top m in
    let whole = top_total x.sets fam m a.0 in
    let each = p.each k (fam.laminar.tops.top_range m a.0) in (
      record { member = a.0; reached = omega (arith, whole, a.1.0) },
      record {
        member = a.0;
        reached = elim (gains_of (x.gain k) (x.loss k) (t - x.time) (mo.once k)).is [
          | inl z ↦ omega (arith, whole, each, z.0, z.1, a.1.0)
          | inr y ↦ elim y [
            | inl z ↦ omega (arith, whole, each, z.0, z.1, a.1.0)
            | inr z ↦ omega (arith, whole, each, z.0, z.1.0, a.1.1 z.1.1)
          ]
        ];
      },
    )

-- the top of a point is the same after values change
pub same_place : (f : Sets) (v : ℕ → ℕ) (p : Point) → place_of (with_values f v) p ≡ place_of f p
same_place f v water = refl
same_place f v (on t far) = refl

-- what a number has of a change is its own
share_is : (f : Sets) (w : ℕ → ℕ) (i : ℕ) → (2 * f.size ≤ i → w i ≡ 0) → share f w i ≡ w i
share_is f w i h = elim (cases_lt i (2 * f.size)) [
  | inl l ↦ sum_at (2 * f.size) i w l
  | inr l ↦ sum_same (2 * f.size) (λ k. cond (i == k) (w k) 0) (λ k. 0)
      (λ k hk. cond-false {A = ℕ} (i == k) (w k) 0 (ne_eqb i k (λ e. omega (arith, e, hk, l)))) ∙ sum_zero (2 * f.size) ∙ sym (h l)
]

-- ---- sets

-- values are not part of how sets nest
laminar_with : (n : ℕ) (f : Sets) (v : ℕ → ℕ) → IsLaminar n f → IsLaminar n (with_values f v)
laminar_with n f v p = record {
  sets = record {
    single_live = p.sets.single_live;
    single = p.sets.single;
    dead = p.sets.dead;
    odd = p.sets.odd;
    nested = p.sets.nested;
    named = p.sets.named;
  };
  tops = record {
    top_range = p.tops.top_range;
    top_live = p.tops.top_live;
    top_holds = p.tops.top_holds;
    top_parent = p.tops.top_parent;
    top_alone = p.tops.top_alone;
    top_shared = p.tops.top_shared;
  };
  children = record {
    dead_parent = p.children.dead_parent;
    parent_range = p.children.parent_range;
    child = p.children.child;
    child_holds = p.children.child_holds;
    covered = p.children.covered;
    apart = p.children.apart;
    distinct = p.children.distinct;
    between = p.children.between;
    childless = p.children.childless;
    children_odd = p.children.children_odd;
    children_dead = p.children.children_dead;
  };
}

-- a set that is not empty has a member
some_member : (n : ℕ) (set : ℕ → Bool) → 0 < size_of n set → (m : ℕ) × ((m < n) × (set m ≡ true))
some_member zero set h = absurd (omega arith)
some_member (suc n) set h = elim (cases_Bool (set n)) [
  | inl y ↦ (n, (omega arith, y))
  | inr y ↦
      let r = some_member n set (omega (arith, h, cond-false {A = ℕ} (set n) 1 0 y)) in
      (r.0, (omega (arith, r.1.0), r.1.1))
]

-- the sets are a family still, as long as values are small
pub family_passed : (x : Sea) (t : ℕ) (v : ℕ → ℕ) → IsFamily x.sets → ArePassed x t v → ((k : ℕ) → 2 * x.sets.size ≤ k → v k ≤ 2 ^ 50)
    → ((m : ℕ) → m < x.sets.size → total_at (with_values x.sets v) m ≤ 2 ^ 50) → IsFamily (with_values x.sets v)
family_passed x t v fam p out small =
    let f = x.sets in
    record {
      small = fam.small;
      laminar = laminar_with f.size f v fam.laminar;
      around = fam.around;
      alone = fam.alone;
      tied = λ c q e. let w = fam.tied c q e in record { from_range = w.from_range; from = w.from; to_range = w.to_range; to = w.to };
      value_small = λ k. elim (cases_lt k (2 * f.size)) [
        | inr l ↦ out k l
        | inl l ↦ elim (cases_Bool (f.live k)) [
          | inr dead ↦ omega (arith, p.dead k dead)
          | inl live ↦
              let r = some_member f.size (f.holds k) (omega (arith, fam.laminar.sets.odd k l live)) in
              omega (arith, small r.0 r.1.0, inner_total (with_values f v) k r.0 l r.1.1)
        ]
      ];
      value_dead = p.dead;
    }

-- ---- time

-- how far a point may be: on its top, and where this falls, on it until then
abbrev OnUntil : Sea → ℕ → Point → Type 0
OnUntil x t p = (m far : ℕ) → p ≡ on m far
    → (m < x.sets.size) × ((far ≤ total_at x.sets m) × (x.loss (x.sets.top m) ≡ 1 → far + (t - x.time) ≤ total_at x.sets m))

-- no point is left by its top before the first key
pub on_until : (d : Dual) (terminals : List ℕ) (x : Sea) (t : ℕ) (ways tops : ℕ → ℕ) → IsSea d terminals x → IsSeaDue d x ways tops
    → AreLate d x t ways tops → (g : ℕ) → OnUntil x t (x.point g)
on_until d terminals x t ways tops s due late g m far e = (
  s.flood.members g m far e,
  (
    s.reached g m far e,
    λ l. omega (arith, late.tops (x.sets.top m) l, (due.tops (x.sets.top m) l).faces g m far e refl),
  ),
)

-- the rates are 0 or 1
pub rates_of : (d : Dual) (x : Sea) → AreMoving x → AreRates (tide_of d x)
rates_of d x m = record { gain = λ k. omega (arith, m.once k); loss = λ k. omega (arith, m.once k) }

-- each way between two tops has room until then
room_then : (d : Dual) (terminals : List ℕ) (x : Sea) (t : ℕ) (ways tops : ℕ → ℕ) → IsSea d terminals x → IsSeaDue d x ways tops
    → AreLate d x t ways tops → x.time ≤ t → NoneRests (tide_of d x) → (w : ℕ) → w < length d.crosses
    → place_of x.sets (x.point (way_at d.crosses w).f) ≢ place_of x.sets (x.point (way_at d.crosses w).g)
    → HasRoom (sides_of d) (tide_of d x) w (t - x.time)
room_then d terminals x t ways tops s due late ls none w hw ne =
    room_before (length d.crosses) (sides_of d) (tide_of d x) x.time t ways (rates_of d x s.moving) none due.ways ls late.ways w hw ne

abbrev place_at : Sea → ℕ → ℕ
place_at x g = place_of x.sets (x.point g)

gained_at : (x : Sea) (t : ℕ) → AreMoving x → (i : ℕ) → share x.sets (gained x t) i ≡ gained x t i
gained_at x t m i = share_is x.sets (gained x t) i (λ h. times_none (x.gain i) (t - x.time) (still_beyond x m i h).0)

lost_at : (x : Sea) (t : ℕ) → AreMoving x → (i : ℕ) → share x.sets (lost x t) i ≡ lost x t i
lost_at x t m i = share_is x.sets (lost x t) i (λ h. times_none (x.loss i) (t - x.time) (still_beyond x m i h).1)

-- points of different tops move apart by the gains and together by the losses
pub moved_apart : (x : Sea) (t : ℕ) (v : ℕ → ℕ) → IsFamily x.sets → AreMoving x → ArePassed x t v → (f g : ℕ) → OnUntil x t (x.point f)
    → OnUntil x t (x.point g) → place_at x f ≢ place_at x g
    → apart (with_values x.sets v) (x.point f) (x.point g) + (x.loss (place_at x f) + x.loss (place_at x g)) * (t - x.time)
    ≡ apart x.sets (x.point f) (x.point g) + (x.gain (place_at x f) + x.gain (place_at x g)) * (t - x.time)
moved_apart x t v fam m p f g hf hg ne =
    omega (
      arith,
      turned_apart x.sets (gained x t) (lost x t) v fam (are_turned x t v m p) (x.point f) (x.point g) (stays x t v fam m p (x.point f) hf)
          (stays x t v fam m p (x.point g) hg) ne,
      gained_at x t m (place_at x f),
      gained_at x t m (place_at x g),
      lost_at x t m (place_at x f),
      lost_at x t m (place_at x g),
      add-mul (x.loss (place_at x f)) (x.loss (place_at x g)) (t - x.time),
      add-mul (x.gain (place_at x f)) (x.gain (place_at x g)) (t - x.time),
    )

-- and a way with room for that is not overloaded
way_stands : (x : Sea) (t : ℕ) (v : ℕ → ℕ) → IsFamily x.sets → AreMoving x → ArePassed x t v → (f g long : ℕ) → OnUntil x t (x.point f)
    → OnUntil x t (x.point g) → apart x.sets (x.point f) (x.point g) ≤ long
    → (place_at x f ≢ place_at x g → (x.gain (place_at x f) + x.gain (place_at x g)) * (t - x.time)
    ≤ (long - apart x.sets (x.point f) (x.point g)) + (x.loss (place_at x f) + x.loss (place_at x g)) * (t - x.time))
    → apart (with_values x.sets v) (x.point f) (x.point g) ≤ long
way_stands x t v fam m p f g long hf hg within room =
    turned_way x.sets (gained x t) (lost x t) v fam (are_turned x t v m p) (x.point f) (x.point g) long (stays x t v fam m p (x.point f) hf)
    (stays x t v fam m p (x.point g) hg) within (λ ne. omega (
      arith,
      room ne,
      within,
      gained_at x t m (place_at x f),
      gained_at x t m (place_at x g),
      lost_at x t m (place_at x f),
      lost_at x t m (place_at x g),
      add-mul (x.loss (place_at x f)) (x.loss (place_at x g)) (t - x.time),
      add-mul (x.gain (place_at x f)) (x.gain (place_at x g)) (t - x.time),
    ))

-- what is read at a place that is there does not depend on what stands beyond
read_at : (ways : List Cross) (w : ℕ) (e : Cross) → w < length ways → get_or ways w e ≡ get_or ways w no_cross
read_at ways w e h = get_or_default ways w e no_cross h

-- a flood stays one until the first key
pub flood_passed : (d : Dual) (terminals : List ℕ) (x : Sea) (t : ℕ) (v way_key top_key : ℕ → ℕ) → IsSea d terminals x
    → IsSeaDue d x way_key top_key → AreLate d x t way_key top_key → NoneRests (tide_of d x) → ArePassed x t v
    → IsFlood d terminals (with_values x.sets v) x.point
flood_passed d terminals x t v way_key top_key s due late none p =
    let until = on_until d terminals x t way_key top_key s due late in
    record {
      members = s.flood.members;
      seats = λ m hm.
          let e : x.point (get_or terminals m 0) ≡ on m 0 = s.seated m hm in
          ap (λ z. apart (with_values x.sets v) z (on m 0)) e ∙ apart_self (with_values x.sets v) (on m 0);
      ways = λ w e hw.
          let r = read_at d.crosses w e hw in
          let old : apart x.sets (x.point (way_at d.crosses w).f) (x.point (way_at d.crosses w).g) ≤ (way_at d.crosses w).length =
          subst (λ (z : Cross). apart x.sets (x.point z.f) (x.point z.g) ≤ z.length) r (s.flood.ways w e hw) in
          subst (λ (z : Cross). apart (with_values x.sets v) (x.point z.f) (x.point z.g) ≤ z.length) (sym r)
          (way_stands x t v s.family s.moving p (way_at d.crosses w).f (way_at d.crosses w).g (way_at d.crosses w).length (until (way_at d.crosses w).f) (until (way_at d.crosses w).g) old
          (λ ne. room_then d terminals x t way_key top_key s due late p.later none w hw ne));
      home = s.flood.home;
    }

-- nothing but values and the time changes
pub moving_passed : (x : Sea) (t : ℕ) (v : ℕ → ℕ) → AreMoving x → AreMoving (advanced x t v)
moving_passed x t v m = record { once = m.once; tops = m.tops; still = m.still }

-- Time passes, and the state stands.
pub sea_passed : (d : Dual) (terminals : List ℕ) (x : Sea) (t : ℕ) (v way_key top_key : ℕ → ℕ) → IsSea d terminals x
    → IsSeaDue d x way_key top_key → AreLate d x t way_key top_key → NoneRests (tide_of d x) → ArePassed x t v → t ≤ 2 ^ 50
    → ((k : ℕ) → 2 * x.sets.size ≤ k → v k ≤ 2 ^ 50) → IsSea d terminals (advanced x t v)
sea_passed d terminals x t v way_key top_key s due late none p small out =
    let until = on_until d terminals x t way_key top_key s due late in
    let span = t - x.time in
    let clock : (m : ℕ) → m < x.sets.size → total_at (with_values x.sets v) m ≤ t = λ m hm.
    let whole = total_passed x t v s.family s.moving p m hm in
    let k = x.sets.top m in
    elim (gains_of (x.gain k) (x.loss k) span (s.moving.once k)).is [
      | inl z ↦ omega (arith, whole, z.0, z.1, s.clock m hm, p.later)
      | inr y ↦ elim y [
        | inl z ↦ omega (arith, whole, z.0, z.1, s.clock m hm, p.later)
        | inr z ↦ omega (arith, whole, z.0, z.1.0, s.clock m hm, p.later)
      ]
    ] in
    record {
      family = family_passed x t v s.family p out (λ m hm. omega (arith, clock m hm, small));
      flood = flood_passed d terminals x t v way_key top_key s due late none p;
      moving = moving_passed x t v s.moving;
      reached = λ g m far e.
          let u = until g m far e in
          let whole = total_passed x t v s.family s.moving p m u.0 in
          let k = x.sets.top m in
          elim (gains_of (x.gain k) (x.loss k) span (s.moving.once k)).is [
            | inl z ↦ omega (arith, whole, z.0, z.1, u.1.0)
            | inr y ↦ elim y [
              | inl z ↦ omega (arith, whole, z.0, z.1, u.1.0)
              | inr z ↦ omega (arith, whole, z.0, z.1.0, u.1.1 z.1.1)
            ]
          ];
      clock = clock;
      pace = λ m hm moves.
          let whole = total_passed x t v s.family s.moving p m hm in
          let k = x.sets.top m in
          let same = s.pace m hm moves in
          elim ((gains_of (x.gain k) (x.loss k) span (s.moving.once k)).most refl moves) [
            | inl z ↦ omega (arith, whole, z.0, z.1, same, p.later)
            | inr z ↦ omega (arith, whole, z.0, z.1, same, p.later)
          ];
      even = s.even;
      seated = s.seated;
    }

-- and what was due is due.
pub due_passed : (d : Dual) (terminals : List ℕ) (x : Sea) (t : ℕ) (v way_key top_key : ℕ → ℕ) → IsSea d terminals x
    → IsSeaDue d x way_key top_key → AreLate d x t way_key top_key → NoneRests (tide_of d x) → ArePassed x t v
    → IsSeaDue d (advanced x t v) way_key top_key
due_passed d terminals x t v way_key top_key s due late none p =
    let until = on_until d terminals x t way_key top_key s due late in
    let span = t - x.time in
    let flood = flood_passed d terminals x t v way_key top_key s due late none p in
    record {
      ways = passed (length d.crosses) (sides_of d) (tide_of d x) (tide_of d (advanced x t v)) x.time t way_key (rates_of d x s.moving) none
          due.ways p.later late.ways (record {
            place = λ g. same_place x.sets v (x.point g);
            gain = λ k. refl;
            loss = λ k. refl;
            rests = λ k. refl;
            apart = λ w hw ne.
                let f = (way_at d.crosses w).f in
                let g = (way_at d.crosses w).g in
                omega (
                  arith,
                  moved_apart x t v s.family s.moving p f g (until f) (until g) ne,
                  s.flood.ways w no_cross hw,
                  flood.ways w no_cross hw,
                );
          });
      tops = λ k l.
          let old = due.tops k l in
          let none_gained : x.gain k ≡ 0 = omega (arith, s.moving.once k, l) in
          let here = (s.moving.tops k (omega (arith, l))).0 in
          let z = times_none (x.gain k) span none_gained in
          let o = times_one (x.loss k) span l in
          record {
            value = omega (arith, p.each k here, z, o, old.value, late.tops k l, p.later);
            faces = λ g m far e q.
                let hm = s.flood.members g m far e in
                let whole = total_passed x t v s.family s.moving p m hm in
                let zz : x.gain (x.sets.top m) * span ≡ 0 = ap (λ i. x.gain i * span) q ∙ z in
                let oo : x.loss (x.sets.top m) * span ≡ span = ap (λ i. x.loss i * span) q ∙ o in
                omega (arith, whole, zz, oo, old.faces g m far e q, late.tops k l, p.later);
          };
    }

-- ---- the time is small

-- the values that the rates give are such values
pub values_after : (x : Sea) (t : ℕ) (d : Dual) (ways tops : ℕ → ℕ) (v : ℕ → ℕ) → IsFamily x.sets → AreMoving x → IsSeaDue d x ways tops
    → AreLate d x t ways tops → x.time ≤ t
    → ((k : ℕ) → v k ≡ x.sets.value k + gained x t k - lost x t k) → ArePassed x t v
values_after x t d ways tops v fam m due late ls e = record {
  later = ls;
  each = λ k _. elim (gains_of (x.gain k) (x.loss k) (t - x.time) (m.once k)).is [
    | inl z ↦ omega (arith, e k, z.0, z.1)
    | inr y ↦ elim y [
      | inl z ↦ omega (arith, e k, z.0, z.1)
      | inr z ↦ omega (arith, e k, z.0, z.1.0, (due.tops k z.1.1).value, late.tops k z.1.1, ls)
    ]
  ];
  dead = λ k n. elim (gains_of (x.gain k) (x.loss k) (t - x.time) (m.once k)).is [
    | inl z ↦ omega (arith, e k, z.0, z.1, fam.value_dead k n)
    | inr y ↦ elim y [
      | inl z ↦ elim (cases_once (x.gain k) (x.loss k) (m.once k)) [
        | inl a ↦ omega (arith, e k, times_none (x.gain k) (t - x.time) a.0, times_none (x.loss k) (t - x.time) a.1, fam.value_dead k n)
        | inr b ↦ elim b [
          | inl a ↦ absurd (true≢false (sym (m.tops k (omega (arith, a.0, a.1))).1.0 ∙ n))
          | inr a ↦ absurd (true≢false (sym (m.tops k (omega (arith, a.0, a.1))).1.0 ∙ n))
        ]
      ]
      | inr z ↦ absurd (true≢false (sym (m.tops k (omega (arith, z.1.1))).1.0 ∙ n))
    ]
  ];
}

-- While two trees grow whose members have the time as totals, twice the time is at most each chain between these.
pub time_small : (d : Dual) (terminals : List ℕ) (x : Sea) (t : ℕ) (v way_key top_key : ℕ → ℕ) → IsSea d terminals x
    → IsSeaDue d x way_key top_key → AreLate d x t way_key top_key → NoneRests (tide_of d x) → ArePassed x t v
    → (a b : ℕ) → a < x.sets.size → b < x.sets.size → x.sets.top a ≢ x.sets.top b → x.gain (x.sets.top a) ≡ 1
    → x.gain (x.sets.top b) ≡ 1 → total_at x.sets a ≡ x.time → total_at x.sets b ≡ x.time
    → (xs : List Cross) → Leads d.crosses (get_or terminals a 0) xs (get_or terminals b 0) → 2 * t ≤ length_of xs
time_small d terminals x t v way_key top_key s due late none p a b ha hb ne ga gb ea eb xs leads =
    let f = x.sets in
    let flood = flood_passed d terminals x t v way_key top_key s due late none p in
    let most = flood_within d terminals (with_values f v) x.point flood a b ha hb (λ e. ne (ap f.top e)) xs leads in
    let la : x.loss (f.top a) ≡ 0 = omega (arith, s.moving.once (f.top a), ga) in
    let lb : x.loss (f.top b) ≡ 0 = omega (arith, s.moving.once (f.top b), gb) in
    let seat : (m : ℕ) → m < f.size → x.loss (f.top m) ≡ 0 → OnUntil x t (on m 0) = λ m hm l u far e.
    let same : m ≡ u = ap member_at e in
    let none_far : 0 ≡ far = ap far_at e in
    (omega (arith, same, hm), (omega (arith, none_far), λ q. absurd (omega (arith, ap (λ z. x.loss (f.top z)) same, l, q)))) in
    omega (
      arith,
      most,
      load_apart (with_values f v) a b,
      turned_apart f (gained x t) (lost x t) v s.family (are_turned x t v s.moving p) (on a 0) (on b 0)
          (stays x t v s.family s.moving p (on a 0) (seat a ha la)) (stays x t v s.family s.moving p (on b 0) (seat b hb lb)) ne,
      tops_apart f s.family a 0 b 0 ha hb ne,
      gained_at x t s.moving (f.top a),
      gained_at x t s.moving (f.top b),
      lost_at x t s.moving (f.top a),
      lost_at x t s.moving (f.top b),
      times_one (x.gain (f.top a)) (t - x.time) ga,
      times_one (x.gain (f.top b)) (t - x.time) gb,
      times_none (x.loss (f.top a)) (t - x.time) la,
      times_none (x.loss (f.top b)) (t - x.time) lb,
      ea,
      eb,
      p.later,
    )

-- ---- no key is before now

-- an event leaves no key before now, where those that are set anew are not
pub now_kept : (d : Dual) (x y : Sea) (old_way old_top way_key top_key : ℕ → ℕ) → y.time ≡ x.time → AreNow d x old_way old_top
    → ((w : ℕ) → w < length d.crosses → (way_key w ≡ old_way w) ⊎ (y.time ≤ way_key w))
    → ((k : ℕ) → y.loss k ≡ 1 → ((x.loss k ≡ 1) × (top_key k ≡ old_top k)) ⊎ (y.time ≤ top_key k)) → AreNow d y way_key top_key
now_kept d x y old_way old_top way_key top_key same now ways tops = record {
  ways = λ w h. elim (ways w h) [ inl e ↦ omega (arith, e, same, now.ways w h) | inr l ↦ l ];
  tops = λ k h. elim (tops k h) [ inl e ↦ omega (arith, e.1, same, now.tops k e.0) | inr l ↦ l ];
}
