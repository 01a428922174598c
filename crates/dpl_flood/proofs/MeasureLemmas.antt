-- What falls with each step while rates stand, and what time does not change.
use Rattle.std.proofs.Common.{arith, ◌≡◌, ◌≢◌, ℕ, zero, suc, ◌+◌, ◌-◌, ◌*◌, ◌<◌, ◌≤◌, ◌==◌, refl, sym, ap, ◌∙◌, subst}
use Rattle.std.proofs.Common.{inl, inr, eq-eqb, List, length}
use Rattle.std.proofs.lemmas.Bool.{cases_eq, cond-true, cond-false, ne_eqb}
use Rattle.dpl_laminar.specs.Loads.{sum_below}
use Rattle.dpl_laminar.proofs.Sums.{sum_same}
use Rattle.dpl_dual.specs.declared.crosses.Dual.{Dual}
use Rattle.dpl_dual.specs.Chains.{no_cross}
use Rattle.dpl_pack.specs.Points.{Point, water, on}
use Rattle.dpl_pack.specs.Tides.{place_of}
use Rattle.dpl_flood.specs.Dues.{gains, losses, NoneRests}
use Rattle.dpl_dual.specs.Duals.{way_at}
use Rattle.dpl_flood.specs.Seas.{Sea, sides_of, room_of, tide_of, IsSea, IsSeaDue, ArePassed, advanced, AreLate, noted_at, Takes, Leaves, IsComing, speed_of, IsDueTime, face_weight, faces_left}
use Rattle.dpl_flood.proofs.SeaLemmas.{same_place, moved_apart, on_until, flood_passed}
use Rattle.dpl_flood.proofs.EventLemmas.{new_here, new_other}
use Rattle.dpl_flood.proofs.MeetLemmas.{split_speed}
use Rattle.dpl_flood.proofs.DueLemmas.{spread}
use Rattle.dpl_pack.proofs.PointLemmas.{on_water}

-- ---- what time does not change

-- Where something comes and when stays the same while time passes.
pub due_time_passed : (d : Dual) (terminals : List ℕ) (x : Sea) (t : ℕ) (v way_key top_key : ℕ → ℕ) → IsSea d terminals x
    → IsSeaDue d x way_key top_key → AreLate d x t way_key top_key → NoneRests (tide_of d x) → ArePassed x t v → (w time : ℕ)
    → w < length d.crosses → t ≤ time → IsDueTime d x w time → IsDueTime d (advanced x t v) w time
due_time_passed d terminals x t v way_key top_key s due late none p w time hw ls told =
    let y = advanced x t v in
    let f = (way_at d.crosses w).f in
    let g = (way_at d.crosses w).g in
    let until = on_until d terminals x t way_key top_key s due late in
    let flood = flood_passed d terminals x t v way_key top_key s due late none p in
    let pf = same_place x.sets v (x.point f) in
    let pg = same_place x.sets v (x.point g) in
    let a = gains (sides_of d) (tide_of d x) w in
    let b = losses (sides_of d) (tide_of d x) w in
    let same_a : gains (sides_of d) (tide_of d y) w ≡ a = omega (arith, ap x.gain pf, ap x.gain pg) in
    let same_b : losses (sides_of d) (tide_of d y) w ≡ b = omega (arith, ap x.loss pf, ap x.loss pg) in
    let was : IsComing d y w → IsComing d x w = λ c. record {
      two = λ e. c.two (pf ∙ e ∙ sym pg);
      one_awake = none (place_of x.sets (x.point f));
      two_awake = none (place_of x.sets (x.point g));
      nearer = omega (arith, c.nearer, same_a, same_b);
    } in
    let speed : speed_of d y w ≡ a - b = omega (arith, same_a, same_b) in
    let room : (c : IsComing d x w) → room_of d y w + (a - b) * (t - x.time) ≡ room_of d x w = λ c.
    omega (
      arith,
      moved_apart x t v s.family s.moving p f g (until f) (until g) c.two,
      s.flood.ways w no_cross hw,
      flood.ways w no_cross hw,
      split_speed a b (t - x.time) c.nearer,
    ) in
    let parts : (n : ℕ) → (a - b) * (time - x.time + n) ≡ (a - b) * (time - t + n) + (a - b) * (t - x.time) = λ n.
    let e : time - x.time + n ≡ (time - t + n) + (t - x.time) = omega (arith, ls, p.later) in
    ap (λ z. (a - b) * z) e ∙ spread (a - b) (time - t + n) (t - x.time) in
    let plain : (n : ℕ) → n + 0 ≡ n = λ n. omega arith in
    record {
      later = ls;
      room = λ c.
          let k = was c in
          subst (λ z. z * (time - t) ≤ room_of d y w) (sym speed) (omega (
            arith,
            told.room k,
            room k,
            parts 0,
            ap (λ z. (a - b) * z) (plain (time - x.time)),
            ap (λ z. (a - b) * z) (plain (time - t)),
          ));
      last = λ c.
          let k = was c in
          subst (λ z. room_of d y w < z * (time - t + 1)) (sym speed) (omega (arith, told.last k, room k, parts 1));
    }

-- ---- take and leave

-- a sum that changes at one place
pub sum_but : (n h : ℕ) (f g : ℕ → ℕ) → h < n → ((m : ℕ) → m < n → m ≢ h → g m ≡ f m) → g h < f h → sum_below n g < sum_below n f
sum_but zero h f g l e less = absurd (omega arith)
sum_but (suc n) h f g l e less = elim (cases_eq n h) [
  | inl q ↦
      let rest = sum_same n g f (λ m k. e m (omega arith) (λ z. omega (arith, z, q, k))) in
      omega (arith, rest, less, ap f q, ap g q)
  | inr ne ↦ omega (arith, sum_but n h f g (omega (arith, l, ne)) (λ m k. e m (omega arith)) less, e n (omega arith) ne)
]

weight_falls : (d : Dual) (x : Sea) (h : ℕ) (p : Point) → h < d.faces → face_weight x p < face_weight x (x.point h)
    → faces_left d (noted_at x h p) < faces_left d x
weight_falls d x h p hh less =
    sum_but d.faces h (λ g. face_weight x (x.point g)) (λ g. face_weight x ((noted_at x h p).point g)) hh
    (λ g _ ne. ap (face_weight x) (new_other x h p g ne)) (omega (arith, less, ap (face_weight x) (new_here x h p h refl)))

-- a face that is taken is not in open water any more
pub take_falls : (d : Dual) (terminals : List ℕ) (x : Sea) (h t far : ℕ) → IsSea d terminals x → Takes d terminals x h t far
    → faces_left d (noted_at x h (on t far)) < faces_left d x
take_falls d terminals x h t far s w =
    weight_falls d x h (on t far) w.home.0 (omega (
      arith,
      ap (face_weight x) w.open_water,
      cond-false {A = ℕ} (x.loss (x.sets.top t) == 1) 2 0 (ne_eqb (x.loss (x.sets.top t)) 1
          (λ e. omega (arith, e, w.grows, s.moving.once (x.sets.top t)))),
    ))

-- a face that is left is on no top that falls
pub leave_falls : (d : Dual) (terminals : List ℕ) (x : Sea) (h t far : ℕ) → IsSea d terminals x → Leaves terminals x h t far
    → x.loss (x.sets.top t) ≡ 1 → faces_left d (noted_at x h water) < faces_left d x
leave_falls d terminals x h t far s w falls =
    let on_land : x.point h ≢ water = λ e. on_water t far (sym w.held ∙ e) in
    weight_falls d x h water (s.flood.home h on_land).0 (omega (
      arith,
      ap (face_weight x) w.held,
      cond-true {A = ℕ} (x.loss (x.sets.top t) == 1) 2 0 (eq-eqb (x.loss (x.sets.top t)) 1 falls),
    ))
