-- What comes on a way, and what is tight when it has come.
use Rattle.std.proofs.Common.{arith, ◌≡◌, ◌≢◌, ℕ, zero, suc, ◌+◌, ◌-◌, ◌*◌, ◌%◌, ◌<◌, ◌≤◌, ◌⊎◌, refl, sym, ap, ◌∙◌, subst}
use Rattle.std.proofs.Common.{inl, inr, List, length}
use Rattle.std.specs.Prelude.{slice_index}
use Rattle.std.proofs.lemmas.Bool.{cases_eq, cases_lt, cases_Bool, true≢false}
use Rattle.std.proofs.Math.Nat.{add-mul}
use Rattle.dpl_laminar.specs.Families.{load_of}
use Rattle.dpl_dual.specs.declared.crosses.Dual.{Dual}
use Rattle.dpl_dual.specs.Chains.{no_cross}
use Rattle.dpl_pack.specs.Points.{Point, water, on, apart, total_at}
use Rattle.dpl_pack.specs.Tides.{place_of}
use Rattle.dpl_flood.specs.Dues.{gains, losses, IsDueAt}
use Rattle.dpl_dual.specs.Duals.{way_at}
use Rattle.dpl_flood.specs.Seas.{Sea, sides_of, room_of, tide_of, AreMoving, IsSea, Takes, IsComing, speed_of, IsDueTime}
use Rattle.dpl_flood.proofs.DueLemmas.{even_due, spread}
use Rattle.dpl_flood.proofs.ShoreLemmas.{way_tight, shore_tight, half_whole, water_apart, tops_apart}

-- either something comes on a way, or what is due on it is due at any time
coming_or : (d : Dual) (s : Sea) (w : ℕ) (key : ℕ → ℕ) → IsComing d s w ⊎ IsDueAt (sides_of d) (tide_of d s) s.time key w
coming_or d s w key = elim (cases_eq (place_of s.sets (s.point (way_at d.crosses w).f)) (place_of s.sets (s.point (way_at d.crosses w).g))) [
  | inl e ↦ inr (inl e)
  | inr ne ↦ elim (cases_Bool (s.rests (place_of s.sets (s.point (way_at d.crosses w).f)))) [
    | inl a ↦ inr (inr (inl (inl a)))
    | inr a ↦ elim (cases_Bool (s.rests (place_of s.sets (s.point (way_at d.crosses w).g)))) [
      | inl b ↦ inr (inr (inl (inr b)))
      | inr b ↦ elim (cases_lt (losses (sides_of d) (tide_of d s) w) (gains (sides_of d) (tide_of d s) w)) [
        | inl l ↦ inl (record { two = ne; one_awake = a; two_awake = b; nearer = l })
        | inr l ↦ inr (inr (inr (even_due (sides_of d) (tide_of d s) s.time key w l)))
      ]
    ]
  ]
]

-- what both sides gain is what they come nearer and what they lose
pub split_speed : (a b span : ℕ) → b < a → a * span ≡ (a - b) * span + b * span
split_speed a b span h = ap (λ z. z * span) (omega (arith, h)) ∙ add-mul (a - b) b span

-- the time that is told is one before which nothing comes
pub due_at : (d : Dual) (s : Sea) (w : ℕ) (key : ℕ → ℕ) → IsDueTime d s w (key w) → IsDueAt (sides_of d) (tide_of d s) s.time key w
due_at d s w key t = elim (coming_or d s w key) [
  | inr x ↦ x
  | inl c ↦
      let a = gains (sides_of d) (tide_of d s) w in
      let b = losses (sides_of d) (tide_of d s) w in
      inr (inr (omega (arith, t.room c, split_speed a b (key w - s.time) c.nearer)))
]

-- and the greatest: a key with that is no later
pub due_last : (d : Dual) (s : Sea) (w time : ℕ) (key : ℕ → ℕ) → IsComing d s w → IsDueTime d s w time
    → IsDueAt (sides_of d) (tide_of d s) s.time key w → key w ≤ time
due_last d s w time key c t due = elim due [
  | inl e ↦ absurd (c.two e)
  | inr x ↦ elim x [
    | inl rest ↦ elim rest [
      | inl r ↦ absurd (true≢false (sym r ∙ c.one_awake))
      | inr r ↦ absurd (true≢false (sym r ∙ c.two_awake))
    ]
    | inr room ↦ elim (cases_lt time (key w)) [
      | inr l ↦ l
      | inl l ↦
          let a = gains (sides_of d) (tide_of d s) w in
          let b = losses (sides_of d) (tide_of d s) w in
          let v = a - b in
          let more = key w - s.time - (time - s.time + 1) in
          let parts : key w - s.time ≡ (time - s.time + 1) + more = omega (arith, l, t.later) in
          let whole : v * (key w - s.time) ≡ v * (time - s.time + 1) + v * more = ap (λ z. v * z) parts ∙ spread v (time - s.time + 1) more in
          absurd (omega (arith, t.last c, room, split_speed a b (key w - s.time) c.nearer, whole))
    ]
  ]
]

-- speeds are 1, or 2 where both sides grow
pub speed_cases : (g h l k : ℕ) → g + l ≤ 1 → h + k ≤ 1 → l + k < g + h
    → ((g + h) - (l + k) ≡ 1) ⊎ ((g ≡ 1) × ((h ≡ 1) × ((g + h) - (l + k) ≡ 2)))
speed_cases zero zero l k a b c = absurd (omega (arith, c))
speed_cases zero (suc zero) l k a b c = inl (omega (arith, a, b, c))
speed_cases (suc zero) zero l k a b c = inl (omega (arith, a, b, c))
speed_cases (suc zero) (suc zero) l k a b c = inr (refl, (refl, omega (arith, a, b)))
speed_cases (suc (suc g)) h l k a b c = absurd (omega arith)
speed_cases g (suc (suc h)) l k a b c = absurd (omega arith)

-- a point on a top that grows is on a member
on_top : (s : Sea) → AreMoving s → (p : Point) → s.gain (place_of s.sets p) ≡ 1 → (t : ℕ) × ((far : ℕ) × (p ≡ on t far))
on_top s m water h = absurd (omega (arith, (m.tops (2 * s.sets.size) (omega (arith, h))).0))
on_top s m (on t far) h = (t, (far, refl))

-- What is due now has come: the way has no room left. Where both sides grow this needs that half of the room is whole.
pub has_come : (d : Dual) (terminals : List ℕ) (s : Sea) (w : ℕ) → IsSea d terminals s → w < length d.crosses
    → (way_at d.crosses w).length % 2 ≡ 0 → IsComing d s w → IsDueTime d s w s.time
    → apart s.sets (s.point (way_at d.crosses w).f) (s.point (way_at d.crosses w).g) ≡ (way_at d.crosses w).length
has_come d terminals s w sea hw even c t =
    let p = s.point (way_at d.crosses w).f in
    let q = s.point (way_at d.crosses w).g in
    let i = place_of s.sets p in
    let j = place_of s.sets q in
    let v = speed_of d s w in
    let within = sea.flood.ways w no_cross hw in
    let last : room_of d s w < v = omega (arith, t.last c, times v (s.time - s.time + 1) (omega arith)) in
    elim (speed_cases (s.gain i) (s.gain j) (s.loss i) (s.loss j) (sea.moving.once i) (sea.moving.once j) c.nearer) [
      | inl one ↦ omega (arith, last, one, within)
      | inr two ↦
          let a = on_top s sea.moving p two.0 in
          let b = on_top s sea.moving q two.1.0 in
          let t1 = a.0 in
          let t2 = b.0 in
          let e1 : p ≡ on t1 a.1.0 = a.1.1 in
          let e2 : q ≡ on t2 b.1.0 = b.1.1 in
          let m1 = sea.flood.members (way_at d.crosses w).f t1 a.1.0 e1 in
          let m2 = sea.flood.members (way_at d.crosses w).g t2 b.1.0 e2 in
          let k1 : i ≡ s.sets.top t1 = ap (place_of s.sets) e1 in
          let k2 : j ≡ s.sets.top t2 = ap (place_of s.sets) e2 in
          let g1 : s.gain (s.sets.top t1) ≡ 1 = ap s.gain (sym k1) ∙ two.0 in
          let g2 : s.gain (s.sets.top t2) ≡ 1 = ap s.gain (sym k2) ∙ two.1.0 in
          let ne : s.sets.top t1 ≢ s.sets.top t2 = λ e. c.two (k1 ∙ e ∙ sym k2) in
          let far_apart : apart s.sets p q ≡ apart s.sets (on t1 a.1.0) (on t2 b.1.0) = λ z. apart s.sets (e1 z) (e2 z) in
          let pace = sea.pace t1 m1 (omega (arith, g1, sea.moving.once (s.sets.top t1))) in
          let pace' = sea.pace t2 m2 (omega (arith, g2, sea.moving.once (s.sets.top t2))) in
          let half = half_whole s.sets sea.family t1 a.1.0 t2 b.1.0 (way_at d.crosses w).length m1 m2 ne (sea.reached (way_at d.crosses w).f t1 a.1.0 e1)
          (sea.reached (way_at d.crosses w).g t2 b.1.0 e2) (sea.even (way_at d.crosses w).f t1 a.1.0 e1) (sea.even (way_at d.crosses w).g t2 b.1.0 e2) even
          (pace ∙ sym pace') (omega (arith, within, far_apart)) in
          omega (arith, last, two.1.1, within, far_apart, half)
    ]
  where
    times : (a b : ℕ) → b ≡ 1 → a * b ≡ a
    times a b e = subst (λ z. a * z ≡ a) (sym e) (omega arith)

-- Tops that meet over a way between these faces, from either side: the way and what leads to its faces are as long as the load.
pub tops_meet : (d : Dual) (terminals : List ℕ) (s : Sea) (f g long t far u far' : ℕ) → IsSea d terminals s
    → s.point f ≡ on t far → s.point g ≡ on u far' → s.sets.top t ≢ s.sets.top u
    → apart s.sets (s.point f) (s.point g) ≡ long
    → far + long + far' ≡ load_of s.sets t u
tops_meet d terminals s f g long t far u far' sea a b ne e =
    way_tight s.sets sea.family t far u far' long (sea.flood.members f t far a) (sea.flood.members g u far' b) ne
    (sea.reached f t far a) (sea.reached g u far' b)
    (sym (λ z. apart s.sets (a z) (b z)) ∙ e)

-- and the totals of their members have one parity
pub meet_parity : (d : Dual) (terminals : List ℕ) (s : Sea) (f g long t far u far' : ℕ) → IsSea d terminals s
    → long % 2 ≡ 0 → s.point f ≡ on t far → s.point g ≡ on u far'
    → s.sets.top t ≢ s.sets.top u → apart s.sets (s.point f) (s.point g) ≡ long
    → total_at s.sets t % 2 ≡ total_at s.sets u % 2
meet_parity d terminals s f g long t far u far' sea even a b ne e =
    omega (
      arith,
      tops_apart s.sets sea.family t far u far' (sea.flood.members f t far a) (sea.flood.members g u far' b) ne,
      sym (λ z. apart s.sets (a z) (b z)) ∙ e,
      sea.reached f t far a,
      sea.reached g u far' b,
      sea.even f t far a,
      sea.even g u far' b,
      even,
    )

-- A top that comes to a face in open water can take it.
pub top_takes : (d : Dual) (terminals : List ℕ) (s : Sea) (f g long t far : ℕ) → IsSea d terminals s → long % 2 ≡ 0
    → s.point f ≡ on t far → s.point g ≡ water → s.gain (s.sets.top t) ≡ 1
    → (g < d.faces) × (slice_index d.part g ≡ slice_index d.part (slice_index terminals 0))
    → apart s.sets (s.point f) (s.point g) ≡ long
    → Takes d terminals s g t (far + long)
top_takes d terminals s f g long t far sea even a b grows home e =
    let member = sea.flood.members f t far a in
    record {
      open_water = b;
      member = member;
      grows = grows;
      shore = shore_tight s.sets sea.family t far long member (sea.reached f t far a)
          (sym (λ z. apart s.sets (a z) (b z)) ∙ e);
      even = omega (arith, sea.even f t far a, even);
      home = home;
    }

-- The room of a way, as a program computes it.
pub room_tops : (d : Dual) (terminals : List ℕ) (s : Sea) (w t far u far' : ℕ) → IsSea d terminals s
    → s.point (way_at d.crosses w).f ≡ on t far → s.point (way_at d.crosses w).g ≡ on u far' → s.sets.top t ≢ s.sets.top u
    → room_of d s w ≡ (way_at d.crosses w).length - ((total_at s.sets t - far) + (total_at s.sets u - far'))
room_tops d terminals s w t far u far' sea a b ne =
    let e : apart s.sets (s.point (way_at d.crosses w).f) (s.point (way_at d.crosses w).g) ≡ apart s.sets (on t far) (on u far') =
    λ z. apart s.sets (a z) (b z) in
    omega (
      arith,
      e,
      tops_apart s.sets sea.family t far u far' (sea.flood.members (way_at d.crosses w).f t far a) (sea.flood.members (way_at d.crosses w).g u far' b) ne,
    )

-- the same towards open water
pub room_shore : (d : Dual) (terminals : List ℕ) (s : Sea) (w t far : ℕ) → IsSea d terminals s
    → s.point (way_at d.crosses w).f ≡ on t far → s.point (way_at d.crosses w).g ≡ water
    → room_of d s w ≡ (way_at d.crosses w).length - (total_at s.sets t - far)
room_shore d terminals s w t far sea a b =
    let e : apart s.sets (s.point (way_at d.crosses w).f) (s.point (way_at d.crosses w).g) ≡ apart s.sets (on t far) water =
    λ z. apart s.sets (a z) (b z) in
    omega (arith, e, water_apart s.sets sea.family t far (sea.flood.members (way_at d.crosses w).f t far a))
