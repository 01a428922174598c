-- What is computed of a way is when something comes on it, and a key that is set to it is early no more.
use Rattle.std.proofs.Common.{arith, ◌≡◌, ℕ, ◌+◌, ◌-◌, ◌*◌, ◌/◌, ◌<◌, ◌≤◌, ◌⊎◌, ◌==◌, refl, sym, ap, ◌∙◌, subst}
use Rattle.std.proofs.Common.{Bool, true, false, cond, inl, inr, eq-eqb}
use Rattle.std.specs.Prelude.{nat_lt}
use Rattle.std.proofs.lemmas.Bool.{cond-true, cond-false, ne_eqb, lt-ltb, le-ltb}
use Rattle.dpl_dual.specs.declared.crosses.Dual.{Dual}
use Rattle.dpl_pack.specs.Tides.{place_of}
use Rattle.dpl_flood.specs.Dues.{gains, losses}
use Rattle.dpl_dual.specs.Duals.{way_at}
use Rattle.dpl_flood.specs.Seas.{Sea, sides_of, room_of, tide_of, AreMoving, IsComing, speed_of, IsDueTime, due_of, early_keys, key_with}
use Rattle.dpl_flood.proofs.MeetLemmas.{speed_cases}
use Rattle.dpl_flood.proofs.MeasureLemmas.{sum_but}

-- where something comes
told_where : (d : Dual) (s : Sea) (never w : ℕ) → IsComing d s w
    → due_of d s never w ≡ s.time + cond (speed_of d s w == 2) (room_of d s w / 2) (room_of d s w)
told_where d s never w c =
    let i = place_of s.sets (s.point (way_at d.crosses w).f) in
    let j = place_of s.sets (s.point (way_at d.crosses w).g) in
    let there = s.time + cond (speed_of d s w == 2) (room_of d s w / 2) (room_of d s w) in
    let last = cond (nat_lt (losses (sides_of d) (tide_of d s) w) (gains (sides_of d) (tide_of d s) w)) there never in
    cond-false {A = ℕ} (i == j) never (cond (s.rests i) never (cond (s.rests j) never last)) (ne_eqb i j c.two) ∙
    cond-false {A = ℕ} (s.rests i) never (cond (s.rests j) never last) c.one_awake ∙
    cond-false {A = ℕ} (s.rests j) never last c.two_awake ∙
    cond-true {A = ℕ} (nat_lt (losses (sides_of d) (tide_of d s) w) (gains (sides_of d) (tide_of d s) w)) there never
    (lt-ltb (losses (sides_of d) (tide_of d s) w) (gains (sides_of d) (tide_of d s) w) c.nearer)

-- it is no time before now
pub told_later : (d : Dual) (s : Sea) (never w : ℕ) → s.time ≤ never → s.time ≤ due_of d s never w
told_later d s never w h =
    later (place_of s.sets (s.point (way_at d.crosses w).f) == place_of s.sets (s.point (way_at d.crosses w).g)) never _ h
    (later (s.rests (place_of s.sets (s.point (way_at d.crosses w).f))) never _ h
    (later (s.rests (place_of s.sets (s.point (way_at d.crosses w).g))) never _ h
    (later (nat_lt (losses (sides_of d) (tide_of d s) w) (gains (sides_of d) (tide_of d s) w))
    (s.time + cond (speed_of d s w == 2) (room_of d s w / 2) (room_of d s w)) never (omega arith) h)))
  where
    later : (b : Bool) (x y : ℕ) → s.time ≤ x → s.time ≤ y → s.time ≤ cond b x y
    later true x y a b = a
    later false x y a b = b

-- What is computed is when something comes.
pub told_is : (d : Dual) (s : Sea) (never w : ℕ) → AreMoving s → s.time ≤ never → IsDueTime d s w (due_of d s never w)
told_is d s never w m h =
    let i = place_of s.sets (s.point (way_at d.crosses w).f) in
    let j = place_of s.sets (s.point (way_at d.crosses w).g) in
    let room = room_of d s w in
    let v = speed_of d s w in
    let half = cond (v == 2) (room / 2) room in
    let part : IsComing d s w → ((v ≡ 1) × (half ≡ room)) ⊎ ((v ≡ 2) × (half ≡ room / 2)) = λ c.
    elim (speed_cases (s.gain i) (s.gain j) (s.loss i) (s.loss j) (m.once i) (m.once j) c.nearer) [
      | inl one ↦ inl (one, cond-false {A = ℕ} (v == 2) (room / 2) room (ne_eqb v 2 (λ e. omega (arith, e, one))))
      | inr two ↦ inr (two.1.1, cond-true {A = ℕ} (v == 2) (room / 2) room (eq-eqb v 2 two.1.1))
    ] in
    record {
      later = told_later d s never w h;
      room = λ c.
          let span : due_of d s never w - s.time ≡ half = omega (arith, told_where d s never w c) in
          elim (part c) [
            | inl q ↦ subst (λ z. z * (due_of d s never w - s.time) ≤ room) (sym q.0) (omega (arith, span, q.1))
            | inr q ↦ subst (λ z. z * (due_of d s never w - s.time) ≤ room) (sym q.0) (omega (arith, span, q.1))
          ];
      last = λ c.
          let span : due_of d s never w - s.time ≡ half = omega (arith, told_where d s never w c) in
          elim (part c) [
            | inl q ↦ subst (λ z. room < z * (due_of d s never w - s.time + 1)) (sym q.0) (omega (arith, span, q.1))
            | inr q ↦ subst (λ z. room < z * (due_of d s never w - s.time + 1)) (sym q.0) (omega (arith, span, q.1))
          ];
    }

-- a key that came up too early and is set anew is early no more
pub early_falls : (places : ℕ) (due key : ℕ → ℕ) (p : ℕ) → p < places → key p < due p
    → early_keys places due (key_with key p (due p)) < early_keys places due key
early_falls places due key p hp early =
    let new = key_with key p (due p) in
    sum_but places p (λ w. cond {A = ℕ} (nat_lt (key w) (due w)) 1 0) (λ w. cond {A = ℕ} (nat_lt (new w) (due w)) 1 0) hp
    (λ w _ ne. ap (λ z. cond {A = ℕ} (nat_lt z (due w)) 1 0) (cond-false {A = ℕ} (w == p) (due p) (key w) (ne_eqb w p ne)))
    (omega (
      arith,
      cond-true {A = ℕ} (nat_lt (key p) (due p)) 1 0 (lt-ltb (key p) (due p) early),
      ap (λ z. cond {A = ℕ} (nat_lt z (due p)) 1 0) (cond-true {A = ℕ} (p == p) (due p) (key p) (eq-eqb p p refl)),
      cond-false {A = ℕ} (nat_lt (due p) (due p)) 1 0 (le-ltb (due p) (due p) (omega arith)),
    ))
