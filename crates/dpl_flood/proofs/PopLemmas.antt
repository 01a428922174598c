-- What a key tells that comes up.
use Rattle.std.proofs.Common.{arith, ◌≡◌, ◌≢◌, ℕ, ◌+◌, ◌*◌, ◌/◌, ◌%◌, ◌<◌, ◌⊎◌, ◌==◌, refl, sym, ap, ◌∙◌, subst, [], ◌∷◌}
use Rattle.std.proofs.Common.{cond, inl, inr, eq-eqb, List, length, get_or}
use Rattle.std.specs.Prelude.{nat_lt}
use Rattle.std.proofs.lemmas.Bool.{cases_eq, cases_lt, cases_Bool, cond-true, cond-false, ne_eqb, le-ltb}
use Rattle.dpl_dual.specs.declared.crosses.Dual.{Dual}
use Rattle.dpl_pack.specs.Points.{water}
use Rattle.dpl_pack.specs.Tides.{place_of}
use Rattle.dpl_pack.proofs.PointLemmas.{apart_back, on_water}
use Rattle.dpl_flood.specs.Dues.{gains, losses}
use Rattle.dpl_dual.specs.Duals.{way_at}
use Rattle.dpl_flood.specs.Seas.{Sea, sides_of, room_of, tide_of, IsSea, IsComing, speed_of, IsDueTime, due_of, HaveMet, HasReached, IsTopTime, AreHeldBy, span_for, span_at, span_of, Drops}
use Rattle.dpl_laminar.specs.Families.{has}
use Rattle.dpl_laminar.proofs.Numbers.{has_head}
use Rattle.dpl_flood.proofs.StackedLemmas.{last_leaves, cases_stack}
use Rattle.dpl_flood.proofs.SeaLemmas.{still_beyond}
use Rattle.dpl_flood.proofs.MeetLemmas.{has_come, tops_meet, meet_parity, top_takes}
use Rattle.dpl_flood.proofs.ToldLemmas.{told_is, told_later}
use Rattle.dpl_flood.proofs.ShoreLemmas.{cases_point}

-- something comes on a way, or it is told that never anything does
pub told_or : (d : Dual) (s : Sea) (never w : ℕ) → IsComing d s w ⊎ (due_of d s never w ≡ never)
told_or d s never w =
    let i = place_of s.sets (s.point (way_at d.crosses w).f) in
    let j = place_of s.sets (s.point (way_at d.crosses w).g) in
    let a = gains (sides_of d) (tide_of d s) w in
    let b = losses (sides_of d) (tide_of d s) w in
    let there = s.time + cond (speed_of d s w == 2) (room_of d s w / 2) (room_of d s w) in
    let last = cond (nat_lt b a) there never in
    elim (cases_eq i j) [
      | inl e ↦ inr (cond-true {A = ℕ} (i == j) never (cond (s.rests i) never (cond (s.rests j) never last)) (eq-eqb i j e))
      | inr ne ↦
          let first = cond-false {A = ℕ} (i == j) never (cond (s.rests i) never (cond (s.rests j) never last)) (ne_eqb i j ne) in
          elim (cases_Bool (s.rests i)) [
            | inl r ↦ inr (first ∙ cond-true {A = ℕ} (s.rests i) never (cond (s.rests j) never last) r)
            | inr r ↦
                let second = first ∙ cond-false {A = ℕ} (s.rests i) never (cond (s.rests j) never last) r in
                elim (cases_Bool (s.rests j)) [
                  | inl q ↦ inr (second ∙ cond-true {A = ℕ} (s.rests j) never last q)
                  | inr q ↦ elim (cases_lt b a) [
                    | inl l ↦ inl (record { two = ne; one_awake = r; two_awake = q; nearer = l })
                    | inr l ↦ inr (second ∙ cond-false {A = ℕ} (s.rests j) never last q ∙ cond-false {A = ℕ} (nat_lt b a) there never (le-ltb b a l))
                  ]
                ]
          ]
    ]

-- A way that comes up at this time is not due yet, or two tops have met over it, or one has come to open water.
pub pop_way : (d : Dual) (terminals : List ℕ) (s : Sea) (never w : ℕ) → IsSea d terminals s → s.time < never → w < length d.crosses
    → (way_at d.crosses w).length % 2 ≡ 0 → (way_at d.crosses w).f < d.faces → (way_at d.crosses w).g < d.faces
    → get_or d.part (way_at d.crosses w).f 0 ≡ get_or d.part (way_at d.crosses w).g 0
    → (s.time < due_of d s never w) ⊎ (HaveMet s (way_at d.crosses w).f (way_at d.crosses w).g (way_at d.crosses w).length
    ⊎ (HasReached d terminals s (way_at d.crosses w).f (way_at d.crosses w).g (way_at d.crosses w).length
    ⊎ HasReached d terminals s (way_at d.crosses w).g (way_at d.crosses w).f (way_at d.crosses w).length))
pop_way d terminals s never w sea ever hw even hf hg part =
    let f = (way_at d.crosses w).f in
    let g = (way_at d.crosses w).g in
    let long = (way_at d.crosses w).length in
    let beyond = still_beyond s sea.moving (2 * s.sets.size) (omega arith) in
    elim (told_or d s never w) [
      | inr n ↦ inl (omega (arith, n, ever))
      | inl c ↦ elim (cases_lt s.time (due_of d s never w)) [
        | inl l ↦ inl l
        | inr l ↦
            let now : due_of d s never w ≡ s.time = omega (arith, l, told_later d s never w (omega (arith, ever))) in
            let told = subst (IsDueTime d s w) now (told_is d s never w sea.moving (omega (arith, ever))) in
            let come = has_come d terminals s w sea hw even c told in
            elim (cases_point (s.point f)) [
              | inl a ↦ elim (cases_point (s.point g)) [
                | inl b ↦ absurd (c.two (ap (place_of s.sets) a ∙ sym (ap (place_of s.sets) b)))
                | inr b ↦
                    let land : s.point g ≢ water = λ e. on_water b.0 b.1.0 (sym b.1.1 ∙ e) in
                    let home = sea.flood.home g land in
                    let pa : place_of s.sets (s.point f) ≡ 2 * s.sets.size = ap (place_of s.sets) a in
                    let pb : place_of s.sets (s.point g) ≡ s.sets.top b.0 = ap (place_of s.sets) b.1.1 in
                    let grows : s.gain (s.sets.top b.0) ≡ 1 =
                    omega (arith, c.nearer, ap s.gain pa, ap s.loss pa, ap s.gain pb, ap s.loss pb, beyond.0, beyond.1, sea.moving.once (s.sets.top b.0)) in
                    inr (inr (inr (record {
                      member = b.0;
                      far = b.1.0;
                      at = b.1.1;
                      takes = top_takes d terminals s g f long b.0 b.1.0 sea even b.1.1 a grows (hf, part ∙ home.1)
                          (apart_back s.sets (s.point g) (s.point f) ∙ come);
                    })))
              ]
              | inr a ↦
                  let land : s.point f ≢ water = λ e. on_water a.0 a.1.0 (sym a.1.1 ∙ e) in
                  let home = sea.flood.home f land in
                  let pa : place_of s.sets (s.point f) ≡ s.sets.top a.0 = ap (place_of s.sets) a.1.1 in
                  elim (cases_point (s.point g)) [
                    | inl b ↦
                        let pb : place_of s.sets (s.point g) ≡ 2 * s.sets.size = ap (place_of s.sets) b in
                        let grows : s.gain (s.sets.top a.0) ≡ 1 =
                        omega (arith, c.nearer, ap s.gain pa, ap s.loss pa, ap s.gain pb, ap s.loss pb, beyond.0, beyond.1, sea.moving.once (s.sets.top a.0)) in
                        inr (inr (inl (record {
                          member = a.0;
                          far = a.1.0;
                          at = a.1.1;
                          takes = top_takes d terminals s f g long a.0 a.1.0 sea even a.1.1 b grows (hg, sym part ∙ home.1) come;
                        })))
                    | inr b ↦
                        let pb : place_of s.sets (s.point g) ≡ s.sets.top b.0 = ap (place_of s.sets) b.1.1 in
                        let ne : s.sets.top a.0 ≢ s.sets.top b.0 = λ e. c.two (pa ∙ e ∙ sym pb) in
                        inr (inl (record {
                          one = a.0;
                          far = a.1.0;
                          two = b.0;
                          beyond = b.1.0;
                          at_one = a.1.1;
                          at_two = b.1.1;
                          differ = ne;
                          tight = tops_meet d terminals s f g long a.0 a.1.0 b.0 b.1.0 sea a.1.1 b.1.1 ne come;
                          parity = meet_parity d terminals s f g long a.0 a.1.0 b.0 b.1.0 sea even a.1.1 b.1.1 ne come;
                          nearer = omega (arith, c.nearer, ap s.gain pa, ap s.loss pa, ap s.gain pb, ap s.loss pb);
                        }))
                  ]
            ]
      ]
    ]

-- ---- tops that fall

-- The time that is told of a top is no later than its next leave or its end,
pub span_told : (s : Sea) (stack : ℕ → List ℕ) (k : ℕ) → IsTopTime s stack k (s.time + span_of s stack k)
span_told s stack k = record {
  none = λ e. omega (arith, ap (span_for s k) e);
  some = λ h t far rest e at. omega (arith, ap (span_for s k) e, ap (span_at s) at);
}

-- and one that comes up at this time is not due yet, or has no value and no face of its own, or leaves its last face.
pub pop_top : (d : Dual) (terminals : List ℕ) (s : Sea) (stack : ℕ → List ℕ) (k : ℕ) → IsSea d terminals s → AreHeldBy terminals s stack
    → k < 2 * s.sets.size
    → (0 < span_of s stack k) ⊎ (((stack k ≡ []) × (s.sets.value k ≡ 0)) ⊎ Drops terminals s stack k)
pop_top d terminals s stack k sea held hk = elim (cases_lt 0 (span_of s stack k)) [
  | inl l ↦ inl l
  | inr l ↦ elim (cases_stack (stack k)) [
    | inl e ↦ inr (inl (e, omega (arith, l, ap (span_for s k) e)))
    | inr c ↦
        let h = c.0 in
        let is : stack k ≡ h ∷ c.1.0 = c.1.1 in
        let o = held.each k h hk (ap (λ z. has z h) is ∙ has_head h h c.1.0 refl) in
        inr (inr (record {
          face = h;
          rest = c.1.0;
          member = o.member;
          far = o.far;
          last = is;
          leaves = last_leaves d terminals s stack k h o.member o.far c.1.0 sea held hk is o.at
              (omega (arith, l, ap (span_for s k) is, ap (span_at s) o.at));
        }))
  ]
]
