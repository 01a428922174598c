-- While there are two trees something comes.
use Rattle.std.proofs.Common.{arith, ◌≡◌, ◌≢◌, ℕ, zero, suc, ◌+◌, ◌-◌, ◌*◌, ◌<◌, ◌≤◌, ◌⊎◌, ◌==◌, sym, ap, ◌∙◌}
use Rattle.std.proofs.Common.{Bool, true, false, inl, inr, eq-eqb, List, [], ◌∷◌, length, get_or}
use Rattle.std.proofs.lemmas.Bool.{cases_eq, cond-true, cond-false, ne_eqb, true≢false}
use Rattle.std.proofs.lemmas.List.{get_or_default}
use Rattle.dpl_dual.specs.declared.crosses.Cross.{Cross}
use Rattle.dpl_dual.specs.declared.crosses.Dual.{Dual}
use Rattle.dpl_dual.specs.Chains.{no_cross, IsAt, beyond, Leads}
use Rattle.dpl_pack.specs.Tides.{place_of}
use Rattle.dpl_flood.specs.Dues.{gains, losses, IsDueAt, NoneRests}
use Rattle.dpl_dual.specs.Duals.{way_at}
use Rattle.dpl_flood.specs.Seas.{Sea, sides_of, room_of, tide_of, AreMoving, IsSea, IsSeaDue, IsComing}
use Rattle.dpl_flood.proofs.MeetLemmas.{split_speed}

-- a way that leaves a top
pub record IsOut (d : Dual) (s : Sea) (k : ℕ) : Type 0 where
  pub way : ℕ
  pub below : way < length d.crosses
  pub is : ((place_of s.sets (s.point (way_at d.crosses way).f) ≡ k) × (place_of s.sets (s.point (way_at d.crosses way).g) ≢ k))
      ⊎ ((place_of s.sets (s.point (way_at d.crosses way).g) ≡ k) × (place_of s.sets (s.point (way_at d.crosses way).f) ≢ k))

-- one way: the sides are the face and what is beyond
sides : (x : Cross) (f : ℕ) → IsAt x f → ((x.f ≡ f) × (beyond x f ≡ x.g)) ⊎ ((x.g ≡ f) × (beyond x f ≡ x.f))
sides x f at = elim (cases_eq x.f f) [
  | inl e ↦ inl (e, cond-true {A = ℕ} (x.f == f) x.g x.f (eq-eqb x.f f e))
  | inr ne ↦ elim at [
    | inl e ↦ absurd (ne e)
    | inr e ↦ inr (e, cond-false {A = ℕ} (x.f == f) x.g x.f (ne_eqb x.f f ne))
  ]
]

-- a chain that leaves a top has a way that does
pub chain_out : (d : Dual) (s : Sea) (k a : ℕ) (xs : List Cross) (b : ℕ) → Leads d.crosses a xs b → place_of s.sets (s.point a) ≡ k
    → place_of s.sets (s.point b) ≢ k → IsOut d s k
chain_out d s k a [] b l here there = absurd (there (ap (λ z. place_of s.sets (s.point z)) (sym l) ∙ here))
chain_out d s k a (x ∷ xs) b l here there = elim (cases_eq (place_of s.sets (s.point (beyond x a))) k) [
  | inl e ↦ chain_out d s k (beyond x a) xs b l.2 e there
  | inr ne ↦
      let w = l.0.0 in
      let hw = l.0.1 in
      let is : way_at d.crosses w ≡ x = get_or_default d.crosses w no_cross x hw ∙ l.0.2 in
      record {
        way = w;
        below = hw;
        is = elim (sides x a l.1) [
          | inl q ↦ inl (
            ap (λ (z : Cross). place_of s.sets (s.point z.f)) is ∙ ap (λ z. place_of s.sets (s.point z)) q.0 ∙ here,
            (λ e. ne (ap (λ z. place_of s.sets (s.point z)) q.1 ∙ sym (ap (λ (z : Cross). place_of s.sets (s.point z.g)) is) ∙ e)),
          )
          | inr q ↦ inr (
            ap (λ (z : Cross). place_of s.sets (s.point z.g)) is ∙ ap (λ z. place_of s.sets (s.point z)) q.0 ∙ here,
            (λ e. ne (ap (λ z. place_of s.sets (s.point z)) q.1 ∙ sym (ap (λ (z : Cross). place_of s.sets (s.point z.f)) is) ∙ e)),
          )
        ];
      }
]

-- Where nothing rests, something comes on a way that leaves a top that grows, or it leads to a top that falls.
pub out_comes : (d : Dual) (s : Sea) (k : ℕ) → AreMoving s → NoneRests (tide_of d s) → s.gain k ≡ 1 → IsOut d s k
    → ((w : ℕ) × ((w < length d.crosses) × IsComing d s w)) ⊎ ((j : ℕ) × (s.loss j ≡ 1))
out_comes d s k m none grows o =
    let w = o.way in
    let i = place_of s.sets (s.point (way_at d.crosses w).f) in
    let j = place_of s.sets (s.point (way_at d.crosses w).g) in
    let still : s.loss k ≡ 0 = omega (arith, m.once k, grows) in
    elim o.is [
      | inl q ↦ elim (cases_eq (s.loss j) 1) [
        | inl e ↦ inr (j, e)
        | inr ne ↦ inl (
          w,
          (
            o.below,
            record {
              two = λ e. q.1 (sym e ∙ q.0);
              one_awake = none i;
              two_awake = none j;
              nearer = omega (arith, m.once j, ne, ap s.gain q.0, ap s.loss q.0, grows, still);
            },
          ),
        )
      ]
      | inr q ↦ elim (cases_eq (s.loss i) 1) [
        | inl e ↦ inr (i, e)
        | inr ne ↦ inl (
          w,
          (
            o.below,
            record {
              two = λ e. q.1 (e ∙ q.0);
              one_awake = none i;
              two_awake = none j;
              nearer = omega (arith, m.once i, ne, ap s.gain q.0, ap s.loss q.0, grows, still);
            },
          ),
        )
      ]
    ]

-- the key of such a way is no later than the room allows
coming_key : (d : Dual) (s : Sea) (w : ℕ) (key : ℕ → ℕ) → IsComing d s w → IsDueAt (sides_of d) (tide_of d s) s.time key w
    → key w ≤ s.time + room_of d s w
coming_key d s w key c due = elim due [
  | inl e ↦ absurd (c.two e)
  | inr x ↦ elim x [
    | inl rest ↦ elim rest [
      | inl r ↦ absurd (differs r c.one_awake)
      | inr r ↦ absurd (differs r c.two_awake)
    ]
    | inr room ↦
        let a = gains (sides_of d) (tide_of d s) w in
        let b = losses (sides_of d) (tide_of d s) w in
        omega (arith, room, split_speed a b (key w - s.time) c.nearer, more (a - b) (key w - s.time) (omega (arith, c.nearer)))
  ]
]
  where
    differs : {b : Bool} → b ≡ true → b ≡ false → ⊥
    differs p q = true≢false (sym p ∙ q)

    more : (v n : ℕ) → 1 ≤ v → n ≤ v * n
    more zero n h = absurd (omega arith)
    more (suc v) n h = omega arith

-- Some key is set: while two trees stand and nothing rests, one of a way or of a top that falls is not never.
pub some_key : (d : Dual) (terminals : List ℕ) (s : Sea) (way_key top_key : ℕ → ℕ) (a b : ℕ) (xs : List Cross) → IsSea d terminals s
    → IsSeaDue d s way_key top_key → NoneRests (tide_of d s) → a < s.sets.size → b < s.sets.size → s.sets.top a ≢ s.sets.top b
    → s.gain (s.sets.top a) ≡ 1 → Leads d.crosses (get_or terminals a 0) xs (get_or terminals b 0)
    → ((w : ℕ) × ((w < length d.crosses) × (way_key w ≤ s.time + room_of d s w)))
    ⊎ ((k : ℕ) × ((s.loss k ≡ 1) × (top_key k ≤ s.time + s.sets.value k)))
some_key d terminals s way_key top_key a b xs sea due none ha hb ne grows leads =
    let pa : place_of s.sets (s.point (get_or terminals a 0)) ≡ s.sets.top a = ap (place_of s.sets) (sea.seated a ha) in
    let pb : place_of s.sets (s.point (get_or terminals b 0)) ≡ s.sets.top b = ap (place_of s.sets) (sea.seated b hb) in
    let out = chain_out d s (s.sets.top a) (get_or terminals a 0) xs (get_or terminals b 0) leads pa (λ e. ne (sym e ∙ pb)) in
    elim (out_comes d s (s.sets.top a) sea.moving none grows out) [
      | inl w ↦ inl (w.0, (w.1.0, coming_key d s w.0 way_key w.1.1 (due.ways w.0 w.1.0)))
      | inr k ↦ inr (k.0, (k.1, omega (arith, (due.tops k.0 k.1).value)))
    ]
