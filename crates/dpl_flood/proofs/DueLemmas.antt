-- What is due stays due.
use Rattle.std.proofs.Common.{arith, ◌≡◌, ◌≢◌, ℕ, zero, suc, ◌+◌, ◌-◌, ◌*◌, ◌<◌, ◌≤◌, refl, sym, ap, ◌∙◌}
use Rattle.std.proofs.Common.{subst, Bool, true, false, inl, inr, ◌⊎◌}
use Rattle.std.proofs.lemmas.Bool.{cases_eq, cases_Bool, true≢false}
use Rattle.std.proofs.Math.Nat.{add-mul}
use Rattle.dpl_flood.specs.Dues.{Tide, Sides, gains, losses, HasRoom, IsDue, NoneRests, AreRates, Passes, IsCalm, Turns, AreLooked}

-- what is at most 2
cases_two : (a : ℕ) → a ≤ 2 → (a ≡ 0) ⊎ ((a ≡ 1) ⊎ (a ≡ 2))
cases_two zero h = inl refl
cases_two (suc zero) h = inr (inl refl)
cases_two (suc (suc zero)) h = inr (inr refl)
cases_two (suc (suc (suc a))) h = absurd (omega arith)

-- where there is room after a time there was room all along
room_at : (a b r d D : ℕ) → (a ≡ 0) ⊎ ((a ≡ 1) ⊎ (a ≡ 2)) → (b ≡ 0) ⊎ ((b ≡ 1) ⊎ (b ≡ 2)) → d ≤ D → a * D ≤ r + b * D → a * d ≤ r + b * d
room_at a b r d D ca cb h p = elim ca [
  | inl e ↦ subst (λ z. z * d ≤ r + b * d) (sym e) (omega arith)
  | inr f ↦ elim f [
    | inl e ↦ elim cb [
      | inl y ↦ subst (λ z. z * d ≤ r + b * d) (sym e) (subst (λ z. 1 * d ≤ r + z * d) (sym y) (omega (arith, h, subst (λ z. z * D ≤ r + 0 * D) e (subst (λ z. a * D ≤ r + z * D) y p))))
      | inr g ↦ elim g [
        | inl y ↦ subst (λ z. z * d ≤ r + b * d) (sym e) (subst (λ z. 1 * d ≤ r + z * d) (sym y) (omega arith))
        | inr y ↦ subst (λ z. z * d ≤ r + b * d) (sym e) (subst (λ z. 1 * d ≤ r + z * d) (sym y) (omega arith))
      ]
    ]
    | inr e ↦ elim cb [
      | inl y ↦ subst (λ z. z * d ≤ r + b * d) (sym e) (subst (λ z. 2 * d ≤ r + z * d) (sym y) (omega (arith, h, subst (λ z. z * D ≤ r + 0 * D) e (subst (λ z. a * D ≤ r + z * D) y p))))
      | inr g ↦ elim g [
        | inl y ↦ subst (λ z. z * d ≤ r + b * d) (sym e) (subst (λ z. 2 * d ≤ r + z * d) (sym y) (omega (arith, h, subst (λ z. z * D ≤ r + 1 * D) e (subst (λ z. a * D ≤ r + z * D) y p))))
        | inr y ↦ subst (λ z. z * d ≤ r + b * d) (sym e) (subst (λ z. 2 * d ≤ r + z * d) (sym y) (omega arith))
      ]
    ]
  ]
]

-- less gain and more loss leave room
pub room_more : (a b c e r d : ℕ) → a ≤ c → e ≤ b → c * d ≤ r + e * d → a * d ≤ r + b * d
room_more a b c e r d h k p =
    let x : a * d + (c - a) * d ≡ c * d = sym (add-mul a (c - a) d) ∙ ap (λ z. z * d) (omega (arith, h)) in
    let y : e * d + (b - e) * d ≡ b * d = sym (add-mul e (b - e) d) ∙ ap (λ z. z * d) (omega (arith, k)) in
    omega (arith, x, y, p)

-- no more gain than loss leaves room
room_even : (a b r d : ℕ) → a ≤ b → a * d ≤ r + b * d
room_even a b r d h =
    let x : a * d + (b - a) * d ≡ b * d = sym (add-mul a (b - a) d) ∙ ap (λ z. z * d) (omega (arith, h)) in
    omega (arith, x)

-- a product with a sum is the sum of both
pub spread : (a b c : ℕ) → a * (b + c) ≡ a * b + a * c
spread zero b c = omega arith
spread (suc a) b c = omega (arith, spread a b c)

-- ---- time

gains_most : (e : Sides) (x : Tide) → AreRates x → (w : ℕ) → gains e x w ≤ 2
gains_most e x r w = omega (arith, r.gain (x.place (e.one w)), r.gain (x.place (e.two w)))

losses_most : (e : Sides) (x : Tide) → AreRates x → (w : ℕ) → losses e x w ≤ 2
losses_most e x r w = omega (arith, r.loss (x.place (e.one w)), r.loss (x.place (e.two w)))

-- where nothing rests, a way between two tops has room until its key
room_until : (n : ℕ) (e : Sides) (x : Tide) (now : ℕ) (key : ℕ → ℕ) → NoneRests x → IsDue n e x now key → (w : ℕ) → w < n
    → x.place (e.one w) ≢ x.place (e.two w) → HasRoom e x w (key w - now)
room_until n e x now key none due w hw ne = elim (due w hw) [
  | inl same ↦ absurd (ne same)
  | inr z ↦ elim z [
    | inl rest ↦ elim rest [
      | inl y ↦ absurd (true≢false (sym y ∙ none (x.place (e.one w))))
      | inr y ↦ absurd (true≢false (sym y ∙ none (x.place (e.two w))))
    ]
    | inr room ↦ room
  ]
]

-- so no way between two tops is overloaded before the first key
pub room_before : (n : ℕ) (e : Sides) (x : Tide) (now t : ℕ) (key : ℕ → ℕ) → AreRates x → NoneRests x → IsDue n e x now key → now ≤ t
    → ((w : ℕ) → w < n → t ≤ key w) → (w : ℕ) → w < n → x.place (e.one w) ≢ x.place (e.two w) → HasRoom e x w (t - now)
room_before n e x now t key rates none due late first w hw ne =
    room_at (gains e x w) (losses e x w) (x.room w) (t - now) (key w - now) (cases_two (gains e x w) (gains_most e x rates w))
    (cases_two (losses e x w) (losses_most e x rates w)) (omega (arith, late, first w hw)) (room_until n e x now key none due w hw ne)

same_gains : (e : Sides) (x y : Tide) (span n : ℕ) → Passes n e x y span → (w : ℕ) → gains e y w ≡ gains e x w
same_gains e x y span n p w =
    let a = ap y.gain (p.place (e.one w)) ∙ p.gain (x.place (e.one w)) in
    let b = ap y.gain (p.place (e.two w)) ∙ p.gain (x.place (e.two w)) in
    omega (arith, a, b)

same_losses : (e : Sides) (x y : Tide) (span n : ℕ) → Passes n e x y span → (w : ℕ) → losses e y w ≡ losses e x w
same_losses e x y span n p w =
    let a = ap y.loss (p.place (e.one w)) ∙ p.loss (x.place (e.one w)) in
    let b = ap y.loss (p.place (e.two w)) ∙ p.loss (x.place (e.two w)) in
    omega (arith, a, b)

-- the same keys serve when time has passed
pub passed : (n : ℕ) (e : Sides) (x y : Tide) (now t : ℕ) (key : ℕ → ℕ) → AreRates x → NoneRests x → IsDue n e x now key → now ≤ t
    → ((w : ℕ) → w < n → t ≤ key w) → Passes n e x y (t - now) → IsDue n e y t key
passed n e x y now t key rates none due late first p w hw = elim (cases_eq (x.place (e.one w)) (x.place (e.two w))) [
  | inl same ↦ inl (p.place (e.one w) ∙ same ∙ sym (p.place (e.two w)))
  | inr ne ↦
      let room = room_until n e x now key none due w hw ne in
      let left = key w - t in
      let span = t - now in
      let parts : key w - now ≡ left + span = omega (arith, late, first w hw) in
      let all : gains e x w * (left + span) ≤ x.room w + losses e x w * (left + span) =
      subst (λ z. gains e x w * z ≤ x.room w + losses e x w * z) parts room in
      let moved = p.apart w hw ne in
      let fine : gains e x w * left ≤ y.room w + losses e x w * left =
      omega (arith, all, moved, spread (gains e x w) left span, spread (losses e x w) left span) in
      inr (inr (subst (λ z. z * left ≤ y.room w + losses e y w * left) (sym (same_gains e x y (t - now) n p w))
      (subst (λ z. gains e x w * left ≤ y.room w + z * left) (sym (same_losses e x y (t - now) n p w)) fine)))
]

-- ---- events

-- what does not come nearer than before is due no earlier
still_due : (e : Sides) (x y : Tide) (now : ℕ) (old new : ℕ → ℕ) (w : ℕ) → y.room w ≡ x.room w → new w ≡ old w → gains e y w ≤ gains e x w
    → losses e x w ≤ losses e y w → HasRoom e x w (old w - now) → HasRoom e y w (new w - now)
still_due e x y now old new w room key gain loss h =
    let more : gains e y w * (old w - now) ≤ x.room w + losses e y w * (old w - now) =
    room_more (gains e y w) (losses e y w) (gains e x w) (losses e x w) (x.room w) (old w - now) gain loss h in
    subst (λ z. gains e y w * (z - now) ≤ y.room w + losses e y w * (z - now)) (sym key)
    (subst (λ z. gains e y w * (old w - now) ≤ z + losses e y w * (old w - now)) (sym room) more)

-- a way whose faces come no nearer has room for good
pub even_due : (e : Sides) (y : Tide) (now : ℕ) (new : ℕ → ℕ) (w : ℕ) → gains e y w ≤ losses e y w → HasRoom e y w (new w - now)
even_due e y now new w h = room_even (gains e y w) (losses e y w) (y.room w) (new w - now) h

-- An event keeps all that is due, where the ways at the faces that are not calm are looked at.
pub kept : (n : ℕ) (e : Sides) (x y : Tide) (now : ℕ) (looked : ℕ → Bool) (old new : ℕ → ℕ) → IsDue n e x now old
    → Turns n e x y looked → AreLooked n e y now looked old new → IsDue n e y now new
kept n e x y now looked old new due t l w hw = elim (cases_Bool (looked (e.one w))) [
  | inl a ↦ l.one w hw a
  | inr a ↦ elim (cases_Bool (looked (e.two w))) [
    | inl b ↦ l.two w hw b
    | inr b ↦ elim (t.calm (e.one w) a).is [
      | inl r ↦ inr (inl (inl r))
      | inr p ↦ elim (t.calm (e.two w) b).is [
        | inl r ↦ inr (inl (inr r))
        | inr q ↦ elim (due w hw) [
          | inl same ↦ elim (t.within w hw a b same) [
            | inl s ↦ inl s
            | inr s ↦ inr (inr (even_due e y now new w s))
          ]
          | inr z ↦ elim z [
            | inl rest ↦ elim rest [
              | inl r ↦ absurd (true≢false (sym r ∙ p.1.1))
              | inr r ↦ absurd (true≢false (sym r ∙ q.1.1))
            ]
            | inr h ↦ elim (l.others w hw a b) [
              | inl same ↦ inr (inr (still_due e x y now old new w (t.room w hw) same (omega (arith, p.0, q.0))
                  (omega (arith, p.1.0, q.1.0)) h))
              | inr again ↦ again
            ]
          ]
        ]
      ]
    ]
  ]
]

-- a face whose top is the same, and gains no more and loses no less, and rests if it did
calm_same : (x y : Tide) (g : ℕ) → y.place g ≡ x.place g → y.gain (x.place g) ≤ x.gain (x.place g)
    → (x.loss (x.place g) ≤ y.loss (x.place g)) ⊎ (y.rests (x.place g) ≡ true)
    → (x.rests (x.place g) ≡ true → y.rests (x.place g) ≡ true) → IsCalm x y g
calm_same x y g p gain loss rest = elim (cases_Bool (x.rests (x.place g))) [
  | inl r ↦ record { is = inl (ap y.rests p ∙ rest r) }
  | inr r ↦ elim loss [
    | inl l ↦ record { is = inr (subst (λ z. y.gain z ≤ x.gain (x.place g)) (sym p) gain, (subst (λ z. x.loss (x.place g) ≤ y.loss z) (sym p) l, r)) }
    | inr s ↦ record { is = inl (ap y.rests p ∙ s) }
  ]
]

-- grow: one top rises, and its faces are looked at; no other one gains more or loses less
pub grown : (n : ℕ) (e : Sides) (x y : Tide) (looked : ℕ → Bool) (p : ℕ) → ((g : ℕ) → y.place g ≡ x.place g)
    → ((w : ℕ) → y.room w ≡ x.room w) → ((k : ℕ) → y.rests k ≡ x.rests k) → ((k : ℕ) → k ≢ p → y.gain k ≤ x.gain k)
    → ((k : ℕ) → k ≢ p → x.loss k ≤ y.loss k) → ((g : ℕ) → looked g ≡ false → x.place g ≢ p) → Turns n e x y looked
grown n e x y looked p place room rest gain loss at = record {
  room = λ w _. room w;
  calm = λ g u. calm_same x y g (place g) (gain (x.place g) (at g u)) (inl (loss (x.place g) (at g u))) (λ r. rest (x.place g) ∙ r);
  within = λ w _ _ _ s. inl (place (e.one w) ∙ s ∙ sym (place (e.two w)));
}

-- augment: tops that fall no more rest, no top gains more, and none ceases to rest; nothing is looked at
pub freed : (n : ℕ) (e : Sides) (x y : Tide) (looked : ℕ → Bool) → ((g : ℕ) → y.place g ≡ x.place g) → ((w : ℕ) → y.room w ≡ x.room w)
    → ((k : ℕ) → x.rests k ≡ true → y.rests k ≡ true) → ((k : ℕ) → y.gain k ≤ x.gain k)
    → ((k : ℕ) → (x.loss k ≤ y.loss k) ⊎ (y.rests k ≡ true)) → Turns n e x y looked
freed n e x y looked place room rest gain loss = record {
  room = λ w _. room w;
  calm = λ g _. calm_same x y g (place g) (gain (x.place g)) (loss (x.place g)) (rest (x.place g));
  within = λ w _ _ _ s. inl (place (e.one w) ∙ s ∙ sym (place (e.two w)));
}

-- thaw: what rested is looked at
pub thawed : (n : ℕ) (e : Sides) (x y : Tide) (looked : ℕ → Bool) → ((g : ℕ) → y.place g ≡ x.place g) → ((w : ℕ) → y.room w ≡ x.room w)
    → ((k : ℕ) → y.gain k ≡ x.gain k) → ((k : ℕ) → y.loss k ≡ x.loss k)
    → ((g : ℕ) → looked g ≡ false → x.rests (x.place g) ≡ false) → Turns n e x y looked
thawed n e x y looked place room gain loss at = record {
  room = λ w _. room w;
  calm = λ g u. calm_same x y g (place g) (omega (arith, gain (x.place g))) (inl (omega (arith, loss (x.place g))))
      (λ r. absurd (true≢false (sym r ∙ at g u)));
  within = λ w _ _ _ s. inl (place (e.one w) ∙ s ∙ sym (place (e.two w)));
}

-- take and leave: one face comes to a top or goes, and is looked at. One way has it on both sides or on one.
pub moved : (n : ℕ) (e : Sides) (x y : Tide) (looked : ℕ → Bool) (h : ℕ) → ((g : ℕ) → g ≢ h → y.place g ≡ x.place g)
    → ((w : ℕ) → y.room w ≡ x.room w) → ((k : ℕ) → y.gain k ≡ x.gain k) → ((k : ℕ) → y.loss k ≡ x.loss k)
    → ((k : ℕ) → y.rests k ≡ x.rests k) → ((g : ℕ) → looked g ≡ false → g ≢ h) → Turns n e x y looked
moved n e x y looked h place room gain loss rest at = record {
  room = λ w _. room w;
  calm = λ g u. calm_same x y g (place g (at g u)) (omega (arith, gain (x.place g))) (inl (omega (arith, loss (x.place g)))) (λ r. rest (x.place g) ∙ r);
  within = λ w _ u v s. inl (place (e.one w) (at (e.one w) u) ∙ s ∙ sym (place (e.two w) (at (e.two w) v)));
}

-- fold: some tops become one that gains; those of them that did not gain are looked at
pub folded : (n : ℕ) (e : Sides) (x y : Tide) (looked : ℕ → Bool) (child : ℕ → Bool) (set : ℕ)
    → ((g : ℕ) → child (x.place g) ≡ true → y.place g ≡ set) → ((g : ℕ) → child (x.place g) ≡ false → y.place g ≡ x.place g)
    → ((w : ℕ) → y.room w ≡ x.room w) → AreRates y
    → ((k : ℕ) → k ≢ set → child k ≡ false → (y.gain k ≡ x.gain k) × ((y.loss k ≡ x.loss k) × (y.rests k ≡ x.rests k)))
    → ((g : ℕ) → child (x.place g) ≡ false → x.place g ≢ set)
    → ((g : ℕ) → looked g ≡ false → child (x.place g) ≡ true → (x.gain (x.place g) ≡ 1) × ((x.loss (x.place g) ≡ 0) × (x.rests (x.place g) ≡ false)))
    → Turns n e x y looked
folded n e x y looked child set into out room rates same fresh grew = record {
  room = λ w _. room w;
  calm = λ g u. elim (cases_Bool (child (x.place g))) [
    | inl c ↦
        let a = grew g u c in
        record { is = inr (omega (arith, a.0, rates.gain (y.place g)), (omega (arith, a.1.0), a.1.1)) }
    | inr c ↦
        let a = same (x.place g) (fresh g c) c in
        calm_same x y g (out g c) (omega (arith, a.0)) (inl (omega (arith, a.1.0))) (λ r. a.1.1 ∙ r)
  ];
  within = λ w _ _ _ s. elim (cases_Bool (child (x.place (e.one w)))) [
    | inl c ↦ inl (into (e.one w) c ∙ sym (into (e.two w) (ap child (sym s) ∙ c)))
    | inr c ↦ inl (out (e.one w) c ∙ s ∙ sym (out (e.two w) (ap child (sym s) ∙ c)))
  ];
}

-- give way: a top that fell becomes several; those of them that do not fall are looked at
pub opened : (n : ℕ) (e : Sides) (x y : Tide) (looked : ℕ → Bool) (set : ℕ)
    → ((g : ℕ) → x.place g ≢ set → (y.place g ≡ x.place g) × ((y.gain (x.place g) ≡ x.gain (x.place g)) ×
    ((y.loss (x.place g) ≡ x.loss (x.place g)) × (y.rests (x.place g) ≡ x.rests (x.place g)))))
    → ((w : ℕ) → y.room w ≡ x.room w) → AreRates x → x.rests set ≡ false
    → ((g : ℕ) → looked g ≡ false → x.place g ≡ set → (y.gain (y.place g) ≡ 0) × (y.loss (y.place g) ≡ 1))
    → Turns n e x y looked
opened n e x y looked set out room rates awake falls = record {
  room = λ w _. room w;
  calm = λ g u. elim (cases_eq (x.place g) set) [
    | inl s ↦
        let a = falls g u s in
        record { is = inr (omega (arith, a.0), (omega (arith, a.1, rates.loss (x.place g)), ap x.rests s ∙ awake)) }
    | inr ne ↦
        let a = out g ne in
        calm_same x y g a.0 (omega (arith, a.1.0)) (inl (omega (arith, a.1.1.0))) (λ r. a.1.1.1 ∙ r)
  ];
  within = λ w _ u v s. elim (cases_eq (x.place (e.one w)) set) [
    | inl c ↦
        let a = falls (e.one w) u c in
        let b = falls (e.two w) v (sym s ∙ c) in
        inr (omega (arith, a.0, a.1, b.0, b.1))
    | inr ne ↦ inl ((out (e.one w) ne).0 ∙ s ∙ sym (out (e.two w) (λ z. ne (s ∙ z))).0)
  ];
}
