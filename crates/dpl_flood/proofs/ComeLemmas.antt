-- What has come where a key is not too early.
use Rattle.std.proofs.Common.{arith, ◌≡◌, ◌≢◌, ℕ, ◌+◌, ◌-◌, ◌*◌, ◌%◌, ◌<◌, ◌≤◌, ◌==◌, ◌⊎◌, refl, sym, ap, ◌∙◌, subst, inl, inr, false, cond, eq-eqb, List, [], ◌∷◌, length, get_or}
use Rattle.std.proofs.Math.Path.{subst₂}
use Rattle.std.specs.Prelude.{nat_lt, slice_set}
use Rattle.std.proofs.lemmas.Bool.{cases_eq, cond-true, cond-false, lt-ltb, le-ltb, ne_eqb}
use Rattle.std.proofs.lemmas.List.{get_or-set_other, length-set}
use Rattle.std.proofs.lemmas.List.Elements.{All-get_or}
use Rattle.std.proofs.lemmas.Grind.{get_or-set_at}
use Rattle.dpl_laminar.specs.Families.{Sets, load_of}
use Rattle.dpl_laminar.specs.Storing.{sets_of}
use Rattle.dpl_laminar.proofs.Sums.{sum_same}
use Rattle.dpl_dual.specs.declared.crosses.Dual.{Dual}
use Rattle.dpl_dual.specs.declared.crosses.Cross.{Cross}
use Rattle.dpl_dual.specs.Chains.{beyond}
use Rattle.dpl_dual.specs.Duals.{way_at}
use Rattle.dpl_pack.specs.Points.{water, on}
use Rattle.dpl_pack.proofs.PointLemmas.{apart_back, load_apart, member_at, on_water}
use Rattle.dpl_pack.specs.Tides.{place_of as place_on}
use Rattle.dpl_tree.specs.declared.tree.Label.{Label}
use Rattle.dpl_tree.specs.declared.tree.Label.TheVariants.{Free, Outer, Inner}
use Rattle.dpl_tree.specs.steps.Forests.{gain, drop_of}
use Rattle.dpl_tree.specs.Views.{place_of}
use Rattle.dpl_flood.specs.declared.event.Crossing.{Crossing}
use Rattle.dpl_flood.specs.declared.standing.Standing.{Standing}
use Rattle.dpl_flood.specs.declared.state.State.{State}
use Rattle.dpl_flood.specs.Arenas.{IsOver}
use Rattle.dpl_flood.specs.Standings.{IsHeldAs, gain_of, loss_of}
use Rattle.dpl_flood.specs.Dues.{Sides, Tide, IsWithin, IsAtRest, HasRoom, IsDueAt}
use Rattle.dpl_flood.specs.Events.{Reaches, Meets, Shrinks, IsLater, due_in}
use Rattle.dpl_flood.specs.Holdings.{stack_of}
use Rattle.dpl_flood.specs.Queues.{never}
use Rattle.dpl_flood.specs.Seas.{Sea, IsComing, IsDueTime, HaveMet, HasReached, Drops, due_of, early_keys, key_with, sides_of, tide_of, span_of}
use Rattle.dpl_flood.specs.States.{sea_of, IsState, AreKeys, top_keys, fall_of}
use Rattle.dpl_flood.proofs.FlowLemmas.{same_top}
use Rattle.dpl_flood.proofs.MeetLemmas.{due_at}
use Rattle.dpl_flood.proofs.PopLemmas.{told_or, pop_way, pop_top}
use Rattle.dpl_flood.proofs.StandingLemmas.{top_is}
use Rattle.dpl_flood.proofs.ToldLemmas.{told_is, told_later, early_falls}

-- the load of two members is that of the second and the first
load_back : (f : Sets) (t u : ℕ) → load_of f t u ≡ load_of f u t
load_back f t u = load_apart f t u ∙ apart_back f (on t 0) (on u 0) ∙ sym (load_apart f u t)

-- a meeting from its other side
pub met_back : (s : Sea) (f g long : ℕ) → HaveMet s f g long → HaveMet s g f long
met_back s f g long m = record {
  one = m.two;
  far = m.beyond;
  two = m.one;
  beyond = m.far;
  at_one = m.at_two;
  at_two = m.at_one;
  differ = λ e. m.differ (sym e);
  tight = omega (arith, m.tight, load_back s.sets m.one m.two);
  parity = sym m.parity;
  nearer = omega (arith, m.nearer);
}

-- what comes on a way that is not due later
pub way_comes : (d : Dual) (x : State) (w : ℕ) → IsState d x → w < length d.crosses → due_of d (sea_of x) never w ≤ x.time
    → IsComing d (sea_of x) w × (HaveMet (sea_of x) (way_at d.crosses w).f (way_at d.crosses w).g (way_at d.crosses w).length
    ⊎ (HasReached d x.seats (sea_of x) (way_at d.crosses w).f (way_at d.crosses w).g (way_at d.crosses w).length
    ⊎ HasReached d x.seats (sea_of x) (way_at d.crosses w).g (way_at d.crosses w).f (way_at d.crosses w).length))
way_comes d x w st hw now =
    let ever : x.time < never = omega (arith, st.early) in (
      elim (told_or d (sea_of x) never w) [
        | inl c ↦ c
        | inr e ↦ absurd (omega (arith, e, now, ever))
      ],
      elim (pop_way d x.seats (sea_of x) never w st.sea ever hw (All-get_or (λ z. z.length % 2 ≡ 0) d.crosses w _ hw st.ground.even)
          (All-get_or (λ z. (z.f < d.faces) × (z.g < d.faces)) d.crosses w _ hw st.ground.inside).0
          (All-get_or (λ z. (z.f < d.faces) × (z.g < d.faces)) d.crosses w _ hw st.ground.inside).1
          (All-get_or (λ z. get_or d.part z.f 0 ≡ get_or d.part z.g 0) d.crosses w _ hw st.ground.part)) [
            | inl l ↦ absurd (omega (arith, l, now))
            | inr r ↦ r
          ],
    )

-- what comes of a set that is not due later
pub set_comes : (d : Dual) (x : State) (k : ℕ) → IsState d x → k < 2 * (sets_of x.family).size → fall_of (sea_of x) (stack_of x.held) k ≤ x.time
    → ((sea_of x).loss k ≡ 1) × (((stack_of x.held k ≡ []) × ((sets_of x.family).value k ≡ 0)) ⊎ Drops x.seats (sea_of x) (stack_of x.held) k)
set_comes d x k st hk now =
    let s = sea_of x in
    let later = x.time + span_of s (stack_of x.held) k in
    elim (cases_eq (s.loss k) 1) [
      | inr ne ↦ absurd (omega (arith, now, st.early, cond-false {A = ℕ} (s.loss k == 1) later never (ne_eqb (s.loss k) 1 ne)))
      | inl e ↦ (
        e,
        elim (pop_top d x.seats s (stack_of x.held) k st.sea st.held hk) [
          | inl l ↦ absurd (omega (arith, l, now, cond-true {A = ℕ} (s.loss k == 1) later never (eq-eqb (s.loss k) 1 e)))
          | inr r ↦ r
        ],
      )
    ]

-- ---- a key that is set anew

same_due : (e : Sides) (x : Tide) (now : ℕ) (old new : ℕ → ℕ) (w : ℕ) → new w ≡ old w → IsDueAt e x now old w → IsDueAt e x now new w
same_due e x now old new w is due = subst (λ z. IsWithin e x w ⊎ (IsAtRest e x w ⊎ HasRoom e x w (z - now))) (sym is) due

-- the keys stay right where that of a way is set anew
pub way_keys : (d : Dual) (x : State) (w : ℕ) (old : List ℕ) → IsState d x → w < length d.crosses → AreKeys d x old
    → AreKeys d x (slice_set old w (due_of d (sea_of x) never w))
way_keys d x w old st hw keys =
    let s = sea_of x in
    let told = due_of d s never w in
    let new = slice_set old w told in
    let inside : w < length old = omega (arith, hw, keys.places) in
    let ever : s.time ≤ never = omega (arith, st.early) in
    let at : get_or new w 0 ≡ told = get_or-set_at old w w told 0 refl inside in
    let other : (p : ℕ) → p ≢ w → get_or new p 0 ≡ get_or old p 0 = λ p ne. get_or-set_other old w p told 0 ne in
    let behind : (k : ℕ) → top_keys d new k ≡ top_keys d old k = λ k. other (length d.crosses + k) (λ e. omega (arith, e, hw)) in
    record {
      places = length-set old w told ∙ keys.places;
      due = record {
        ways = λ p h. elim (cases_eq p w) [
          | inl e ↦ subst (IsDueAt (sides_of d) (tide_of d s) s.time (λ q. get_or new q 0)) (sym e)
              (due_at d s w (λ q. get_or new q 0) (subst (IsDueTime d s w) (sym at) (told_is d s never w st.sea.moving ever)))
          | inr ne ↦ same_due (sides_of d) (tide_of d s) s.time (λ q. get_or old q 0) (λ q. get_or new q 0) p (other p ne) (keys.due.ways p h)
        ];
        tops = λ k l. same_top s (top_keys d old) (top_keys d new) k (behind k) (keys.due.tops k l);
      };
      now = record {
        ways = λ p h. elim (cases_eq p w) [
          | inl e ↦ omega (arith, ap (λ q. get_or new q 0) e, at, told_later d s never w ever)
          | inr ne ↦ omega (arith, other p ne, keys.now.ways p h)
        ];
        tops = λ k l. omega (arith, behind k, keys.now.tops k l);
      };
    }

-- and fewer are early
pub set_later : (d : Dual) (x : State) (p : ℕ) (old : List ℕ) → p < length old → get_or old p 0 < due_in d x p
    → IsLater d x old (slice_set old p (due_in d x p))
set_later d x p old hp early =
    let due = due_in d x in
    let key : ℕ → ℕ = λ q. get_or old q 0 in
    let new : ℕ → ℕ = λ q. get_or (slice_set old p (due p)) q 0 in
    let same : early_keys (length old) due new ≡ early_keys (length old) due (key_with key p (due p)) = sum_same (length old) _ _ (λ q h.
    ap (λ z. cond {A = ℕ} (nat_lt z (due q)) 1 0) (is q)) in
    omega (arith, same, early_falls (length old) due key p hp early)
  where
    is : (q : ℕ) → get_or (slice_set old p (due_in d x p)) q 0 ≡ key_with (λ z. get_or old z 0) p (due_in d x p) q
    is q = elim (cases_eq q p) [
      | inl e ↦ get_or-set_at old p q (due_in d x p) 0 e hp ∙ sym (cond-true {A = ℕ} (q == p) (due_in d x p) (get_or old q 0) (eq-eqb q p e))
      | inr ne ↦ get_or-set_other old p q (due_in d x p) 0 ne ∙ sym (cond-false {A = ℕ} (q == p) (due_in d x p) (get_or old q 0) (ne_eqb q p ne))
    ]

-- where something comes at a place
pub due_way : (d : Dual) (x : State) (w : ℕ) → w < length d.crosses → due_in d x w ≡ due_of d (sea_of x) never w
due_way d x w h = cond-true {A = ℕ} (nat_lt w (length d.crosses)) (due_of d (sea_of x) never w) (fall_of (sea_of x) (stack_of x.held) (w - length d.crosses))
    (lt-ltb w (length d.crosses) h)

pub due_set : (d : Dual) (x : State) (k : ℕ) → due_in d x (length d.crosses + k) ≡ fall_of (sea_of x) (stack_of x.held) k
due_set d x k =
    let n = length d.crosses in
    cond-false {A = ℕ} (nat_lt (n + k) n) (due_of d (sea_of x) never (n + k)) (fall_of (sea_of x) (stack_of x.held) (n + k - n)) (le-ltb (n + k) n (omega arith))
    ∙ ap (λ z. fall_of (sea_of x) (stack_of x.held) z) (let e : n + k - n ≡ k = omega arith in e)

-- ---- what comes on a way

-- the sides of a way
over_first : (d : Dual) (w : ℕ) → w < length d.crosses → IsOver d.crosses (way_at d.crosses w).f w (way_at d.crosses w).g
over_first d w h =
    let x = way_at d.crosses w in
    record { inside = h; at = inl refl; leads = cond-true {A = ℕ} (x.f == x.f) x.g x.f (eq-eqb x.f x.f refl) }

over_second : (d : Dual) (w : ℕ) → w < length d.crosses → IsOver d.crosses (way_at d.crosses w).g w (way_at d.crosses w).f
over_second d w h =
    let x = way_at d.crosses w in
    record {
      inside = h;
      at = inr refl;
      leads = elim (cases_eq x.f x.g) [
        | inl e ↦ cond-true {A = ℕ} (x.f == x.g) x.g x.f (eq-eqb x.f x.g e) ∙ sym e
        | inr ne ↦ cond-false {A = ℕ} (x.f == x.g) x.g x.f (ne_eqb x.f x.g ne)
      ];
    }

-- the same over a way from the other side
pub over_back : (d : Dual) (f w g : ℕ) → IsOver d.crosses f w g → IsOver d.crosses g w f
over_back d f w g o = elim o.at [
  | inl e ↦
      let to : (way_at d.crosses w).g ≡ g = sym (over_first d w o.inside).leads ∙ ap (beyond (way_at d.crosses w)) e ∙ o.leads in
      subst₂ (λ a b. IsOver d.crosses a w b) to e (over_second d w o.inside)
  | inr e ↦
      let to : (way_at d.crosses w).f ≡ g = sym (over_second d w o.inside).leads ∙ ap (beyond (way_at d.crosses w)) e ∙ o.leads in
      subst₂ (λ a b. IsOver d.crosses a w b) to e (over_first d w o.inside)
]

-- how the top of a held face moves
held_rates : (s : Sea) (f t far : ℕ) (x : Standing) → IsHeldAs s f x → s.point f ≡ on t far
    → (s.gain (s.sets.top t) ≡ gain_of x) × ((s.loss (s.sets.top t) ≡ loss_of x) × (s.rests (s.sets.top t) ≡ x.rests))
held_rates s f t far x h at =
    let same : h.member ≡ t = ap member_at (sym h.at ∙ at) in
    let top : s.sets.top t ≡ x.top = ap s.sets.top (sym same) ∙ sym h.is.top in
    (ap s.gain top ∙ h.is.gains, (ap s.loss top ∙ h.is.losses, ap s.rests top ∙ h.is.rests))

-- a top that grows has met another one that does not fall
pub has_met : (d : Dual) (s : Sea) (c : Crossing) (one two : Standing) → IsOver d.crosses c.from c.way c.to
    → HaveMet s c.from c.to (way_at d.crosses c.way).length → IsHeldAs s c.from one → IsHeldAs s c.to two → one.rests ≡ false → two.rests ≡ false
    → gain_of one ≡ 1 → (gain : ℕ) → gain_of two ≡ gain → loss_of two ≡ 0 → Meets d s gain c
has_met d s c one two over m h1 h2 r1 r2 g1 gain g2 l2 =
    let a = held_rates s c.from m.one m.far one h1 m.at_one in
    let b = held_rates s c.to m.two m.beyond two h2 m.at_two in
    record {
      over = over;
      met = m;
      grows = a.0 ∙ g1;
      gains = b.0 ∙ g2;
      stays = b.1.0 ∙ l2;
      one_awake = a.1.1 ∙ r1;
      two_awake = b.1.1 ∙ r2;
    }

-- tops that meet come nearer
pub meet_nearer : (s : Sea) (f g long : ℕ) (one two : Standing) → HaveMet s f g long → IsHeldAs s f one → IsHeldAs s g two
    → loss_of one + loss_of two < gain_of one + gain_of two
meet_nearer s f g long one two m h1 h2 =
    let a = held_rates s f m.one m.far one h1 m.at_one in
    let b = held_rates s g m.two m.beyond two h2 m.at_two in
    omega (arith, m.nearer, a.0, a.1.0, b.0, b.1.0)

-- what is not outer does not gain, and what gains does not lose
pub gain_outer : (l : Label) → l ≡ Outer → (gain (place_of l) ≡ 1) × (drop_of (place_of l) ≡ 0)
gain_outer l e = (ap (λ z. gain (place_of z)) e, ap (λ z. drop_of (place_of z)) e)

pub gain_other : (l : Label) → l ≢ Outer → gain (place_of l) ≡ 0
gain_other Free ne = refl
gain_other Outer ne = absurd (ne refl)
gain_other Inner ne = refl

pub gain_once : (l : Label) → gain (place_of l) + drop_of (place_of l) ≤ 1
gain_once Free = omega arith
gain_once Outer = omega arith
gain_once Inner = omega arith

-- two held faces
pub come_met : (d : Dual) (x : State) (w : ℕ) (e : Cross) (one two : Standing) → IsState d x → w < length d.crosses → e ≡ way_at d.crosses w
    → due_of d (sea_of x) never w ≤ x.time → IsHeldAs (sea_of x) e.f one → IsHeldAs (sea_of x) e.g two
    → IsOver d.crosses e.f w e.g × (HaveMet (sea_of x) e.f e.g (way_at d.crosses w).length × ((one.rests ≡ false) × (two.rests ≡ false)))
come_met d x w e one two st hw is now h1 h2 =
    let s = sea_of x in
    let c = way_comes d x w st hw now in
    let r1 : one.rests ≡ false = sym h1.is.rests ∙ ap s.rests (sym (top_is s e.f one h1) ∙ ap (λ (z : Cross). place_on s.sets (s.point z.f)) is) ∙ c.0.one_awake in
    let r2 : two.rests ≡ false = sym h2.is.rests ∙ ap s.rests (sym (top_is s e.g two h2) ∙ ap (λ (z : Cross). place_on s.sets (s.point z.g)) is) ∙ c.0.two_awake in (
      subst (λ (z : Cross). IsOver d.crosses z.f w z.g) (sym is) (over_first d w hw),
      (
        subst (λ (z : Cross). HaveMet s z.f z.g (way_at d.crosses w).length) (sym is) (elim c.1 [
          | inl m ↦ m
          | inr r ↦ elim r [
            | inl a ↦ absurd (on_water h2.member h2.far (sym h2.at ∙ ap (λ (z : Cross). s.point z.g) is ∙ a.takes.open_water))
            | inr a ↦ absurd (on_water h1.member h1.far (sym h1.at ∙ ap (λ (z : Cross). s.point z.f) is ∙ a.takes.open_water))
          ]
        ]),
        (r1, r2),
      ),
    )

-- the second one in open water
pub come_taken : (d : Dual) (x : State) (w : ℕ) (e : Cross) (one : Standing) → IsState d x → w < length d.crosses → e ≡ way_at d.crosses w
    → due_of d (sea_of x) never w ≤ x.time → IsHeldAs (sea_of x) e.f one → (sea_of x).point e.g ≡ water
    → Reaches d x (record { from = e.f; way = w; to = e.g })
come_taken d x w e one st hw is now h1 open_water =
    let s = sea_of x in
    let c = way_comes d x w st hw now in
    record {
      over = subst (λ (z : Cross). IsOver d.crosses z.f w z.g) (sym is) (over_first d w hw);
      reached = subst (λ (z : Cross). HasReached d x.seats s z.f z.g (way_at d.crosses w).length) (sym is) (elim c.1 [
        | inl m ↦ absurd (on_water m.two m.beyond (sym m.at_two ∙ ap (λ (z : Cross). s.point z.g) (sym is) ∙ open_water))
        | inr r ↦ elim r [
          | inl a ↦ a
          | inr a ↦ absurd (on_water h1.member h1.far (sym h1.at ∙ ap (λ (z : Cross). s.point z.f) is ∙ a.takes.open_water))
        ]
      ]);
    }

-- or the first one
pub come_back : (d : Dual) (x : State) (w : ℕ) (e : Cross) → IsState d x → w < length d.crosses → e ≡ way_at d.crosses w
    → due_of d (sea_of x) never w ≤ x.time → (sea_of x).point e.f ≡ water → Reaches d x (record { from = e.g; way = w; to = e.f })
come_back d x w e st hw is now open_water =
    let s = sea_of x in
    let c = way_comes d x w st hw now in
    let there : s.point (way_at d.crosses w).f ≡ water = ap (λ (z : Cross). s.point z.f) (sym is) ∙ open_water in
    record {
      over = subst (λ (z : Cross). IsOver d.crosses z.g w z.f) (sym is) (over_second d w hw);
      reached = subst (λ (z : Cross). HasReached d x.seats s z.g z.f (way_at d.crosses w).length) (sym is) (elim c.1 [
        | inl m ↦ absurd (on_water m.one m.far (sym m.at_one ∙ there))
        | inr r ↦ elim r [
          | inl a ↦ absurd (on_water a.member a.far (sym a.at ∙ there))
          | inr a ↦ a
        ]
      ]);
    }

-- a set that has come down to its last face
pub come_down : (d : Dual) (x : State) (k h : ℕ) (rest : List ℕ) → IsState d x → k < 2 * (sets_of x.family).size
    → fall_of (sea_of x) (stack_of x.held) k ≤ x.time → stack_of x.held k ≡ h ∷ rest → Shrinks x k
come_down d x k h rest st hk now is =
    let c = set_comes d x k st hk now in
    record {
      inside = hk;
      falls = c.0;
      drops = elim c.1 [
        | inl e ↦ absurd (not_none (sym is ∙ e.0))
        | inr r ↦ r
      ];
    }
  where
    not_none : h ∷ rest ≡ [] → ⊥
    not_none e = omega (arith, ap length e)
