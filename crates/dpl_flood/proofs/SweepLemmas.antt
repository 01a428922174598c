-- What stays while no tree changes, and that it ends.
use Rattle.std.proofs.Common.{arith, zero, suc, ◌≡◌, ℕ, ◌+◌, ◌-◌, ◌*◌, ◌^◌, ◌<◌, ◌≤◌, ◌⊎◌, ◌==◌, refl, sym, ap, ◌∙◌, subst, inl, inr, true, false, cond, List, ◌∷◌, [], length}
use Rattle.std.specs.Prelude.{max, slice_index, slice_index_or, nat_lt}
use Rattle.std.proofs.lemmas.Int.{clamps}
use Rattle.std.proofs.lemmas.List.{get_or_default}
use Rattle.std.proofs.lemmas.Bool.{cases_eq, cases_lt, cases_Bool, cond-true, cond-false, ne_eqb, true≢false}
use Rattle.dpl_laminar.specs.Families.{Sets, has}
use Rattle.dpl_laminar.specs.Storing.{sets_of}
use Rattle.dpl_laminar.proofs.Numbers.{has_head}
use Rattle.dpl_laminar.proofs.Sums.{sum_same}
use Rattle.dpl_dual.specs.declared.crosses.Dual.{Dual}
use Rattle.dpl_dual.specs.Chains.{Leads}
use Rattle.dpl_dual.specs.Duals.{way_at}
use Rattle.dpl_tree.specs.Views.{place_in}
use Rattle.dpl_pack.specs.Points.{Point, water, on, total_at}
use Rattle.dpl_pack.specs.Tides.{place_of, with_values}
use Rattle.dpl_flood.specs.declared.nodes.Node.{Node}
use Rattle.dpl_flood.specs.declared.state.State.{State}
use Rattle.dpl_flood.specs.Arenas.{IsLonger}
use Rattle.dpl_flood.specs.Forested.{IsForested, IsSameForest}
use Rattle.dpl_flood.specs.Dues.{NoneRests}
use Rattle.dpl_flood.specs.declared.event.Crossing.{Crossing}
use Rattle.dpl_flood.specs.declared.event.Event.{Event}
use Rattle.dpl_flood.specs.declared.event.Event.TheVariants.{Take, Grow, Meet, Leave, GiveWay}
use Rattle.dpl_flood.specs.Events.{due_in, IsRelabelled, Shrinks}
use Rattle.dpl_flood.specs.Holdings.{point_of, stack_of}
use Rattle.dpl_flood.specs.Queues.{IsFirst, never}
use Rattle.dpl_flood.specs.Rates.{gains_in, losses_in}
use Rattle.dpl_flood.specs.Seas.{Sea, tide_of, IsSea, IsSeaDue, AreLate, ArePassed, AreHeldBy, advanced, noted_at, IsComing, IsDueTime, due_of, span_of, span_for, span_at, early_keys, IsNamed, face_weight, faces_left}
use Rattle.dpl_flood.specs.StateLaws.{ArePassedOver}
use Rattle.dpl_flood.specs.States.{sea_of, fall_of, IsState, IsTaken, IsLeft, AreKeys, top_keys}
use Rattle.dpl_flood.specs.Sweeps.{AreTwo, IsSwept, IsSweeping, IsOfTrees}
use Rattle.dpl_flood.proofs.ArenaLemmas.{longer_refl, longer_trans}
use Rattle.dpl_flood.proofs.ClockLemmas.{first_late}
use Rattle.dpl_flood.proofs.ComeLemmas.{due_way, due_set}
use Rattle.dpl_flood.proofs.MeasureLemmas.{due_time_passed, take_falls, leave_falls}
use Rattle.dpl_flood.proofs.MeetLemmas.{due_at, due_last}
use Rattle.dpl_flood.proofs.PopLemmas.{told_or}
use Rattle.dpl_flood.proofs.NameLemmas.{named_passed, named_shifted}
use Rattle.dpl_flood.proofs.SeaLemmas.{same_place, moving_passed, total_passed, times_none, values_after, time_small}
use Rattle.dpl_flood.proofs.StackedLemmas.{cases_stack}
use Rattle.dpl_flood.proofs.ToldLemmas.{told_is}
use Rattle.dpl_pack.proofs.PointLemmas.{member_at}
use Rattle.dpl_pack.proofs.TightLemmas.{times_one}

-- ---- what time does not change

-- Something comes on a way at a later time just where it does now.
coming_then : (d : Dual) (x : Sea) (t : ℕ) (v : ℕ → ℕ) (w : ℕ) → NoneRests (tide_of d x) → IsComing d x w → IsComing d (advanced x t v) w
coming_then d x t v w none c =
    let pf = same_place x.sets v (x.point (way_at d.crosses w).f) in
    let pg = same_place x.sets v (x.point (way_at d.crosses w).g) in
    record {
      two = λ e. c.two (sym pf ∙ e ∙ pg);
      one_awake = none (place_of (with_values x.sets v) (x.point (way_at d.crosses w).f));
      two_awake = none (place_of (with_values x.sets v) (x.point (way_at d.crosses w).g));
      nearer = omega (arith, c.nearer, ap x.gain pf, ap x.gain pg, ap x.loss pf, ap x.loss pg);
    }

coming_now : (d : Dual) (x : Sea) (t : ℕ) (v : ℕ → ℕ) (w : ℕ) → NoneRests (tide_of d x) → IsComing d (advanced x t v) w → IsComing d x w
coming_now d x t v w none c =
    let pf = same_place x.sets v (x.point (way_at d.crosses w).f) in
    let pg = same_place x.sets v (x.point (way_at d.crosses w).g) in
    record {
      two = λ e. c.two (pf ∙ e ∙ sym pg);
      one_awake = none (place_of x.sets (x.point (way_at d.crosses w).f));
      two_awake = none (place_of x.sets (x.point (way_at d.crosses w).g));
      nearer = omega (arith, c.nearer, ap x.gain pf, ap x.gain pg, ap x.loss pf, ap x.loss pg);
    }

-- two times of what comes on a way are one
time_once : (d : Dual) (s : Sea) (w a b : ℕ) → IsComing d s w → IsDueTime d s w a → IsDueTime d s w b → a ≡ b
time_once d s w a b c p q = omega (
  arith,
  due_last d s w b (λ _. a) c q (due_at d s w (λ _. a) p),
  due_last d s w a (λ _. b) c p (due_at d s w (λ _. b) q),
)

-- When something comes on a way does not change while time passes.
pub way_passed : (d : Dual) (terminals : List ℕ) (x : Sea) (t : ℕ) (v way_key top_key : ℕ → ℕ) → IsSea d terminals x
    → IsSeaDue d x way_key top_key → AreLate d x t way_key top_key → NoneRests (tide_of d x) → ArePassed x t v → t ≤ never
    → (w : ℕ) → w < length d.crosses → due_of d (advanced x t v) never w ≡ due_of d x never w
way_passed d terminals x t v way_key top_key s due late none p small w hw =
    let y = advanced x t v in
    let told = told_is d x never w s.moving (omega (arith, small, p.later)) in
    let same : IsComing d x w → IsComing d y w → due_of d y never w ≡ due_of d x never w = λ c e.
    let after : t ≤ due_of d x never w = omega (arith, late.ways w hw, due_last d x w (due_of d x never w) way_key c told (due.ways w hw)) in
    time_once d y w (due_of d y never w) (due_of d x never w) e (told_is d y never w (moving_passed x t v s.moving) small)
    (due_time_passed d terminals x t v way_key top_key s due late none p w (due_of d x never w) hw after told) in
    elim (told_or d x never w) [
      | inl c ↦ same c (coming_then d x t v w none c)
      | inr n ↦ elim (told_or d y never w) [
        | inl e ↦ same (coming_now d x t v w none e) e
        | inr m ↦ m ∙ sym n
      ]
    ]

-- When a top that falls leaves its last face or ends does not change either.
pub top_passed : (d : Dual) (terminals : List ℕ) (x : Sea) (t : ℕ) (v way_key top_key : ℕ → ℕ) (stack : ℕ → List ℕ) → IsSea d terminals x
    → IsSeaDue d x way_key top_key → AreLate d x t way_key top_key → ArePassed x t v → AreHeldBy terminals x stack
    → (k : ℕ) → fall_of (advanced x t v) stack k ≡ fall_of x stack k
top_passed d terminals x t v way_key top_key stack s due late p held k = elim (cases_Bool (x.loss k == 1)) [
  | inr q ↦ cond-false {A = ℕ} (x.loss k == 1) (t + span_of (advanced x t v) stack k) never q
      ∙ sym (cond-false {A = ℕ} (x.loss k == 1) (x.time + span_of x stack k) never q)
  | inl q ↦ cond-true {A = ℕ} (x.loss k == 1) (t + span_of (advanced x t v) stack k) never q
      ∙ span (falls q) (cases_stack (stack k))
      ∙ sym (cond-true {A = ℕ} (x.loss k == 1) (x.time + span_of x stack k) never q)
]
  where
    falls : (x.loss k == 1) ≡ true → x.loss k ≡ 1
    falls y = elim (cases_eq (x.loss k) 1) [
      | inl e ↦ e
      | inr ne ↦ absurd (true≢false (sym y ∙ ne_eqb (x.loss k) 1 ne))
    ]

    span : x.loss k ≡ 1 → ((stack k ≡ []) ⊎ ((h : ℕ) × ((rest : List ℕ) × (stack k ≡ h ∷ rest))))
        → t + span_of (advanced x t v) stack k ≡ x.time + span_of x stack k
    span l q =
        let at = s.moving.tops k (omega (arith, l)) in
        let none : x.gain k ≡ 0 = omega (arith, s.moving.once k, l) in
        let gone = times_one (x.loss k) (t - x.time) l in
        let come = times_none (x.gain k) (t - x.time) none in
        elim q [
          | inl e ↦ omega (
            arith,
            ap (span_for (advanced x t v) k) e,
            ap (span_for x k) e,
            p.each k at.0,
            gone,
            come,
            (due.tops k l).value,
            late.tops k l,
            p.later,
          )
          | inr e ↦
              let on = held.each k e.0 at.0 (ap (λ z. has z e.0) e.1.1 ∙ has_head e.0 e.0 e.1.0 refl) in
              let home = s.flood.members e.0 on.member on.far on.at in
              let top : x.sets.top on.member ≡ k = s.family.laminar.tops.top_alone k on.member at.0 home at.1.1 on.holds in
              omega (
                arith,
                ap (span_for (advanced x t v) k) e.1.1,
                ap (span_for x k) e.1.1,
                ap (span_at (advanced x t v)) on.at,
                ap (span_at x) on.at,
                total_passed x t v s.family s.moving p on.member home,
                ap (λ z. x.gain z * (t - x.time)) top,
                ap (λ z. x.loss z * (t - x.time)) top,
                gone,
                come,
                (due.tops k l).faces e.0 on.member on.far on.at top,
                late.tops k l,
                p.later,
              )
        ]

-- As many keys are early as before.
pub early_passed : (d : Dual) (x y : State) (t : ℕ) (v : ℕ → ℕ) (keys : List ℕ) → IsState d x → AreKeys d x keys
    → AreLate d (sea_of x) t (slice_index keys) (top_keys d keys) → NoneRests (tide_of d (sea_of x)) → ArePassed (sea_of x) t v
    → t ≤ never → ArePassedOver x y t v
    → early_keys (length keys) (due_in d y) (slice_index keys) ≡ early_keys (length keys) (due_in d x) (slice_index keys)
early_passed d x y t v keys st k late none p small o =
    let s = sea_of x in
    let n = length d.crosses in
    let way : (w : ℕ) → w < n → due_in d y w ≡ due_in d x w = λ w h.
    due_way d y w h ∙ ap (λ z. due_of d z never w) o.sea
    ∙ way_passed d x.seats s t v (slice_index keys) (top_keys d keys) st.sea k.due late none p small w h ∙ sym (due_way d x w h) in
    let top : (j : ℕ) → due_in d y (n + j) ≡ due_in d x (n + j) = λ j.
    due_set d y j ∙ ap (λ z. fall_of z (stack_of y.held) j) o.sea ∙ ap (λ z. fall_of (advanced s t v) (stack_of z) j) o.held
    ∙ top_passed d x.seats s t v (slice_index keys) (top_keys d keys) (stack_of x.held) st.sea k.due late p st.held j ∙ sym (due_set d x j) in
    let same : (q : ℕ) → due_in d y q ≡ due_in d x q = λ q. elim (cases_lt q n) [
      | inl h ↦ way q h
      | inr h ↦ subst (λ z. due_in d y z ≡ due_in d x z) (let e : n + (q - n) ≡ q = omega (arith, h) in e) (top (q - n))
    ] in
    sum_same (length keys) (λ q. cond {A = ℕ} (nat_lt (slice_index keys q) (due_in d y q)) 1 0)
    (λ q. cond {A = ℕ} (nat_lt (slice_index keys q) (due_in d x q)) 1 0) (λ q _. ap (λ z. cond {A = ℕ} (nat_lt (slice_index keys q) z) 1 0) (same q))

-- While two trees stand that are not too far apart, the first key is no late time.
pub first_early : (d : Dual) (x : State) (keys : List ℕ) (key : ℕ) → IsState d x → AreKeys d x keys → NoneRests (tide_of d (sea_of x))
    → AreTwo d x → IsFirst keys key → key ≤ 2 ^ 50
first_early d x keys key st k none two first =
    let s = sea_of x in
    let t = max x.time key in
    let late = first_late d x keys key st k first in
    let v : ℕ → ℕ = λ i. s.sets.value i + s.gain i * (t - s.time) - s.loss i * (t - s.time) in
    let p = values_after s t d (slice_index keys) (top_keys d keys) v st.sea.family st.sea.moving k.due late (omega (arith, clamps)) (λ i. refl) in
    omega (
      arith,
      clamps,
      time_small d x.seats s t v (slice_index keys) (top_keys d keys) st.sea k.due late none p two.one two.two two.one_named.member two.two_named.member
          two.differ two.one_named.grows two.two_named.grows two.one_named.whole two.two_named.whole two.chain two.leads,
      two.short,
    )

-- ---- what stays

-- no node was added
longer_same : (old new : List Node) → new ≡ old → IsLonger old new
longer_same old new e = subst (IsLonger old) (sym e) (longer_refl old)

forest_none : (x : State) → IsSameForest x x
forest_none x = record { seats = refl; tree = refl; mates = refl; joins = refl; arena = longer_same x.arena x.arena refl }

forest_more : (x y z : State) → IsSameForest x y → IsSameForest y z → IsSameForest x z
forest_more x y z a b = record {
  seats = b.seats ∙ a.seats;
  tree = b.tree ∙ a.tree;
  mates = b.mates ∙ a.mates;
  joins = b.joins ∙ a.joins;
  arena = longer_trans x.arena y.arena z.arena a.arena b.arena;
}

-- Nothing has happened yet.
pub swept_none : (x : State) → IsSwept x x
swept_none x = record {
  later = omega arith;
  sets = refl;
  same = forest_none x;
  awake = λ k e. e;
  names = λ a n. n;
}

-- One thing happens after another.
pub swept_more : (x y z : State) → IsSwept x y → IsSwept y z → IsSwept x z
swept_more x y z a b = record {
  later = omega (arith, a.later, b.later);
  sets = b.sets ∙ ap (λ (q : Sets). with_values q (sets_of z.family).value) a.sets;
  same = forest_more x y z a.same b.same;
  awake = λ k e. b.awake k (a.awake k e);
  names = λ m n. b.names m (a.names m n);
}

-- Two trees stand still.
pub two_swept : (d : Dual) (x y : State) → IsSwept x y → AreTwo d x → AreTwo d y
two_swept d x y w two = record {
  one = two.one;
  two = two.two;
  one_named = w.names two.one two.one_named;
  two_named = w.names two.two two.two_named;
  differ = λ e. two.differ (sym (ap (λ (q : Sets). q.top two.one) w.sets) ∙ e ∙ ap (λ (q : Sets). q.top two.two) w.sets);
  chain = two.chain;
  leads = subst (λ q. Leads d.crosses (slice_index q two.one) two.chain (slice_index q two.two)) (sym w.same.seats) two.leads;
  short = two.short;
}

-- time passes
pub swept_passed : (d : Dual) (x y : State) (t : ℕ) (v : ℕ → ℕ) → IsState d x → ArePassed (sea_of x) t v → ArePassedOver x y t v
    → IsSwept x y
swept_passed d x y t v st p o = record {
  later = omega (arith, p.later, ap (λ (z : Sea). z.time) o.sea);
  sets = ap (λ (z : Sea). z.sets) o.sea ∙ ap (λ q. with_values (sets_of x.family) q) (sym (ap (λ (z : Sea). z.sets.value) o.sea));
  same = record { seats = o.seats; tree = o.tree; mates = o.mates; joins = o.joins; arena = longer_same x.arena y.arena o.arena };
  awake = λ k e. ap (λ (z : Sea). z.rests k) o.sea ∙ e;
  names = λ a n. subst (λ z. IsNamed z a) (sym o.sea) (named_passed d x.seats (sea_of x) t v a st.sea p n);
}

-- Faces that may be taken and left stay as many, where no face and no rate changes.
pub faces_stay : (d : Dual) (x y : Sea) → ((g : ℕ) → y.point g ≡ x.point g) → ((t : ℕ) → y.sets.top t ≡ x.sets.top t)
    → ((k : ℕ) → y.loss k ≡ x.loss k) → faces_left d y ≡ faces_left d x
faces_stay d x y points tops rates =
    sum_same d.faces (λ g. face_weight y (y.point g)) (λ g. face_weight x (x.point g)) (λ g _. ap (face_weight y) (points g) ∙ same (x.point g))
  where
    same : (p : Point) → face_weight y p ≡ face_weight x p
    same water = refl
    same (on m far) = ap (λ z. cond {A = ℕ} (z == 1) 2 0) (rates (y.sets.top m) ∙ ap x.loss (tops m))

-- what rested wakes
pub swept_thawed : (x y : State) → IsRelabelled x y → IsSameForest x y → ((k : ℕ) → slice_index_or y.rests.items k false ≡ false) → IsSwept x y
swept_thawed x y r same awake = record {
  later = omega (arith, r.time);
  sets = ap sets_of r.family ∙ ap (λ z. with_values (sets_of x.family) (sets_of z).value) (sym r.family);
  same = same;
  awake = λ k _. awake k;
  names = λ a n. record {
    member = omega (arith, n.member, ap (λ z. (sets_of z).size) r.family);
    grows = ap (λ z. gains_in (place_in z.labels.items) ((sets_of y.family).top a)) same.tree ∙ ap (λ z. (sea_of x).gain ((sets_of z).top a)) r.family ∙ n.grows;
    whole = ap (λ z. total_at (sets_of z) a) r.family ∙ n.whole ∙ sym r.time;
  };
}

pub faces_thawed : (d : Dual) (x y : State) → IsRelabelled x y → y.tree ≡ x.tree → faces_left d (sea_of y) ≡ faces_left d (sea_of x)
faces_thawed d x y r tree = faces_stay d (sea_of x) (sea_of y)
    (λ g. ap (λ z. point_of z y.held g) r.arena ∙ ap (λ z. point_of x.arena z g) r.held)
    (λ t. ap (λ z. (sets_of z).top t) r.family) (λ k. ap (λ z. losses_in (place_in z.labels.items) k) tree)

-- a face is taken or left
pub swept_noted : (x y : State) (h : ℕ) (p : Point) → sea_of y ≡ noted_at (sea_of x) h p → IsSameForest x y → IsSwept x y
swept_noted x y h p e same = record {
  later = omega (arith, ap (λ (z : Sea). z.time) e);
  sets = ap (λ (z : Sea). z.sets) e ∙ ap (λ q. with_values (sets_of x.family) q) (sym (ap (λ (z : Sea). z.sets.value) e));
  same = same;
  awake = λ k q. ap (λ (z : Sea). z.rests k) e ∙ q;
  names = λ a n. subst (λ z. IsNamed z a) (sym e) (named_shifted (sea_of x) h p a n);
}

-- ---- one turn of time

-- a number below a bound where another one is least
least_of : (f : ℕ → ℕ) (n : ℕ) → (k : ℕ) × ((k ≤ n) × ((i : ℕ) → i ≤ n → f k ≤ f i))
least_of f zero = (0, (omega arith, λ i h. omega (arith, ap f (let e : i ≡ 0 = omega (arith, h) in e))))
least_of f (suc n) =
    let r = least_of f n in
    elim (cases_lt (f (suc n)) (f r.0)) [
      | inl l ↦ (
        suc n,
        (
          omega arith,
          λ i h. elim (cases_lt i (suc n)) [
            | inl a ↦ omega (arith, l, r.1.1 i (omega (arith, a)))
            | inr a ↦ omega (arith, ap f (let e : i ≡ suc n = omega (arith, a, h) in e))
          ],
        ),
      )
      | inr g ↦ (
        r.0,
        (
          omega (arith, r.1.0),
          λ i h. elim (cases_lt i (suc n)) [
            | inl a ↦ r.1.1 i (omega (arith, a))
            | inr a ↦ omega (arith, g, ap f (let e : i ≡ suc n = omega (arith, a, h) in e))
          ],
        ),
      )
    ]

-- there is a least key
pub some_first : (keys : List ℕ) → 0 < length keys → (key : ℕ) × IsFirst keys key
some_first keys some =
    let r = least_of (slice_index keys) (length keys - 1) in
    let inside : r.0 < length keys = omega (arith, r.1.0, some) in (
      slice_index keys r.0,
      record {
        one = (r.0, inside, get_or_default keys r.0 (slice_index keys r.0) 0 inside);
        least = λ i e h. omega (arith, get_or_default keys i e 0 h, r.1.1 i (omega (arith, h)));
      },
    )

-- Time has come to the first key: no tree has changed, and as many keys are early, one of which is up.
pub record HasTurned (d : Dual) (x y : State) (keys : List ℕ) : Type 0 where
  pub swept : IsSwept x y
  pub faces : faces_left d (sea_of y) ≡ faces_left d (sea_of x)
  pub early : early_keys (length keys) (due_in d y) (slice_index keys) ≡ early_keys (length keys) (due_in d x) (slice_index keys)
  pub key : ℕ
  pub first : IsFirst keys key
  pub up : key ≤ y.time

pub has_turned : (d : Dual) (x y : State) (keys : List ℕ) → IsState d x → AreKeys d x keys → NoneRests (tide_of d (sea_of x))
    → 0 < length keys → ((key : ℕ) → IsFirst keys key → y.time ≡ max x.time key) → ArePassed (sea_of x) y.time (sets_of y.family).value
    → ArePassedOver x y y.time (sets_of y.family).value → IsState d y → HasTurned d x y keys
has_turned d x y keys st k none some time p o after =
    let f = some_first keys some in
    let late = subst (λ z. AreLate d (sea_of x) z (slice_index keys) (top_keys d keys)) (sym (time f.0 f.1)) (first_late d x keys f.0 st k f.1) in
    record {
      swept = swept_passed d x y y.time (sets_of y.family).value st p o;
      faces = ap (faces_left d) o.sea ∙ faces_stay d (sea_of x) (advanced (sea_of x) y.time (sets_of y.family).value) (λ g. refl) (λ m. refl) (λ k. refl);
      early = early_passed d x y y.time (sets_of y.family).value keys st k late none p (omega (arith, after.early)) o;
      key = f.0;
      first = f.1;
      up = omega (arith, clamps, time f.0 f.1);
    }

-- Fewer keys are early after a turn.
pub fewer_early : (d : Dual) (x y : State) (n : ℕ) (old new : List ℕ) → length old ≡ n → length new ≡ n
    → early_keys (length new) (due_in d y) (slice_index new) < early_keys (length old) (due_in d y) (slice_index old)
    → early_keys (length old) (due_in d y) (slice_index old) ≡ early_keys (length old) (due_in d x) (slice_index old)
    → early_keys n (due_in d y) (slice_index new) < early_keys n (due_in d x) (slice_index old)
fewer_early d x y n old new eo en less same = omega (
  arith,
  less,
  same,
  ap (λ z. early_keys z (due_in d y) (slice_index new)) en,
  ap (λ z. early_keys z (due_in d x) (slice_index old)) eo,
)

-- ---- faces are taken and left

pub swept_taken : (d : Dual) (x y : State) (face : ℕ) → IsTaken d x y face → IsSameForest x y → IsSwept x y
swept_taken d x y face t same = swept_noted x y face (on t.member t.far) t.sea same

pub swept_left : (x y : State) (set face : ℕ) → IsLeft x y set face → IsSameForest x y → IsSwept x y
swept_left x y set face l same = swept_noted x y face water l.sea same

pub taken_fewer : (d : Dual) (x y : State) (face : ℕ) → IsState d x → IsTaken d x y face → faces_left d (sea_of y) < faces_left d (sea_of x)
taken_fewer d x y face st t = omega (arith, ap (faces_left d) t.sea, take_falls d x.seats (sea_of x) face t.member t.far st.sea t.takes)

pub left_fewer : (d : Dual) (x y : State) (set face : ℕ) → IsState d x → Shrinks x set → IsLeft x y set face
    → faces_left d (sea_of y) < faces_left d (sea_of x)
left_fewer d x y set face st k l =
    let s = sea_of x in
    let at = st.sea.moving.tops set (omega (arith, k.falls)) in
    let here = st.held.each set face k.inside (ap (λ z. has z face) l.last ∙ has_head face face l.rest refl) in
    let home = st.sea.flood.members face here.member here.far here.at in
    let same : here.member ≡ l.member = ap member_at (sym here.at ∙ l.leaves.held) in
    let top : s.sets.top l.member ≡ set = ap s.sets.top (sym same)
    ∙ st.sea.family.laminar.tops.top_alone set here.member at.0 home at.1.1 here.holds in
    omega (arith, ap (faces_left d) l.sea, leave_falls d x.seats s face l.member l.far st.sea l.leaves (ap s.loss top ∙ k.falls))

-- one event more
pub sweeping_more : (d : Dual) (x y z : State) (before after : List ℕ) → IsSweeping d x y before → IsSwept y z → IsState d z → AreKeys d z after
    → (IsForested d y → IsForested d z) → IsSweeping d x z after
sweeping_more d x y z before after i w st k forest = record {
  state = st;
  keys = k;
  some = omega (arith, i.some, i.keys.places, k.places, ap (λ (q : Sets). q.size) w.sets);
  two = two_swept d y z w i.two;
  swept = swept_more x y z i.swept w;
  forest = λ f. forest (i.forest f);
}

-- what is neither taken nor left is an event of trees
pub of_trees : (e : Event) → ((c : Crossing) → e ≡ Take c → ⊥) → ((k : ℕ) → e ≡ Leave k → ⊥) → IsOfTrees e
of_trees (Take c) p q = p c refl
of_trees (Grow c) p q = tt
of_trees (Meet c) p q = tt
of_trees (Leave k) p q = q k refl
of_trees (GiveWay k) p q = tt
