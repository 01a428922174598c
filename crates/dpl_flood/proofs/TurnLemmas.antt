-- Keys after tops began to move, or rest no more.
use Rattle.std.proofs.Common.{arith, ◌≡◌, ℕ, ◌+◌, ◌*◌, ◌<◌, ◌≤◌, ◌==◌, refl, sym, ap, ◌∙◌, subst, inl, inr, true, false, Bool, eq-eqb, List, length, get_or}
use Rattle.std.specs.Prelude.{slice_set}
use Rattle.std.proofs.lemmas.Bool.{cases_eq, cases_Bool, cond-true, ne_eqb, true≢false}
use Rattle.std.proofs.lemmas.List.{get_or-set_other, length-set}
use Rattle.std.proofs.lemmas.Grind.{get_or-set_at}
use Rattle.dpl_laminar.specs.Storing.{sets_of}
use Rattle.dpl_dual.specs.declared.crosses.Dual.{Dual}
use Rattle.dpl_dual.specs.Chains.{IsAt}
use Rattle.dpl_dual.specs.Duals.{way_at}
use Rattle.dpl_pack.specs.Tides.{place_of}
use Rattle.dpl_flood.specs.declared.state.State.{State}
use Rattle.dpl_tree.specs.Views.{place_in}
use Rattle.dpl_flood.specs.Dues.{IsDueAt, AreLooked}
use Rattle.dpl_flood.specs.Events.{IsRelabelled}
use Rattle.dpl_flood.specs.Holdings.{stack_of}
use Rattle.dpl_flood.specs.Queues.{never}
use Rattle.dpl_flood.specs.Rates.{gains_in, losses_in}
use Rattle.dpl_flood.specs.Seas.{Sea, Grows, AreMoving, IsDueTime, IsEvent, IsTopTime, AreRenewed, sides_of, tide_of, due_of, span_of}
use Rattle.dpl_flood.specs.States.{sea_of, fall_of, IsGround, IsState, IsWayFrom, AreKeys, AreKeyedFor, AreKeyedOn, stands_among, top_keys}
use Rattle.dpl_flood.proofs.DueLemmas.{thawed}
use Rattle.dpl_flood.proofs.EventLemmas.{event_kept, grow_due}
use Rattle.dpl_flood.proofs.FlowLemmas.{fall_later}
use Rattle.dpl_flood.proofs.LabelLemmas.{relabelled, relabelled_sea}
use Rattle.dpl_flood.proofs.MeetLemmas.{due_at}
use Rattle.dpl_flood.proofs.PopLemmas.{span_told}
use Rattle.dpl_flood.proofs.SeaLemmas.{now_kept}
use Rattle.dpl_flood.proofs.StackedLemmas.{top_due}
use Rattle.dpl_flood.proofs.ToldLemmas.{told_is, told_later}

-- what is tested to be equal is
pub is_true : (i j : ℕ) → (j == i) ≡ true → j ≡ i
is_true i j y = elim (cases_eq j i) [
  | inl e ↦ e
  | inr ne ↦ absurd (true≢false (sym y ∙ ne_eqb j i ne))
]

-- ---- the looks at faces

-- All these faces are looked at.
pub for_looked : (d : Dual) (s : Sea) (looked : ℕ → Bool) (old new : List ℕ) → AreMoving s → s.time ≤ never
    → AreKeyedFor d s (λ g. looked g ≡ true) old new
    → AreLooked (length d.crosses) (sides_of d) (tide_of d s) s.time looked (λ w. get_or old w 0) (λ w. get_or new w 0)
for_looked d s looked old new m h k =
    let key : ℕ → ℕ = λ w. get_or new w 0 in
    let told : (w : ℕ) → key w ≡ due_of d s never w → IsDueAt (sides_of d) (tide_of d s) s.time key w =
    λ w e. due_at d s w key (subst (IsDueTime d s w) (sym e) (told_is d s never w m h)) in
    let at_face : (w g : ℕ) → w < length d.crosses → IsAt (way_at d.crosses w) g → looked g ≡ true
    → IsDueAt (sides_of d) (tide_of d s) s.time key w = λ w g hw at y. elim (cases_eq (way_at d.crosses w).f (way_at d.crosses w).g) [
      | inl e ↦ inl (ap (λ z. place_of s.sets (s.point z)) e)
      | inr ne ↦ told w (k.at g w y (record { inside = hw; at = at; differ = ne }))
    ] in
    record {
      one = λ w hw y. at_face w (way_at d.crosses w).f hw (inl refl) y;
      two = λ w hw y. at_face w (way_at d.crosses w).g hw (inr refl) y;
      others = λ w hw a b. elim (k.others w) [
        | inl e ↦ inl e
        | inr due ↦ inr (told w due.1)
      ];
    }

-- what was set anew for a top was so for its faces
pub on_for : (d : Dual) (s : Sea) (top : ℕ) (old new : List ℕ) → IsGround d → AreKeyedOn d s top d.faces old new
    → AreKeyedFor d s (λ g. (place_of s.sets (s.point g) == top) ≡ true) old new
on_for d s top old new ground k = record {
  sizes = k.sizes;
  at = λ g w y from. k.at g w (inside g w from) (is_true top (place_of s.sets (s.point g)) y) from;
  others = k.others;
}
  where
    inside : (g w : ℕ) → IsWayFrom d g w → g < d.faces
    inside g w from = elim from.at [
      | inl e ↦ omega (arith, (ground.inside w (way_at d.crosses w) from.inside).0, e)
      | inr e ↦ omega (arith, (ground.inside w (way_at d.crosses w) from.inside).1, e)
    ]

-- ---- what an event keeps

-- The keys stay right over an event where those of the ways at some faces and of some tops are set anew.
pub event_keys : (d : Dual) (x y : State) (looked seen : ℕ → Bool) (old between new : List ℕ) → IsState d y
    → (sets_of y.family).size ≡ (sets_of x.family).size
    → IsEvent d (sea_of x) (sea_of y) looked seen
    → length between ≡ length old → ((w : ℕ) → w < length d.crosses → get_or between w 0 ≡ get_or old w 0)
    → ((k : ℕ) → (seen k ≡ true → top_keys d between k ≡ fall_of (sea_of y) (stack_of y.held) k) × (seen k ≡ false → top_keys d between k ≡ top_keys d old k))
    → AreKeyedFor d (sea_of y) (λ g. looked g ≡ true) between new → AreKeys d x old → AreKeys d y new
event_keys d x y looked seen old between new st sizes event many ways tops on keys =
    let n = length d.crosses in
    let s = sea_of y in
    let early : s.time ≤ never = omega (arith, st.early) in
    let way : ℕ → ℕ = λ w. get_or new w 0 in
    let old_way : ℕ → ℕ = λ w. get_or old w 0 in
    let behind : (k : ℕ) → top_keys d new k ≡ top_keys d between k = λ k. elim (on.others (n + k)) [
      | inl e ↦ e
      | inr due ↦ absurd (omega (arith, due.0))
    ] in
    let looks = for_looked d s looked between new st.sea.moving early on in
    let renewed : AreRenewed d s looked seen old_way (top_keys d old) way (top_keys d new) = record {
      looks = record {
        one = looks.one;
        two = looks.two;
        others = λ w hw a b. elim (looks.others w hw a b) [ inl e ↦ inl (e ∙ ways w hw) | inr due ↦ inr due ];
      };
      seen_due = λ k e l.
          let at = st.sea.moving.tops k (omega (arith, l)) in
          let is : top_keys d new k ≡ s.time + span_of s (stack_of y.held) k = behind k ∙ (tops k).0 e
          ∙ cond-true {A = ℕ} (s.loss k == 1) (s.time + span_of s (stack_of y.held) k) never (eq-eqb (s.loss k) 1 l) in
          top_due d y.seats s (stack_of y.held) k (top_keys d new) st.sea st.held at.0 at.1.1
          (subst (IsTopTime s (stack_of y.held) k) (sym is) (span_told s (stack_of y.held) k));
      unseen = λ k e _. inl (behind k ∙ (tops k).1 e);
    } in
    record {
      places = omega (arith, on.sizes, many, keys.places, sizes);
      due = event_kept d (sea_of x) s looked seen old_way (top_keys d old) way (top_keys d new) keys.due event renewed;
      now = now_kept d (sea_of x) s old_way (top_keys d old) way (top_keys d new) event.time keys.now
          (λ w hw. elim (on.others w) [
            | inl e ↦ inl (e ∙ ways w hw)
            | inr due ↦ inr (omega (arith, due.1, told_later d s never w early))
          ])
          (λ k l. elim (cases_Bool (seen k)) [
            | inl e ↦ inr (omega (arith, behind k, (tops k).0 e, fall_later y k early))
            | inr e ↦ inl (event.fell k e l, behind k ∙ (tops k).1 e)
          ]);
    }

-- where they are those of one top
pub looked_keys : (d : Dual) (x y : State) (top : ℕ) (seen : ℕ → Bool) (old between new : List ℕ) → IsState d y
    → (sets_of y.family).size ≡ (sets_of x.family).size
    → IsEvent d (sea_of x) (sea_of y) (λ g. place_of (sets_of y.family) ((sea_of y).point g) == top) seen
    → length between ≡ length old → ((w : ℕ) → w < length d.crosses → get_or between w 0 ≡ get_or old w 0)
    → ((k : ℕ) → (seen k ≡ true → top_keys d between k ≡ fall_of (sea_of y) (stack_of y.held) k) × (seen k ≡ false → top_keys d between k ≡ top_keys d old k))
    → AreKeyedOn d (sea_of y) top d.faces between new → AreKeys d x old → AreKeys d y new
looked_keys d x y top seen old between new st sizes event many ways tops on keys =
    event_keys d x y (λ g. place_of (sets_of y.family) ((sea_of y).point g) == top) seen old between new st sizes event many ways tops
    (on_for d (sea_of y) top between new st.ground on) keys

-- where a free top and its mate went into a tree
pub entered_keys : (d : Dual) (x y : State) (i o : ℕ) (old new : List ℕ) → IsState d x → IsState d y → IsRelabelled x y
    → Grows (sea_of x) i o (gains_in (place_in y.tree.labels.items)) (losses_in (place_in y.tree.labels.items)) (λ k. get_or y.rests.items k false)
    → i < 2 * (sets_of x.family).size
    → AreKeyedOn d (sea_of y) o d.faces (slice_set old (length d.crosses + i) (fall_of (sea_of y) (stack_of y.held) i)) new
    → AreKeys d x old → AreKeys d y new
entered_keys d x y i o old new sx sy r grows hi on keys =
    let n = length d.crosses in
    let told = fall_of (sea_of y) (stack_of y.held) i in
    let seen : ℕ → Bool = λ k. k == i in
    let looked : ℕ → Bool = λ g. place_of (sets_of x.family) ((sea_of x).point g) == o in
    let event = grow_due d x.seats (sea_of x) i o (gains_in (place_in y.tree.labels.items)) (losses_in (place_in y.tree.labels.items))
    (λ k. get_or y.rests.items k false) looked seen sx.sea grows
    (λ g u e. true≢false (sym (eq-eqb (place_of (sets_of x.family) ((sea_of x).point g)) o e) ∙ u)) (eq-eqb i i refl) in
    let inside : n + i < length old = omega (arith, hi, keys.places) in
    looked_keys d x y o seen old (slice_set old (n + i) told) new sy (ap (λ z. (sets_of z).size) r.family)
    (subst (λ s. IsEvent d (sea_of x) s (λ g. place_of s.sets (s.point g) == o) seen) (sym (relabelled_sea x y r)) event)
    (length-set old (n + i) told) (λ w h. get_or-set_other old (n + i) w told 0 (λ e. omega (arith, e, h)))
    (λ k. (
      (λ e. get_or-set_at old (n + i) (n + k) told 0 (ap (λ z. n + z) (is_true i k e)) inside ∙ ap (fall_of (sea_of y) (stack_of y.held)) (sym (is_true i k e))),
      (λ e. get_or-set_other old (n + i) (n + k) told 0 (λ q. true≢false (sym (eq-eqb k i (omega (arith, q))) ∙ e))),
    )) on keys

-- where what rested does no more
pub woken_keys : (d : Dual) (x y : State) (old new : List ℕ) → IsState d y → IsRelabelled x y → y.tree ≡ x.tree
    → AreKeyedFor d (sea_of y) (λ g. stands_among (sea_of y) x.rests.items g ≡ true) old new → AreKeys d x old → AreKeys d y new
woken_keys d x y old new sy r labels on keys =
    let none : ℕ → Bool = λ _. false in
    let looked : ℕ → Bool = stands_among (sea_of x) x.rests.items in
    let event : IsEvent d (sea_of x) (relabelled x y) looked none = record {
      time = refl;
      turns = thawed (length d.crosses) (sides_of d) (tide_of d (sea_of x)) (tide_of d (relabelled x y)) looked (λ g. refl) (λ w. refl)
          (λ k. ap (λ z. gains_in (place_in z.labels.items) k) labels) (λ k. ap (λ z. losses_in (place_in z.labels.items) k) labels)
          (λ g u. u);
      fell = λ k _ l. sym (ap (λ z. losses_in (place_in z.labels.items) k) labels) ∙ l;
      value = λ k _ _. refl;
      faces = λ k f t far _ _ p q. (p, (q, refl));
    } in
    event_keys d x y (stands_among (sea_of y) x.rests.items) none old old new sy (ap (λ z. (sets_of z).size) r.family)
    (subst (λ s. IsEvent d (sea_of x) s (stands_among s x.rests.items) none) (sym (relabelled_sea x y r)) event)
    refl (λ w h. refl) (λ k. ((λ e. absurd (true≢false (sym e))), (λ e. refl))) on keys
