-- Keys after a face is taken or left.
use Rattle.std.proofs.Common.{arith, ◌≡◌, ℕ, ◌+◌, ◌-◌, ◌*◌, ◌<◌, ◌≤◌, ◌==◌, ◌⊎◌, refl, sym, ap, ◌∙◌, subst, inl, inr, false, Bool, eq-eqb, List, length, get_or}
use Rattle.std.specs.Prelude.{slice_set}
use Rattle.std.proofs.lemmas.Bool.{cases_eq, cases_Bool, cond-true, cond-false, true≢false}
use Rattle.std.proofs.lemmas.List.{get_or-set_other, length-set}
use Rattle.std.proofs.lemmas.Grind.{get_or-set_at}
use Rattle.dpl_laminar.specs.Storing.{sets_of}
use Rattle.dpl_dual.specs.declared.crosses.Dual.{Dual}
use Rattle.dpl_pack.specs.Points.{Point, water, on, total_at}
use Rattle.dpl_pack.proofs.PointLemmas.{on_water}
use Rattle.dpl_flood.specs.declared.state.State.{State}
use Rattle.dpl_flood.specs.Dues.{IsWithin, IsAtRest, HasRoom}
use Rattle.dpl_flood.specs.Holdings.{stack_of}
use Rattle.dpl_flood.specs.Queues.{never}
use Rattle.dpl_flood.specs.Seas.{Sea, IsSeaDue, IsTopDue, IsTopTime, IsEvent, AreRenewed, AreNow, Shifts, noted_at, sides_of, tide_of, span_of}
use Rattle.dpl_flood.specs.States.{sea_of, IsState, IsTaken, IsLeft, AreKeys, AreKeyedAround, top_keys, fall_of}
use Rattle.dpl_flood.proofs.EventLemmas.{event_kept, shift_due, take_shifts, leave_shifts}
use Rattle.dpl_flood.proofs.LookLemmas.{around_either, around_looked}
use Rattle.dpl_flood.proofs.PopLemmas.{span_told}
use Rattle.dpl_flood.proofs.SeaLemmas.{now_kept}
use Rattle.dpl_flood.proofs.StackedLemmas.{top_due}
use Rattle.dpl_flood.proofs.ToldLemmas.{told_later}

-- The keys stay right where a face gets another point at the place where it lies, and they are set anew around it.
pub shifted_keys : (d : Dual) (x y : State) (h : ℕ) (p : Point) (old new : List ℕ) → IsState d x → IsState d y
    → Shifts d x.seats (sea_of x) h p → sea_of y ≡ noted_at (sea_of x) h p → AreKeyedAround d (sea_of y) h old new
    → AreKeys d x old → AreKeys d y new
shifted_keys d x y h p old new sx sy shifts is around keys =
    let looked : ℕ → Bool = λ g. g == h in
    let seen : ℕ → Bool = λ _. false in
    let event : IsEvent d (sea_of x) (sea_of y) looked seen = subst (λ s. IsEvent d (sea_of x) s looked seen) (sym is)
    (shift_due d x.seats (sea_of x) h p looked seen sx.sea shifts (λ g u e. true≢false (sym (eq-eqb g h e) ∙ u))) in
    let early : y.time ≤ never = omega (arith, sy.early) in
    let behind : (k : ℕ) → top_keys d new k ≡ top_keys d old k = λ k. around.others (length d.crosses + k) (λ w. absurd (omega (arith, w.inside))) in
    let renewed : AreRenewed d (sea_of y) looked seen (λ w. get_or old w 0) (top_keys d old) (λ w. get_or new w 0) (top_keys d new) = record {
      looks = around_looked d (sea_of y) h old new sy.sea.moving early around;
      seen_due = λ k e. absurd (true≢false (sym e));
      unseen = λ k _ _. inl (behind k);
    } in
    record {
      places = around.sizes ∙ keys.places ∙ ap (λ (s : Sea). length d.crosses + 2 * s.sets.size) (sym is);
      due = event_kept d (sea_of x) (sea_of y) looked seen (λ w. get_or old w 0) (top_keys d old) (λ w. get_or new w 0) (top_keys d new)
          keys.due event renewed;
      now = now_kept d (sea_of x) (sea_of y) (λ w. get_or old w 0) (top_keys d old) (λ w. get_or new w 0) (top_keys d new)
          (ap (λ (s : Sea). s.time) is) keys.now
          (λ w _. elim (around_either d (sea_of y) h old new around w) [
            | inl e ↦ inl e
            | inr a ↦ inr (omega (arith, a.1, told_later d (sea_of y) never w early))
          ])
          (λ k l. inl (sym (ap (λ (s : Sea). s.loss k) is) ∙ l, behind k));
    }

-- where a face is taken
pub taken_keys : (d : Dual) (x y : State) (face : ℕ) (old new : List ℕ) → IsState d x → IsState d y → IsTaken d x y face
    → AreKeyedAround d (sea_of y) face old new → AreKeys d x old → AreKeys d y new
taken_keys d x y face old new sx sy taken = shifted_keys d x y face (on taken.member taken.far) old new sx sy
    (take_shifts d x.seats (sea_of x) face taken.member taken.far sx.sea taken.takes) taken.sea

-- where one is left
pub left_keys : (d : Dual) (x y : State) (set face : ℕ) (old new : List ℕ) → IsState d x → IsState d y → IsLeft x y set face
    → AreKeyedAround d (sea_of y) face old new → AreKeys d x old → AreKeys d y new
left_keys d x y set face old new sx sy left = shifted_keys d x y face water old new sx sy
    (leave_shifts d x.seats (sea_of x) face left.member left.far sx.sea left.leaves) left.sea

-- which is a face
pub left_face : (d : Dual) (x y : State) (set face : ℕ) → IsState d x → IsLeft x y set face → face < d.faces
left_face d x y set face st left =
    (st.sea.flood.home face (λ e. on_water left.member left.far (sym left.leaves.held ∙ e))).0

-- The keys stay right where the sea is the same.
pub same_keys : (d : Dual) (x y : State) (keys : List ℕ) → sea_of y ≡ sea_of x → AreKeys d x keys → AreKeys d y keys
same_keys d x y keys is k = record {
  places = k.places ∙ ap (λ (s : Sea). length d.crosses + 2 * s.sets.size) (sym is);
  due = subst (λ s. IsSeaDue d s (λ w. get_or keys w 0) (top_keys d keys)) (sym is) k.due;
  now = subst (λ s. AreNow d s (λ w. get_or keys w 0) (top_keys d keys)) (sym is) k.now;
}

-- ---- the key of a set

-- what is told of a set is no time before now
pub fall_later : (x : State) (k : ℕ) → x.time ≤ never → x.time ≤ fall_of (sea_of x) (stack_of x.held) k
fall_later x k h = elim (cases_Bool ((sea_of x).loss k == 1)) [
  | inl y ↦ omega (arith, cond-true {A = ℕ} ((sea_of x).loss k == 1) (x.time + span_of (sea_of x) (stack_of x.held) k) never y)
  | inr n ↦ omega (arith, cond-false {A = ℕ} ((sea_of x).loss k == 1) (x.time + span_of (sea_of x) (stack_of x.held) k) never n, h)
]

-- what is due of a top stays due where its key does
pub same_top : (s : Sea) (old new : ℕ → ℕ) (j : ℕ) → new j ≡ old j → IsTopDue s old j → IsTopDue s new j
same_top s old new j e t = record {
  value = subst (λ z. z - s.time ≤ s.sets.value j) (sym e) t.value;
  faces = λ g u far p q. subst (λ z. far + (z - s.time) ≤ total_at s.sets u) (sym e) (t.faces g u far p q);
}

-- The keys stay right where that of a set is set anew.
pub set_keys : (d : Dual) (x : State) (k : ℕ) (old : List ℕ) → IsState d x → k < 2 * (sets_of x.family).size → AreKeys d x old
    → AreKeys d x (slice_set old (length d.crosses + k) (fall_of (sea_of x) (stack_of x.held) k))
set_keys d x k old st hk keys =
    let n = length d.crosses in
    let s = sea_of x in
    let told = fall_of s (stack_of x.held) k in
    let new = slice_set old (n + k) told in
    let inside : n + k < length old = omega (arith, hk, keys.places) in
    let ways : (w : ℕ) → w < n → get_or new w 0 ≡ get_or old w 0 = λ w h. get_or-set_other old (n + k) w told 0 (λ e. omega (arith, e, h)) in
    let later : s.time ≤ told = fall_later x k (omega (arith, st.early)) in
    record {
      places = length-set old (n + k) told ∙ keys.places;
      due = record {
        ways = λ w h. subst (λ z. IsWithin (sides_of d) (tide_of d s) w ⊎ (IsAtRest (sides_of d) (tide_of d s) w ⊎ HasRoom (sides_of d) (tide_of d s) w (z - s.time)))
            (sym (ways w h)) (keys.due.ways w h);
        tops = λ j l. elim (cases_eq j k) [
          | inr ne ↦ same_top s (top_keys d old) (top_keys d new) j
              (get_or-set_other old (n + k) (n + j) told 0 (λ e. ne (omega (arith, e)))) (keys.due.tops j l)
          | inl e ↦
              let fell : s.loss k ≡ 1 = sym (ap s.loss e) ∙ l in
              let is : top_keys d new k ≡ s.time + span_of s (stack_of x.held) k =
              get_or-set_at old (n + k) (n + k) told 0 refl inside
              ∙ cond-true {A = ℕ} (s.loss k == 1) (s.time + span_of s (stack_of x.held) k) never (eq-eqb (s.loss k) 1 fell) in
              let top = (st.sea.moving.tops k (omega (arith, fell))).1.1 in
              subst (IsTopDue s (top_keys d new)) (sym e)
              (top_due d x.seats s (stack_of x.held) k (top_keys d new) st.sea st.held hk top
              (subst (IsTopTime s (stack_of x.held) k) (sym is) (span_told s (stack_of x.held) k)))
        ];
      };
      now = record {
        ways = λ w h. omega (arith, ways w h, keys.now.ways w h);
        tops = λ j l. elim (cases_eq j k) [
          | inl e ↦ omega (arith, get_or-set_at old (n + k) (n + j) told 0 (ap (λ z. n + z) e) inside, later)
          | inr ne ↦ omega (arith, get_or-set_other old (n + k) (n + j) told 0 (λ e. ne (omega (arith, e))), keys.now.tops j l)
        ];
      };
    }
