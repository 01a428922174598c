-- The values of tops while time passes.
use Rattle.std.proofs.Common.{arith, ◌≡◌, ℕ, ◌+◌, ◌-◌, ◌*◌, ◌<◌, ◌≤◌, refl, sym, ap, ◌∙◌, zero, suc, inl, inr, false, List, length}
use Rattle.std.proofs.lemmas.Bool.{cases_lt, true≢false}
use Rattle.std.specs.Prelude.{max, slice_index}
use Rattle.std.proofs.lemmas.List.Elements.{All-contains, All-get_or}
use Rattle.std.proofs.lemmas.Int.{clamps}
use Rattle.dpl_laminar.specs.Families.{Sets}
use Rattle.dpl_laminar.specs.Storing.{Stored, sets_of}
use Rattle.dpl_dual.specs.declared.crosses.Dual.{Dual}
use Rattle.dpl_tree.specs.steps.Forests.{outer, gain, drop_of}
use Rattle.dpl_tree.specs.Views.{place_in}
use Rattle.dpl_laminar.proofs.Released.{some_member}
use Rattle.dpl_flood.specs.declared.state.State.{State}
use Rattle.dpl_flood.specs.Queues.{IsFirst}
use Rattle.dpl_flood.specs.Seas.{ArePassed, AreLate}
use Rattle.dpl_flood.specs.StateLaws.{ArePassedOver}
use Rattle.dpl_flood.specs.States.{sea_of, IsState, AreKeys, top_keys}
use Rattle.dpl_flood.proofs.StateLemmas.{total_is}

pub values_kept : (f g h : Sets) → g ≡ record f { value = g.value } → h ≡ record g { value = h.value } → h ≡ record f { value = h.value }
values_kept f g h e d = d ∙ ap (λ (z : Sets). record z { value = h.value }) e

-- the value of an outer top is at most the time
pub value_early : (d : Dual) (x : State) → IsState d x → (k : ℕ) → place_in x.tree.labels.items k ≡ outer → (sets_of x.family).value k ≤ x.time
value_early d x st k e =
    let f = sets_of x.family in
    let w = st.sea.moving.tops k (omega (arith, ap gain e)) in
    let m = some_member f.size (f.holds k) (st.sea.family.laminar.sets.odd k w.0 w.1.0) in
    let top : f.top m.0 ≡ k = st.sea.family.laminar.tops.top_alone k m.0 w.0 m.1 w.1.1 m.2 in
    omega (arith, total_is d x st m.0 m.1, st.sea.clock m.0 m.1, ap f.value top)

-- the values that come of it
pub values_passed : (d : Dual) (x : State) (time : ℕ) (g : Sets) → IsState d x → x.time ≤ time
    → ((i : ℕ) → i < 2 * (sets_of x.family).size → g.value i + drop_of (place_in x.tree.labels.items i) * (time - x.time)
    ≡ (sets_of x.family).value i + gain (place_in x.tree.labels.items i) * (time - x.time))
    → ((i : ℕ) → 2 * (sets_of x.family).size ≤ i → g.value i ≡ (sets_of x.family).value i)
    → ArePassed (sea_of x) time g.value
values_passed d x time g st later each others = record {
  later = later;
  each = each;
  dead = λ k e. elim (cases_lt k (2 * (sets_of x.family).size)) [
    | inl h ↦
        kept (g.value k) ((sets_of x.family).value k) (gain (place_in x.tree.labels.items k)) (drop_of (place_in x.tree.labels.items k)) (time - x.time) (still k e) (each k h)
        ∙ st.sea.family.value_dead k e
    | inr h ↦ others k h ∙ st.sea.family.value_dead k e
  ];
}
  where
    still : (k : ℕ) → (sets_of x.family).live k ≡ false → gain (place_in x.tree.labels.items k) + drop_of (place_in x.tree.labels.items k) ≡ 0
    still k e = elim (cases_lt 0 (gain (place_in x.tree.labels.items k) + drop_of (place_in x.tree.labels.items k))) [
      | inl h ↦ absurd (true≢false (sym (st.sea.moving.tops k h).1.0 ∙ e))
      | inr h ↦ omega (arith, h)
    ]

    kept : (a b m n span : ℕ) → m + n ≡ 0 → a + n * span ≡ b + m * span → a ≡ b
    kept a b zero zero span e h = omega (arith, h)
    kept a b (suc m) n span e h = absurd (omega (arith, e))
    kept a b zero (suc n) span e h = absurd (omega (arith, e))

-- the same state with these values at that time
pub passed_over : (x : State) (family : Stored) (time : ℕ) → sets_of family ≡ record (sets_of x.family) { value = (sets_of family).value }
    → ArePassedOver x (record x { family = family; time = time }) time (sets_of family).value
passed_over x family time rest = record {
  sea = ap (λ (z : Sets). record (sea_of x) { sets = z; time = time }) rest;
  seats = refl;
  held = refl;
  arena = refl;
  tree = refl;
  mates = refl;
  joins = refl;
  rests = refl;
  inners = refl;
}

-- a top that falls has its place among the keys
pub first_late : (d : Dual) (x : State) (keys : List ℕ) (key : ℕ) → IsState d x → AreKeys d x keys → IsFirst keys key
    → AreLate d (sea_of x) (max x.time key) (slice_index keys) (top_keys d keys)
first_late d x keys key st k first = record {
  ways = λ w h. omega (arith, clamps, k.now.ways w h, at w (omega (arith, h, k.places)));
  tops = λ j l. omega (arith, clamps, k.now.tops j l, at (length d.crosses + j) (omega (arith, k.places, (st.sea.moving.tops j (omega (arith, l))).0)));
}
  where
    at : (p : ℕ) → p < length keys → key ≤ slice_index keys p
    at p h = All-get_or (λ z. key ≤ z) keys p 0 h first.least

-- there is one least key
pub first_one : (keys : List ℕ) (a b : ℕ) → IsFirst keys a → IsFirst keys b → a ≡ b
first_one keys a b p q = omega (arith, All-contains (λ z. a ≤ z) keys b p.least q.one, All-contains (λ z. b ≤ z) keys a q.least p.one)

-- no top that falls loses more than it has
pub late_enough : (d : Dual) (x : State) (keys : List ℕ) (time : ℕ) → IsState d x → AreKeys d x keys
    → AreLate d (sea_of x) time (slice_index keys) (top_keys d keys) → (j : ℕ) → (sea_of x).loss j ≡ 1
    → time - x.time ≤ (sets_of x.family).value j
late_enough d x keys time st k late j l = omega (arith, late.tops j l, (k.due.tops j l).value)
