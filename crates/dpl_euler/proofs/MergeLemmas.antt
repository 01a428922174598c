-- The face of a bar is a whole face, and with the edge it becomes one with another.
use Rattle.std.proofs.Common.{arith, ◌≡◌, ◌↔◌, ℕ, zero, suc, ◌+◌, ◌-◌, ◌*◌, ◌<◌, ◌==◌, refl, sym, ap, ◌∙◌, Bool, true, false, cond, inl, inr}
use Rattle.std.proofs.Common.{List, length, get_or, Contains, eq-eqb}
use Rattle.std.specs.List.{list_any}
use Rattle.std.specs.Cmp.{both_ways}
use Rattle.std.proofs.lemmas.Bool.{cases_lt, cases_Bool, eqb-true}
use Rattle.std.proofs.lemmas.List.{get_or_default}
use Rattle.std.proofs.lemmas.List.Folds.{Any-from_list_any, list_any-from_Any}
use Rattle.dpl_cycle.specs.Cycles.{Permutes, least}
use Rattle.dpl_cycle.proofs.Least.{label_least}
use Rattle.dpl_sign.specs.declared.nets.Net.{Net}
use Rattle.dpl_sign.specs.Walks.{edge_at}
use Rattle.dpl_sign.specs.Drawings.{is_bare, dart_count, next_in_face, face_of, corner_face}
use Rattle.dpl_sign.specs.Excess.{excess, with_edge, AreEndsJoined, LiesInFace}
use Rattle.dpl_sign.proofs.ExcessLemmas.{excess_effect, one_more, kept_plane}
use Rattle.dpl_sign.proofs.EdgeEffect.{Effect, effect, second_apart, between_second, at_corner}
use Rattle.dpl_sign.proofs.PathLemmas.{component_is}
use Rattle.dpl_sign.proofs.Rotation.{face_permutes}
use Rattle.dpl_map.specs.Maps.{is_kept}
use Rattle.dpl_euler.specs.declared.types.Bar.{Bar}
use Rattle.dpl_euler.specs.Bars.{corner_at, IsBar}
use Rattle.dpl_euler.specs.Cycles.{IsCycleFrom}
use Rattle.dpl_euler.proofs.BarLemmas.{on_cycle, corner_inside}

-- ---- the numbers of a cycle

bit_true : (b : Bool) → cond {A = ℕ} b 1 0 ≡ 1 → b ≡ true
bit_true true e = refl
bit_true false e = absurd (cc)

module _ (n : ℕ) (f g : ℕ → ℕ) (start : ℕ) (cycle : List ℕ) (p : Permutes n f g) (h : start < n) (c : IsCycleFrom f start cycle) where
  at_place : (k : ℕ) → k < length cycle → (z : ℕ) → get_or cycle k 0 ≡ z → Contains cycle z
  at_place k l z e = (k, l, get_or_default cycle k z 0 l ∙ e)

  place_of : (z : ℕ) (m : Contains cycle z) → get_or cycle m.0 0 ≡ z
  place_of z (k, l, e) = get_or_default cycle k 0 z l ∙ e

  goes_on : (z : ℕ) → Contains cycle z → Contains cycle (f z)
  goes_on z m =
      let e = place_of z m in
      elim (cases_lt (m.0 + 1) (length cycle)) [
        | inl l ↦ at_place (m.0 + 1) l (f z) (c.next m.0 l ∙ ap f e)
        | inr l ↦
            let last : length cycle - 1 ≡ m.0 = omega (arith, l, m.1) in
            at_place 0 c.some (f z) (c.first ∙ sym c.last ∙ ap f (ap (λ k. get_or cycle k 0) last ∙ e))
      ]

  came_from : (z k : ℕ) → z < n → k < length cycle → f (get_or cycle k 0) ≡ f z → Contains cycle z
  came_from z k low l e =
      let below = (on_cycle n f g start cycle p h c k l).0 in
      at_place k l z (sym (p.back (get_or cycle k 0) below) ∙ ap g e ∙ p.back z low)

  goes_back : (z : ℕ) → z < n → Contains cycle (f z) → Contains cycle z
  goes_back z low (zero, l, e) =
      came_from z (length cycle - 1) low (omega (arith, l)) (c.last ∙ sym c.first ∙ place_of (f z) (0, l, e))
  goes_back z low (suc k, l, e) =
      let step : get_or cycle (suc k) 0 ≡ f (get_or cycle k 0) = ap (λ i. get_or cycle i 0) (omega arith) ∙ c.next k (omega (arith, l)) in
      came_from z k low (omega (arith, l)) (sym step ∙ place_of (f z) (suc k, l, e))

  is_on : ℕ → Bool
  is_on z = list_any (λ y. y == z) cycle

  to_test : (z : ℕ) → Contains cycle z → is_on z ≡ true
  unfolding is_on
  to_test z (k, l, e) = list_any-from_Any (λ y. y == z) cycle (k, z, l, e, eq-eqb z z refl)

  from_test : (z : ℕ) → is_on z ≡ true → Contains cycle z
  unfolding is_on
  from_test z t =
      let (k, y, l, e, s) = Any-from_list_any (λ y. y == z) cycle t in
      at_place k l z (get_or_default cycle k 0 y l ∙ e ∙ eqb-true y z s)

  bit : ℕ → ℕ
  bit z = cond {A = ℕ} (is_on z) 1 0

  bit_stays : (z : ℕ) → z < n → bit (f z) ≡ bit z
  unfolding bit
  bit_stays z low = ap (λ b. cond {A = ℕ} b 1 0) (both_ways (is_on (f z)) (is_on z)
      (λ t. to_test z (goes_back z low (from_test (f z) t))) (λ t. to_test (f z) (goes_on z (from_test z t))))

  bit_start : bit start ≡ 1
  unfolding bit
  bit_start = ap (λ b. cond {A = ℕ} b 1 0) (to_test start (at_place 0 c.some start c.first))

  -- a cycle has the numbers whose least number is that of its first
  pub whole_cycle : (z : ℕ) → z < n → Contains cycle z ↔ (least f n z ≡ least f n start)
  unfolding bit
  whole_cycle z low = (
    λ m. ap (least f n) (sym (place_of z m)) ∙ (on_cycle n f g start cycle p h c m.0 m.1).1,
    λ e.
        let one : bit z ≡ 1 = sym (label_least n f g p bit bit_stays z low) ∙ ap bit e ∙ label_least n f g p bit bit_stays start h ∙ bit_start in
        from_test z (bit_true (is_on z) one),
  )

-- ---- bars

module _ (net : Net) (bar : Bar) (b : IsBar net bar) where
  -- the face is the whole face at the corner
  pub whole_face : (d : ℕ) → d < dart_count net
      → Contains bar.face d ↔ (face_of net (is_kept net) d ≡ corner_face net (is_kept net) (2 * bar.edge))
  whole_face d l = whole_cycle (dart_count net) (next_in_face net (is_kept net)) _ (corner_at net (2 * bar.edge)) bar.face
      (face_permutes net (is_kept net)) (corner_inside net bar.edge b.inside b.aside) b.face d l

  -- its walk joins the two ends
  pub bar_joins : AreEndsJoined net (is_kept net) bar.edge
  bar_joins = (component_is net.graph (is_kept net) (edge_at net.graph bar.edge).a (edge_at net.graph bar.edge).b).1 (bar.walk, b.walk, b.kept)

  second_inside : corner_at net (2 * bar.edge + 1) < dart_count net
  second_inside = elim (cases_Bool (is_bare net.graph (is_kept net) (edge_at net.graph bar.edge).b)) [
    | inl t ↦ absurd (second_apart net (is_kept net) bar.edge t bar_joins)
    | inr t ↦ (at_corner net (is_kept net) (with_edge (is_kept net) bar.edge) (2 * bar.edge + 1)
        (between_second net (is_kept net) (with_edge (is_kept net) bar.edge) bar.edge
        (one_more net (is_kept net) bar.edge b.inside b.aside) t)).inside
  ]

  -- the other corner lies on another face
  pub bar_apart : ¬ LiesInFace net (is_kept net) bar.edge
  bar_apart lies = b.apart ((whole_face (corner_at net (2 * bar.edge + 1)) second_inside).1 (sym lies))

  -- with the edge there is one face less, and as many components
  pub bar_merges : Effect net (is_kept net) (with_edge (is_kept net) bar.edge) bar.edge
  bar_merges = effect net (is_kept net) (with_edge (is_kept net) bar.edge) bar.edge (one_more net (is_kept net) bar.edge b.inside b.aside)

  pub bar_raises : excess net (with_edge (is_kept net) bar.edge) ≡ 2
  bar_raises =
      let e = excess_effect net (is_kept net) (with_edge (is_kept net) bar.edge) bar.edge (one_more net (is_kept net) bar.edge b.inside b.aside) in
      omega (arith, e.crosses bar_joins bar_apart, kept_plane net (length net.graph.edges) (omega arith))
