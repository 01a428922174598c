-- The darts of a part in the whole, and how one turns around a node.
use Rattle.std.proofs.Common.{arith, ◌≡◌, ◌≢◌, ◌⊎◌, ℕ, zero, suc, ◌+◌, ◌-◌, ◌*◌, ◌/◌, ◌%◌, ◌<◌, ◌≤◌, ◌==◌, ◌&&◌, ◌||◌}
use Rattle.std.proofs.Common.{refl, sym, ap, ◌∙◌, Bool, true, false, inl, inr, length, eq-eqb}
use Rattle.std.specs.Prelude.{if◌then◌else◌, slice_index_or}
use Rattle.std.proofs.lemmas.Bool.{cases_lt, cases_eq, cases_Bool, lt-ltb, le-ltb, ne_eqb, cond-true, cond-false}
use Rattle.std.specs.Ordering.{nat_cmp}
use Rattle.dpl_sign.specs.declared.nets.Net.{Net}
use Rattle.dpl_sign.specs.declared.ports.Port.{Port}
use Rattle.dpl_sign.specs.Walks.{edge_at}
use Rattle.dpl_sign.specs.Drawings.{no_port, tail_of, twin_of, port_of, dart_count, is_before, is_met_before, first_met, next_below, next_around, next_in_face}
use Rattle.dpl_sign.proofs.DartLemmas.{first_half, second_half, first_tail, second_tail, tail_first, tail_second, twin_even, twin_odd, twin_half, twin_below}
use Rattle.dpl_sign.proofs.Unfold.{next_in, next_out}
use Rattle.dpl_sign.proofs.ComponentLemmas.{start_below, end_below}
use Rattle.dpl_sign.proofs.Rotation.{face_in, face_out}
use Rattle.dpl_parts.specs.Parts.{IsPartOf, dart}

pub dart_half : (edge : ℕ → ℕ) (d : ℕ) → dart edge d / 2 ≡ edge (d / 2)
dart_half edge d = omega arith

pub dart_side : (edge : ℕ → ℕ) (d : ℕ) → dart edge d % 2 ≡ d % 2
dart_side edge d = omega arith

pub dart_first : (edge : ℕ → ℕ) (e : ℕ) → dart edge (2 * e) ≡ 2 * edge e
dart_first edge e = let s : (2 * e) % 2 ≡ 0 = omega arith in rw (first_half e, s) (omega arith)

pub dart_second : (edge : ℕ → ℕ) (e : ℕ) → dart edge (2 * e + 1) ≡ 2 * edge e + 1
dart_second edge e = let s : (2 * e + 1) % 2 ≡ 1 = omega arith in rw (second_half e, s) (omega arith)

pub dart_twin : (edge : ℕ → ℕ) (d : ℕ) → twin_of (dart edge d) ≡ dart edge (twin_of d)
dart_twin edge d =
    let h = dart_half edge d in
    let s = dart_side edge d in
    let t = twin_half d in
    let k : edge (twin_of d / 2) ≡ edge (d / 2) = ap edge t in
    elim (cases_eq (d % 2) 0) [
      | inl z ↦
          let p = twin_even d z in
          let q = twin_even (dart edge d) (s ∙ z) in
          omega (arith, p, q, k, z)
      | inr z ↦
          let p = twin_odd d z in
          let q = twin_odd (dart edge d) (λ w. z (sym s ∙ w)) in
          omega (arith, p, q, k, z)
    ]

-- numbers that rise compare as what they come from
cmp_rises : (a b c d : ℕ) → (a < b → c < d) → (b < a → d < c) → (a ≡ b → c ≡ d) → nat_cmp c d ≡ nat_cmp a b
cmp_rises a b c d up down same = elim (cases_lt a b) [
  | inl l ↦ let m = up l in rw (lt-ltb a b l, lt-ltb c d m) refl
  | inr l ↦ elim (cases_eq a b) [
    | inl e ↦ let f = same e in rw (le-ltb a b (omega arith), le-ltb c d (omega arith), eq-eqb a b e, eq-eqb c d f) refl
    | inr n ↦
        let m = down (omega arith) in
        rw (le-ltb a b (omega arith), le-ltb c d (omega arith), ne_eqb a b n, ne_eqb c d (λ e. omega arith)) refl
  ]
]

port_first : (net : Net) (d : ℕ) → d % 2 ≡ 0 → port_of net d ≡ (slice_index_or net.ports (d / 2) (no_port, no_port)).0
port_first net d h = rw (eq-eqb (d % 2) 0 h, port_of)

port_second : (net : Net) (d : ℕ) → d % 2 ≢ 0 → port_of net d ≡ (slice_index_or net.ports (d / 2) (no_port, no_port)).1
port_second net d h = rw (ne_eqb (d % 2) 0 h, port_of)

abbrev met_from : Bool → Bool → Bool → Bool
met_from t x y = elim t [ true ↦ x && y | false ↦ x || y ]

met_is : (net : Net) (d c e : ℕ) → is_met_before net d c e ≡ met_from (is_before net d e) (is_before net d c) (is_before net c e)
met_is net d c e = refl

module _ (part whole : Net) (node edge : ℕ → ℕ) (h : IsPartOf part whole node edge) where
  -- a dart of the part is one of the whole
  pub dart_below : (d : ℕ) → d < dart_count part → dart edge d < dart_count whole
  dart_below d l = let m = h.edges (d / 2) (omega arith) in omega arith

  pub edge_apart : (e f : ℕ) → e < length part.graph.edges → f < length part.graph.edges → edge e ≡ edge f → e ≡ f
  edge_apart e f l m q = elim (cases_lt e f) [
    | inl s ↦ let t = h.order e f s m in absurd (omega arith)
    | inr s ↦ elim (cases_eq e f) [ inl r ↦ r | inr r ↦ let t = h.order f e (omega arith) l in absurd (omega arith) ]
  ]

  pub dart_apart : (c d : ℕ) → c < dart_count part → d < dart_count part → dart edge c ≡ dart edge d → c ≡ d
  dart_apart c d l m q =
      let s : edge (c / 2) ≡ edge (d / 2) = omega arith in
      let e = edge_apart (c / 2) (d / 2) (omega arith) (omega arith) s in
      omega arith

  pub dart_tail : (d : ℕ) → d < dart_count part → tail_of whole.graph (dart edge d) ≡ node (tail_of part.graph d)
  dart_tail d l =
      let s = dart_side edge d in
      let e = dart_half edge d in
      elim (cases_eq (d % 2) 0) [
        | inl z ↦ tail_first whole.graph (dart edge d) (s ∙ z) ∙ ap (λ x. (edge_at whole.graph x).a) e ∙
            h.first (d / 2) (omega arith) ∙ ap node (sym (tail_first part.graph d z))
        | inr z ↦ tail_second whole.graph (dart edge d) (λ w. z (sym s ∙ w)) ∙ ap (λ x. (edge_at whole.graph x).b) e ∙
            h.second (d / 2) (omega arith) ∙ ap node (sym (tail_second part.graph d z))
      ]

  pub tail_below : (d : ℕ) → d < dart_count part → tail_of part.graph d < part.graph.nodes
  tail_below d l = elim (cases_eq (d % 2) 0) [
    | inl z ↦ let k = start_below part.graph (d / 2) (omega arith) in omega (arith, tail_first part.graph d z, k)
    | inr z ↦ let k = end_below part.graph (d / 2) (omega arith) in omega (arith, tail_second part.graph d z, k)
  ]

  dart_port : (d : ℕ) → d < dart_count part → port_of whole (dart edge d) ≡ port_of part d
  dart_port d l =
      let s = dart_side edge d in
      let e = dart_half edge d in
      let p = ap (λ x. slice_index_or whole.ports x (no_port, no_port)) e ∙ h.ports (d / 2) (omega arith) in
      elim (cases_eq (d % 2) 0) [
        | inl z ↦ port_first whole (dart edge d) (s ∙ z) ∙ ap (λ (x : Port × Port). x.0) p ∙ sym (port_first part d z)
        | inr z ↦ port_second whole (dart edge d) (λ w. z (sym s ∙ w)) ∙ ap (λ (x : Port × Port). x.1) p ∙ sym (port_second part d z)
      ]

  before_same : (d c : ℕ) → d < dart_count part → c < dart_count part → is_before whole (dart edge d) (dart edge c) ≡ is_before part d c
  before_same d c l m =
      let p = dart_port d l in
      let q = dart_port c m in
      let e = dart_half edge d in
      let f = dart_half edge c in
      let n : nat_cmp (edge (d / 2)) (edge (c / 2)) ≡ nat_cmp (d / 2) (c / 2) =
      cmp_rises (d / 2) (c / 2) (edge (d / 2)) (edge (c / 2)) (λ r. h.order (d / 2) (c / 2) r (omega arith))
      (λ r. h.order (c / 2) (d / 2) r (omega arith)) (λ r. ap edge r) in
      rw (p, q, e, f, n) refl

  met_same : (d c e : ℕ) → d < dart_count part → c < dart_count part → e < dart_count part →
      is_met_before whole (dart edge d) (dart edge c) (dart edge e) ≡ is_met_before part d c e
  met_same d c e l m n =
      met_is whole (dart edge d) (dart edge c) (dart edge e)
      ∙ ap (λ x. met_from x (is_before whole (dart edge d) (dart edge c)) (is_before whole (dart edge c) (dart edge e))) (before_same d e l n)
      ∙ ap (λ x. met_from (is_before part d e) x (is_before whole (dart edge c) (dart edge e))) (before_same d c l m)
      ∙ ap (met_from (is_before part d e) (is_before part d c)) (before_same c e m n)
      ∙ sym (met_is part d c e)

  tails_same : (d c : ℕ) → d < dart_count part → c < dart_count part →
      (tail_of whole.graph (dart edge c) == tail_of whole.graph (dart edge d))
      ≡ (tail_of part.graph c == tail_of part.graph d)
  tails_same d c l m =
      let p = dart_tail d l in
      let q = dart_tail c m in
      elim (cases_eq (tail_of part.graph c) (tail_of part.graph d)) [
        | inl r ↦ eq-eqb _ _ (q ∙ ap node r ∙ sym p) ∙ sym (eq-eqb _ _ r)
        | inr r ↦ ne_eqb _ _ (λ s. r (h.apart _ _ (tail_below c m) (tail_below d l) (sym q ∙ s ∙ p))) ∙ sym (ne_eqb _ _ r)
      ]

  choose : (b : Bool) (x y : ℕ) → (if b then dart edge x else dart edge y) ≡ dart edge (if b then x else y)
  choose true x y = refl
  choose false x y = refl

  first_same : (d c e : ℕ) → d < dart_count part → c < dart_count part → e < dart_count part →
      first_met whole (dart edge d) (dart edge c) (dart edge e) ≡ dart edge (first_met part d c e)
  first_same d c e l m n = rw (tails_same d c l m, met_same d c e l m n)
      (choose ((tail_of part.graph c == tail_of part.graph d) && is_met_before part d c e) c e)

  first_below : (d c e : ℕ) → c < dart_count part → e < dart_count part → first_met part d c e < dart_count part
  first_below d c e m n = elim (cases_Bool ((tail_of part.graph c == tail_of part.graph d) && is_met_before part d c e)) [
    | inl t ↦ let k : first_met part d c e ≡ c = cond-true _ c e t in omega arith
    | inr t ↦ let k : first_met part d c e ≡ e = cond-false _ c e t in omega arith
  ]

  -- a dart that leaves another node is not met
  far_off : (x c y : ℕ) → tail_of whole.graph c ≢ tail_of whole.graph x → first_met whole x c y ≡ y
  far_off x c y n = let e = ne_eqb (tail_of whole.graph c) (tail_of whole.graph x) n in rw e refl

  module _ (p q : ℕ → Bool) (alike : (e : ℕ) → e < length part.graph.edges → q (edge e) ≡ p e) where
    next_low : (k d : ℕ) → k ≤ length part.graph.edges → d < dart_count part → next_below part p k d < dart_count part
    next_low zero d l m = m
    next_low (suc k) d l m = elim (cases_Bool (p k)) [
      | inl t ↦
          let a = next_low k d (omega arith) m in
          let b = first_below d (2 * k) (next_below part p k d) (omega arith) a in
          let c = first_below d (2 * k + 1) (first_met part d (2 * k) (next_below part p k d)) (omega arith) b in
          omega (arith, next_in part p k d t, c)
      | inr t ↦ let a = next_low k d (omega arith) m in omega (arith, next_out part p k d t, a)
    ]

    -- edges of the whole that are none of the part's change nothing
    skip : (from n d : ℕ) → d < dart_count part → from + n ≤ length whole.graph.edges →
        ((f : ℕ) → from ≤ f → f < from + n → (e : ℕ) → e < length part.graph.edges → edge e ≢ f) →
        next_below whole q (from + n) (dart edge d) ≡ next_below whole q from (dart edge d)
    skip from zero d m l none = ap (λ k. next_below whole q k (dart edge d)) (omega arith)
    skip from (suc n) d m l none =
        let f = from + n in
        let rest : next_below whole q f (dart edge d) ≡ next_below whole q from (dart edge d) =
        skip from n d m (omega arith) (λ g a b. none g a (omega arith)) in
        let at : from + suc n ≡ suc f = omega arith in
        let t = dart_tail d m in
        let v = tail_of part.graph d in
        let low = tail_below d m in
        let away : ((edge_at whole.graph f).a ≡ node v) ⊎ ((edge_at whole.graph f).b ≡ node v) → ⊥ = λ s. let k =
        h.closed f v (omega arith) low s in none f (omega arith) (omega arith) k.0 k.1 k.2 in
        let one : tail_of whole.graph (2 * f) ≢ tail_of whole.graph (dart edge d) = λ s. away (inl (sym (first_tail whole.graph f) ∙ s ∙ t)) in
        let two : tail_of whole.graph (2 * f + 1) ≢ tail_of whole.graph (dart edge d) = λ s. away (inr (sym (second_tail whole.graph f) ∙ s ∙ t)) in
        ap (λ k. next_below whole q k (dart edge d)) at ∙ (elim (cases_Bool (q f)) [
          | inl b ↦ next_in whole q f (dart edge d) b ∙ far_off (dart edge d) (2 * f + 1) _ two ∙ far_off (dart edge d) (2 * f) _ one ∙ rest
          | inr b ↦ next_out whole q f (dart edge d) b ∙ rest
        ])

    -- over an edge of the part
    next_step : (k d : ℕ) → k < length part.graph.edges → d < dart_count part →
        next_below whole q (edge k) (dart edge d) ≡ dart edge (next_below part p k d) →
        next_below whole q (suc (edge k)) (dart edge d) ≡ dart edge (next_below part p (suc k) d)
    next_step k d l m before =
        let low = next_low k d (omega arith) m in
        elim (cases_Bool (p k)) [
          | inl t ↦
              let n = next_below part p k d in
              let b = first_below d (2 * k) n (omega arith) low in
              let x : first_met whole (dart edge d) (2 * edge k) (next_below whole q (edge k) (dart edge d)) ≡ dart edge
              (first_met part d (2 * k) n) = ap (first_met whole (dart edge d) (2 * edge k)) before ∙
              ap (λ z. first_met whole (dart edge d) z (dart edge n)) (sym (dart_first edge k)) ∙
              first_same d (2 * k) n m (omega arith) low in
              let y : first_met whole (dart edge d) (2 * edge k + 1) (dart edge (first_met part d (2 * k) n)) ≡ dart
              edge (first_met part d (2 * k + 1) (first_met part d (2 * k) n)) =
              ap (λ z. first_met whole (dart edge d) z (dart edge (first_met part d (2 * k) n)))
              (sym (dart_second edge k)) ∙ first_same d (2 * k + 1) (first_met part d (2 * k) n) m (omega arith) b
              in
              next_in whole q (edge k) (dart edge d) (alike k l ∙ t) ∙
              ap (first_met whole (dart edge d) (2 * edge k + 1)) x ∙ y ∙
              ap (dart edge) (sym (next_in part p k d t))
          | inr t ↦ next_out whole q (edge k) (dart edge d) (alike k l ∙ t) ∙ before ∙ ap (dart edge) (sym (next_out part p k d t))
        ]

    -- up to the place of an edge of the part
    next_upto : (k d : ℕ) → k < length part.graph.edges → d < dart_count part → next_below whole q (edge k) (dart edge d) ≡ dart edge (next_below part p k d)
    next_upto zero d l m =
        let s = skip 0 (edge 0) d m (let b = h.edges 0 l in omega arith)
        (λ f a b e c r. elim (cases_eq e 0) [
          | inl z ↦ let w : edge e ≡ edge 0 = ap edge z in omega arith
          | inr z ↦
              let w = h.order 0 e (omega arith) c in omega arith
        ]) in
        ap (λ k. next_below whole q k (dart edge d)) (omega arith) ∙ s
    next_upto (suc k) d l m =
        let up = h.order k (suc k) (omega arith) l in
        let top = h.edges (suc k) l in
        let gap = edge (suc k) - suc (edge k) in
        let at : edge (suc k) ≡ suc (edge k) + gap = omega arith in
        let s = skip (suc (edge k)) gap d m (omega arith) (λ f a b e c r. elim (cases_lt e (suc k)) [
          | inl z ↦ elim (cases_eq e k) [
            | inl y ↦ let w : edge e ≡ edge k = ap edge y in omega arith
            | inr y ↦ let w =
                h.order e k (omega arith) (omega arith) in omega arith
          ]
          | inr z ↦ elim (cases_eq e (suc k)) [
            | inl y ↦ let w : edge e ≡ edge (suc k) = ap edge y in
                omega arith
            | inr y ↦ let w = h.order (suc k) e (omega arith) c in omega arith
          ]
        ]) in
        ap (λ j. next_below whole q j (dart edge d)) at ∙ s ∙ next_step k d (omega arith) m (next_upto k d (omega arith) m)

    pub around_same : (d : ℕ) → d < dart_count part → next_around whole q (dart edge d) ≡ dart edge (next_around part p d)
    around_same d m =
        let last = length part.graph.edges - 1 in
        let size : suc last ≡ length part.graph.edges = omega arith in
        let top = h.edges last (omega arith) in
        let gap = length whole.graph.edges - suc (edge last) in
        let at : length whole.graph.edges ≡ suc (edge last) + gap = omega arith in
        let s = skip (suc (edge last)) gap d m (omega arith)
        (λ f a b e c r. elim (cases_eq e last) [
          | inl y ↦ let w : edge e ≡ edge last = ap edge y in
              omega arith
          | inr y ↦ let w = h.order e last (omega arith) (omega arith) in omega arith
        ]) in
        ap (λ j. next_below whole q j (dart edge d)) at ∙ s ∙
        next_step last d (omega arith) m (next_upto last d (omega arith) m) ∙
        ap (λ j. dart edge (next_below part p j d)) size

    pub around_below : (d : ℕ) → d < dart_count part → next_around part p d < dart_count part
    around_below d m = next_low (length part.graph.edges) d (omega arith) m

    pub face_same : (d : ℕ) → d < dart_count part → next_in_face whole q (dart edge d) ≡ dart edge (next_in_face part p d)
    face_same d m =
        let e = dart_half edge d in
        let t : q (dart edge d / 2) ≡ p (d / 2) = ap q e ∙ alike (d / 2) (omega arith) in
        elim (cases_Bool (p (d / 2))) [
          | inl b ↦ face_in whole q (dart edge d) (t ∙ b) ∙ ap (next_around whole q) (dart_twin edge d) ∙
              around_same (twin_of d) (twin_below d _ m) ∙ ap (dart edge) (sym (face_in part p d b))
          | inr b ↦ face_out whole q (dart edge d) (t ∙ b) ∙ ap (dart edge) (sym (face_out part p d b))
        ]
