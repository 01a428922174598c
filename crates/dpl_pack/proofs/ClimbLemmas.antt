-- The sets that hold a member, from the single one up. What comes before a set is what was climbed before it.
use Rattle.std.proofs.Common.{arith, ◌≡◌, ◌≢◌, ℕ, zero, suc, ◌+◌, ◌-◌, ◌*◌, ◌<◌, ◌==◌, ◌&&◌, refl, sym, ap, ◌∙◌, subst}
use Rattle.std.proofs.Common.{true, false, cond, inl, inr, Some, None, eq-eqb}
use Rattle.std.specs.Prelude.{option_and_then}
use Rattle.std.proofs.lemmas.Bool.{cases_eq, cases_lt, cases_Bool, cond-true, cond-false, and_parts, and_from, and_left}
use Rattle.std.proofs.lemmas.Bool.{and_right, ne_eqb, false_from_ne_true, true≢false}
use Rattle.std.proofs.lemmas.Option.{same_Some}
use Rattle.dpl_laminar.specs.Loads.{sum_below, size_of}
use Rattle.dpl_laminar.specs.Families.{Sets, IsFamily, climb}
use Rattle.dpl_laminar.proofs.Numbers.{some_none, cases_Option}
use Rattle.dpl_laminar.proofs.Sums.{sum_same, sum_zero, sum_added, sum_at}
use Rattle.dpl_laminar.proofs.Reached.{size_less, size_most, all_reached}
use Rattle.dpl_laminar.proofs.Released.{child_misses}
use Rattle.dpl_pack.specs.Nests.{comes_before, inner_of}
use Rattle.dpl_pack.proofs.NestLemmas.{size, smaller_from, before_cases, before_from, before_self, before_through, holds_live}

-- where the last step led from
climbed_from : (f : Sets) (t d k : ℕ) → climb f t (suc d) ≡ Some k → (q : ℕ) × (climb f t d ≡ Some q) × (f.parent q ≡ Some k)
climbed_from f t d k h = elim (cases_Option (climb f t d)) [
  | inl none ↦ some_none (climb f t (suc d)) k h (ap (option_and_then f.parent) none)
  | inr some ↦ (some.0, some.1, sym (ap (option_and_then f.parent) some.1) ∙ h)
]

-- a set that is reached by climbing from a member
pub record IsClimbed (f : Sets) (t k : ℕ) : Type 0 where
  pub below : k < 2 * f.size
  pub live : f.live k ≡ true
  pub held : f.holds k t ≡ true

pub parent_climbed : (f : Sets) → IsFamily f → (t k p : ℕ) → t < f.size → IsClimbed f t k → f.parent k ≡ Some p → IsClimbed f t p
parent_climbed f fam t k p h w e =
    let r = fam.laminar.children.parent_range k p w.below w.live e in
    record { below = r.1; live = r.2; held = fam.laminar.children.child_holds p k t r.1 h r.3 w.held }

pub single_climbed : (f : Sets) → IsFamily f → (t : ℕ) → t < f.size → IsClimbed f t t
single_climbed f fam t h = record {
  below = omega arith;
  live = fam.laminar.sets.single_live t h;
  held = fam.laminar.sets.single t t h h ∙ eq-eqb t t refl;
}

pub climb_is : (f : Sets) → IsFamily f → (t c k : ℕ) → t < f.size → climb f t c ≡ Some k → IsClimbed f t k
climb_is f fam t zero k h e =
    let P : ℕ → Type 0 = λ z. IsClimbed f t z in
    subst P (same_Some _ _ e) (single_climbed f fam t h)
climb_is f fam t (suc c) k h e =
    let r = climbed_from f t c k e in
    parent_climbed f fam t r.0 k h (climb_is f fam t c r.0 h r.1) r.2

parent_larger : (f : Sets) → IsFamily f → (k p : ℕ) → k < 2 * f.size → f.live k ≡ true → f.parent k ≡ Some p → size f k < size f p
parent_larger f fam k p h live e =
    let r = fam.laminar.children.parent_range k p h live e in
    let x = child_misses f.size f fam.laminar p k r.0 r.1 r.2 r.3 in
    smaller_from f k p (size_less f.size (f.holds k) (f.holds p) (λ m l q. fam.laminar.children.child_holds p k m r.1 l r.3 q) x.0 x.1 x.2 x.3)

chain_grows : (f : Sets) → IsFamily f → (t c d j k : ℕ) → t < f.size → c < d → climb f t c ≡ Some j → climb f t d ≡ Some k → size f j < size f k
chain_grows f fam t c zero j k h less a b = absurd (omega arith)
chain_grows f fam t c (suc d) j k h less a b =
    let r = climbed_from f t d k b in
    let w = climb_is f fam t d r.0 h r.1 in
    let last = parent_larger f fam r.0 k w.below w.live r.2 in
    elim (cases_eq c d) [
      | inl e ↦
          let same : j ≡ r.0 = same_Some _ _ (sym a ∙ ap (climb f t) e ∙ r.1) in
          omega (arith, last, ap (size f) same)
      | inr ne ↦ omega (arith, last, chain_grows f fam t c d j r.0 h (omega arith) a r.1)
    ]

-- how far up a set with a member stands
place_of : (f : Sets) → IsFamily f → (j t : ℕ) → j < 2 * f.size → t < f.size → f.holds j t ≡ true → (c : ℕ) × (climb f t c ≡ Some j)
place_of f fam j t hj ht held = elim (cases_Bool (f.live j)) [
  | inl y ↦ let r = all_reached f fam j t hj ht y held in (r.0, r.2)
  | inr y ↦ absurd (holds_live f fam j t hj ht y held)
]

not_larger : (f : Sets) (j k : ℕ) → comes_before f j k ≡ true → size f k < size f j → ⊥
not_larger f j k b h = elim (before_cases f j k b) [ inl q ↦ omega (arith, q, h) | inr q ↦ omega (arith, q.0, h) ]

not_itself : (f : Sets) (j k : ℕ) → comes_before f j k ≡ true → j ≡ k → ⊥
not_itself f j k b e = true≢false (sym b ∙ ap (λ z. comes_before f z k) e ∙ before_self f k)

-- what the sets that come before a set and hold a member have together, and all that hold it
abbrev pub inner_by : Sets → (ℕ → ℕ) → ℕ → ℕ → ℕ
inner_by f w k t = sum_below (2 * f.size) (λ j. cond (comes_before f j k && f.holds j t) (w j) 0)

abbrev pub total_by : Sets → (ℕ → ℕ) → ℕ → ℕ
total_by f w t = sum_below (2 * f.size) (λ j. cond (f.holds j t) (w j) 0)

-- nothing comes before a single member
pub single_by : (f : Sets) → IsFamily f → (w : ℕ → ℕ) (t : ℕ) → t < f.size → inner_by f w t t ≡ 0
single_by f fam w t h = sum_same (2 * f.size) (λ j. cond (comes_before f j t && f.holds j t) (w j) 0) (λ j. 0)
    (λ j hj. cond-false (comes_before f j t && f.holds j t) (w j) 0
    (false_from_ne_true (comes_before f j t && f.holds j t) (λ both.
    let q = and_parts (comes_before f j t) (f.holds j t) both in
    let r = place_of f fam j t hj h q.1 in
    elim (cases_eq r.0 0) [
      | inl e ↦ not_itself f j t q.0 (same_Some _ _ (sym r.1 ∙ ap (climb f t) e))
      | inr ne ↦ not_larger f j t q.0 (chain_grows f fam t 0 r.0 t j h (omega arith) refl r.1)
    ]))) ∙ sum_zero (2 * f.size)

pub inner_single : (f : Sets) → IsFamily f → (t : ℕ) → t < f.size → inner_of f t t ≡ 0
inner_single f fam t h = single_by f fam f.value t h

-- what comes before the parent of a set is the set, or comes before it
before_parent : (f : Sets) → IsFamily f → (t c j k p : ℕ) → t < f.size → j < 2 * f.size → f.holds j t ≡ true
    → climb f t c ≡ Some k → f.parent k ≡ Some p → j ≢ k → comes_before f j p ≡ true
    → comes_before f j k ≡ true
before_parent f fam t c j k p ht hj held at up ne b =
    let r = place_of f fam j t hj ht held in
    let above : climb f t (suc c) ≡ Some p = ap (option_and_then f.parent) at ∙ up in
    elim (cases_lt r.0 c) [
      | inl less ↦ before_from f j k (inl (chain_grows f fam t r.0 c j k ht less r.1 at))
      | inr more ↦ elim (cases_eq r.0 c) [
        | inl e ↦ absurd (ne (same_Some _ _ (sym r.1 ∙ ap (climb f t) e ∙ at)))
        | inr apart ↦ elim (cases_eq r.0 (suc c)) [
          | inl e ↦ absurd (not_itself f j p b (same_Some _ _ (sym r.1 ∙ ap (climb f t) e ∙ above)))
          | inr far ↦ absurd (not_larger f j p b (chain_grows f fam t (suc c) r.0 p j ht (omega arith) above r.1))
        ]
      ]
    ]

before_step : (f : Sets) → IsFamily f → (w : ℕ → ℕ) (t c k p : ℕ) → t < f.size → climb f t c ≡ Some k
    → f.parent k ≡ Some p → (j : ℕ) → j < 2 * f.size
    → cond (comes_before f j p && f.holds j t) (w j) 0 ≡ cond (comes_before f j k && f.holds j t) (w j) 0 + cond (k == j) (w j) 0
before_step f fam w t c k p ht at up j hj =
    let climbed = climb_is f fam t c k ht at in
    let first : comes_before f k p ≡ true = before_from f k p (inl (parent_larger f fam k p climbed.below climbed.live up)) in
    elim (cases_eq k j) [
      | inl e ↦
          let held : f.holds j t ≡ true = ap (λ z. f.holds z t) (sym e) ∙ climbed.held in
          let before : comes_before f j p ≡ true = ap (λ z. comes_before f z p) (sym e) ∙ first in
          let self : comes_before f j k ≡ false = ap (λ z. comes_before f z k) (sym e) ∙ before_self f k in
          omega (
            arith,
            cond-true (comes_before f j p && f.holds j t) (w j) 0 (and_from (comes_before f j p) (f.holds j t) before held),
            cond-false (comes_before f j k && f.holds j t) (w j) 0 (and_left (comes_before f j k) (f.holds j t) self),
            cond-true (k == j) (w j) 0 (eq-eqb k j e),
          )
      | inr ne ↦
          let same : (comes_before f j p && f.holds j t) ≡ (comes_before f j k && f.holds j t) = elim (cases_Bool (f.holds j t)) [
            | inl held ↦ elim (cases_Bool (comes_before f j k)) [
              | inl b ↦ and_from (comes_before f j p) (f.holds j t) (before_through f j k p b first) held ∙
                  sym (and_from (comes_before f j k) (f.holds j t) b held)
              | inr b ↦
                  and_left (comes_before f j p) (f.holds j t) (false_from_ne_true (comes_before f j p)
                  (λ q. true≢false (sym (before_parent f fam t c j k p ht hj held at up (λ z. ne (sym z)) q) ∙ b))) ∙
                  sym (and_left (comes_before f j k) (f.holds j t) b)
            ]
            | inr off ↦ and_right (comes_before f j p) (f.holds j t) off ∙ sym (and_right (comes_before f j k) (f.holds j t) off)
          ] in
          omega (arith, ap (λ b. cond b (w j) 0) same, cond-false (k == j) (w j) 0 (ne_eqb k j ne))
    ]

pub parent_by : (f : Sets) → IsFamily f → (w : ℕ → ℕ) (t c k p : ℕ) → t < f.size → climb f t c ≡ Some k
    → f.parent k ≡ Some p → inner_by f w p t ≡ inner_by f w k t + w k
parent_by f fam w t c k p ht at up =
    let climbed = climb_is f fam t c k ht at in
    let own : ℕ → ℕ = λ j. cond (k == j) (w j) 0 in
    let inside : ℕ → ℕ = λ j. cond (comes_before f j k && f.holds j t) (w j) 0 in
    omega (
      arith,
      sum_same (2 * f.size) (λ j. cond (comes_before f j p && f.holds j t) (w j) 0) (λ j. inside j + own j) (before_step f fam w t c k p ht at up),
      sum_added (2 * f.size) inside own,
      sum_at (2 * f.size) k w climbed.below,
    )

pub inner_parent : (f : Sets) → IsFamily f → (t c k p : ℕ) → t < f.size → climb f t c ≡ Some k
    → f.parent k ≡ Some p → inner_of f p t ≡ inner_of f k t + f.value k
inner_parent f fam t c k p ht at up = parent_by f fam f.value t c k p ht at up

-- all other sets that hold a member come before its top
before_top : (f : Sets) → IsFamily f → (t c k j : ℕ) → t < f.size → j < 2 * f.size → climb f t c ≡ Some k
    → f.parent k ≡ None → f.holds j t ≡ true → j ≢ k → comes_before f j k ≡ true
before_top f fam t c k j ht hj at top held ne =
    let r = place_of f fam j t hj ht held in
    elim (cases_lt r.0 c) [
      | inl less ↦ before_from f j k (inl (chain_grows f fam t r.0 c j k ht less r.1 at))
      | inr more ↦ elim (cases_eq r.0 c) [
        | inl e ↦ absurd (ne (same_Some _ _ (sym r.1 ∙ ap (climb f t) e ∙ at)))
        | inr apart ↦ absurd (ended f t c k j r.0 at top r.1 (omega (arith, more, apart)))
      ]
    ]
  where
    -- nothing is reached beyond a top
    gone : (f : Sets) (t c k m d : ℕ) → d ≡ m + suc c → climb f t c ≡ Some k → f.parent k ≡ None → climb f t d ≡ None
    gone f t c k zero d e at top =
        let e' : d ≡ suc c = omega (arith, e) in
        ap (climb f t) e' ∙ ap (option_and_then f.parent) at ∙ top
    gone f t c k (suc m) d e at top =
        let e' : d ≡ suc (m + suc c) = omega (arith, e) in
        ap (climb f t) e' ∙ ap (option_and_then f.parent) (gone f t c k m (m + suc c) refl at top)

    ended : (f : Sets) (t c k j d : ℕ) → climb f t c ≡ Some k → f.parent k ≡ None → climb f t d ≡ Some j → c < d → ⊥
    ended f t c k j d at top there less =
        some_none (climb f t d) j there (gone f t c k (d - suc c) d (omega (arith, less)) at top)

pub top_by : (f : Sets) → IsFamily f → (w : ℕ → ℕ) (t c k : ℕ) → t < f.size → climb f t c ≡ Some k → f.parent k ≡ None
    → total_by f w t ≡ inner_by f w k t + w k
top_by f fam w t c k ht at top =
    let climbed = climb_is f fam t c k ht at in
    let own : ℕ → ℕ = λ j. cond (k == j) (w j) 0 in
    let inside : ℕ → ℕ = λ j. cond (comes_before f j k && f.holds j t) (w j) 0 in
    omega (
      arith,
      sum_same (2 * f.size) (λ j. cond (f.holds j t) (w j) 0) (λ j. inside j + own j) (λ j hj. elim (cases_eq k j) [
        | inl e ↦
            let held : f.holds j t ≡ true = ap (λ z. f.holds z t) (sym e) ∙ climbed.held in
            let self : comes_before f j k ≡ false = ap (λ z. comes_before f z k) (sym e) ∙ before_self f k in
            omega (
              arith,
              cond-true (f.holds j t) (w j) 0 held,
              cond-false (comes_before f j k && f.holds j t) (w j) 0 (and_left (comes_before f j k) (f.holds j t) self),
              cond-true (k == j) (w j) 0 (eq-eqb k j e),
            )
        | inr ne ↦ elim (cases_Bool (f.holds j t)) [
          | inl held ↦ omega (
            arith,
            cond-true (f.holds j t) (w j) 0 held,
            cond-true (comes_before f j k && f.holds j t) (w j) 0 (and_from (comes_before f j k) (f.holds j t)
                (before_top f fam t c k j ht hj at top held (λ z. ne (sym z))) held),
            cond-false (k == j) (w j) 0 (ne_eqb k j ne),
          )
          | inr off ↦ omega (
            arith,
            cond-false (f.holds j t) (w j) 0 off,
            cond-false (comes_before f j k && f.holds j t) (w j) 0 (and_right (comes_before f j k) (f.holds j t) off),
            cond-false (k == j) (w j) 0 (ne_eqb k j ne),
          )
        ]
      ]),
      sum_added (2 * f.size) inside own,
      sum_at (2 * f.size) k w climbed.below,
    )

size_is : (f : Sets) (k : ℕ) → size f k ≡ size_of f.size (f.holds k)
unfolding size
size_is f k = refl

-- a set has more members than steps lead to it
steps_few : (f : Sets) → IsFamily f → (t c k : ℕ) → t < f.size → climb f t c ≡ Some k → c < size f k
steps_few f fam t zero k h at =
    let w = climb_is f fam t zero k h at in
    elim (cases_lt 0 (size f k)) [
      | inl l ↦ l
      | inr l ↦ absurd (omega (arith, l, fam.laminar.sets.odd k w.below w.live, size_is f k))
    ]
steps_few f fam t (suc c) k h at =
    let r = climbed_from f t c k at in
    omega (arith, steps_few f fam t c r.0 h r.1, chain_grows f fam t c (suc c) r.0 k h (omega arith) r.1 at)

pub few_steps : (f : Sets) → IsFamily f → (t c k : ℕ) → t < f.size → climb f t c ≡ Some k → c < f.size
unfolding size
few_steps f fam t c k h at = omega (arith, steps_few f fam t c k h at, size_most f.size (f.holds k))
