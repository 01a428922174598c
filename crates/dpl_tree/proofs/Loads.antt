use Rattle.std.proofs.Common.{arith, ◌≡◌, ◌≢◌, ℕ, ◌+◌, ◌*◌, ◌%◌, ◌<◌, ◌≤◌, ◌⊎◌, refl, sym, ap, ◌∙◌, Bool, true, false, cond, inl, inr, eqb, eq-eqb, None}
use Rattle.std.proofs.lemmas.Bool.{cases_eq, cases_Bool, cond-true, cond-false, ne_eqb}
use Rattle.dpl_laminar.proofs.Sums.{sum_same, sum_added, sum_at}
use Rattle.dpl_laminar.specs.Families.{Sets, IsLaminar}
use Rattle.dpl_laminar.specs.Loads.{sum_below, load_in, differ}
use Rattle.dpl_tree.specs.steps.Forests.{Place, free, outer, inner, Shifts, gain, drop_of}
use Rattle.dpl_tree.specs.Mates.{total_in}
use Rattle.dpl_tree.specs.Stages.{HasParity}

-- ---- loads by totals

split_term : (a b : Bool) (x : ℕ) → ((a ≡ true) → (b ≡ true) → ⊥) → cond (differ a b) x 0 ≡ cond a x 0 + cond b x 0
split_term true true x h = absurd (h refl refl)
split_term true false x h = omega arith
split_term false true x h = omega arith
split_term false false x h = refl

-- the load of two members with different tops is the sum of their totals
pub load_totals : (n : ℕ) (f : Sets) (value : ℕ → ℕ) → IsLaminar n f → (s t : ℕ) → s < n → t < n
    → f.top s ≢ f.top t
    → load_in (2 * n) value f.holds s t ≡ total_in (2 * n) value f.holds s + total_in (2 * n) value f.holds t
load_totals n f value p s t hs ht ne =
    sum_same (2 * n) _ _ (λ i h. split_term (f.holds i s) (f.holds i t) (value i) (λ a b. ne (p.tops.top_shared i s t h hs ht a b))) ∙
    sum_added (2 * n) (λ i. cond (f.holds i s) (value i) 0) (λ i. cond (f.holds i t) (value i) 0)

-- ---- loads of tops alone

both_zero : (a b : Bool) (x : ℕ) → x ≡ 0 → cond a x 0 ≡ cond b x 0
both_zero true true x e = refl
both_zero true false x e = e
both_zero false true x e = sym e
both_zero false false x e = refl

cond_sums : (t : Bool) (a b c d : ℕ) → a + b ≡ c + d → cond t a 0 + cond t b 0 ≡ cond t c 0 + cond t d 0
cond_sums true a b c d e = e
cond_sums false a b c d e = refl

one_side : (a b : Bool) → differ a b ≡ true → ((a ≡ true) → b ≡ true) → ((b ≡ true) → a ≡ true) → ⊥
one_side true true d x y = let no : false ≡ true = d in cc
one_side true false d x y = let no : false ≡ true = x refl in cc
one_side false true d x y = let no : false ≡ true = y refl in cc
one_side false false d x y = let no : false ≡ true = d in cc

-- for values that only tops have, a load is what the two tops have, or nothing where they are one
top_term : (n : ℕ) (f : Sets) → IsLaminar n f → (w : ℕ → ℕ)
    → ((i : ℕ) → i < 2 * n → (w i ≡ 0) ⊎ (f.parent i ≡ None)) → (m i : ℕ) → m < n → i < 2 * n
    → cond (f.holds i m) (w i) 0 ≡ cond (eqb (f.top m) i) (w i) 0
top_term n f p w tops m i hm hi = elim (tops i hi) [
  | inl z ↦ both_zero (f.holds i m) (eqb (f.top m) i) (w i) z
  | inr t ↦ elim (cases_eq (f.top m) i) [
    | inl e ↦ cond-true (f.holds i m) (w i) 0 (ap (λ z. f.holds z m) (sym e) ∙ p.tops.top_holds m hm) ∙
        sym (cond-true (eqb (f.top m) i) (w i) 0 (eq-eqb (f.top m) i e))
    | inr ne ↦ elim (cases_Bool (f.holds i m)) [
      | inl h ↦ absurd (ne (p.tops.top_alone i m hi hm t h))
      | inr h ↦ cond-false (f.holds i m) (w i) 0 h ∙ sym (cond-false (eqb (f.top m) i) (w i) 0 (ne_eqb (f.top m) i ne))
    ]
  ]
]

pub total_of_tops : (n : ℕ) (f : Sets) → IsLaminar n f → (w : ℕ → ℕ)
    → ((i : ℕ) → i < 2 * n → (w i ≡ 0) ⊎ (f.parent i ≡ None)) → (m : ℕ) → m < n
    → total_in (2 * n) w f.holds m ≡ w (f.top m)
total_of_tops n f p w tops m hm = sum_same (2 * n) _ _ (λ i hi. top_term n f p w tops m i hm hi) ∙ sum_at (2 * n) (f.top m) w (p.tops.top_range m hm)

-- two values that differ by what tops have
pub total_shifted : (n : ℕ) (f : Sets) → IsLaminar n f → (v v' up down : ℕ → ℕ)
    → ((i : ℕ) → i < 2 * n → (up i ≡ 0) ⊎ (f.parent i ≡ None))
    → ((i : ℕ) → i < 2 * n → (down i ≡ 0) ⊎ (f.parent i ≡ None))
    → ((i : ℕ) → i < 2 * n → v' i + down i ≡ v i + up i) → (m : ℕ) → m < n
    → total_in (2 * n) v' f.holds m + down (f.top m) ≡ total_in (2 * n) v f.holds m + up (f.top m)
total_shifted n f p v v' up down tu td e m hm =
    let both : sum_below (2 * n) (λ i. cond (f.holds i m) (v' i) 0 + cond (f.holds i m) (down i) 0) ≡ sum_below (2 * n)
    (λ i. cond (f.holds i m) (v i) 0 + cond (f.holds i m) (up i) 0) =
    sum_same (2 * n) _ _ (λ i hi. cond_sums (f.holds i m) (v' i) (down i) (v i) (up i) (e i hi)) in
    omega (
      arith,
      both,
      sum_added (2 * n) (λ i. cond (f.holds i m) (v' i) 0) (λ i. cond (f.holds i m) (down i) 0),
      sum_added (2 * n) (λ i. cond (f.holds i m) (v i) 0) (λ i. cond (f.holds i m) (up i) 0),
      total_of_tops n f p up tu m hm,
      total_of_tops n f p down td m hm,
    )

-- a load between members of one top does not see what tops have
pub load_inside : (n : ℕ) (f : Sets) → IsLaminar n f → (v v' up down : ℕ → ℕ)
    → ((i : ℕ) → i < 2 * n → (up i ≡ 0) ⊎ (f.parent i ≡ None))
    → ((i : ℕ) → i < 2 * n → (down i ≡ 0) ⊎ (f.parent i ≡ None))
    → ((i : ℕ) → i < 2 * n → v' i + down i ≡ v i + up i) → (s t : ℕ) → s < n → t < n → f.top s ≡ f.top t
    → load_in (2 * n) v' f.holds s t ≡ load_in (2 * n) v f.holds s t
load_inside n f p v v' up down tu td e s t hs ht same = sum_same (2 * n) _ _ (λ i hi. elim (cases_Bool (differ (f.holds i s) (f.holds i t))) [
  | inr alike ↦ cond-false _ (v' i) 0 alike ∙ sym (cond-false _ (v i) 0 alike)
  | inl apart ↦
      let low = λ (w : ℕ → ℕ) (k : (w i ≡ 0) ⊎ (f.parent i ≡ None)). (elim k as (λ _. w i ≡ 0) [
        | inl z ↦ z
        | inr top ↦ absurd (one_side (f.holds i s) (f.holds i t) apart
            (λ a. ap (λ z. f.holds z t) (sym (sym same ∙ p.tops.top_alone i s hi hs top a)) ∙ p.tops.top_holds t ht)
            (λ b. ap (λ z. f.holds z s) (sym (same ∙ p.tops.top_alone i t hi ht top b)) ∙ p.tops.top_holds s hs))
      ]) in
      let eq : v' i ≡ v i = omega (arith, e i hi, low up (tu i hi), low down (td i hi)) in
      cond-true _ (v' i) 0 apart ∙ eq ∙ sym (cond-true _ (v i) 0 apart)
])

-- ---- one change of the values

up_only : (f : Sets) (place : ℕ → Place) (by k : ℕ) → ((i : ℕ) → i < k → place i ≢ free → f.parent i ≡ None) → (i : ℕ) →
    i < k → (gain (place i) * by ≡ 0) ⊎ (f.parent i ≡ None)
up_only f place by k tops i h = from (place i) refl where
  from : (q : Place) → place i ≡ q → (gain q * by ≡ 0) ⊎ (f.parent i ≡ None)
  from free e = inl (omega arith)
  from outer e = inr (tops i h (λ z. let no : outer ≡ free = sym e ∙ z in cc))
  from inner e = inl (omega arith)

down_only : (f : Sets) (place : ℕ → Place) (by k : ℕ) → ((i : ℕ) → i < k → place i ≢ free → f.parent i ≡ None)
    → (i : ℕ) → i < k → (drop_of (place i) * by ≡ 0) ⊎ (f.parent i ≡ None)
down_only f place by k tops i h = from (place i) refl where
  from : (q : Place) → place i ≡ q → (drop_of q * by ≡ 0) ⊎ (f.parent i ≡ None)
  from free e = inl (omega arith)
  from inner e = inr (tops i h (λ z. let no : inner ≡ free = sym e ∙ z in cc))
  from outer e = inl (omega arith)

pub shift_total : (n : ℕ) (f : Sets) → IsLaminar n f → (place : ℕ → Place) (by : ℕ) (v v' : ℕ → ℕ)
    → Shifts (2 * n) f place by v v' → (m : ℕ) → m < n
    → total_in (2 * n) v' f.holds m + drop_of (place (f.top m)) * by ≡ total_in (2 * n) v f.holds m + gain (place (f.top m)) * by
shift_total n f p place by v v' s m h = total_shifted n f p v v' (λ i. gain (place i) * by)
    (λ i. drop_of (place i) * by) (up_only f place by (2 * n) s.tops) (down_only f place by (2 * n) s.tops) s.each m h

pub shift_inside : (n : ℕ) (f : Sets) → IsLaminar n f → (place : ℕ → Place) (by : ℕ) (v v' : ℕ → ℕ)
    → Shifts (2 * n) f place by v v' → (s t : ℕ) → s < n → t < n → f.top s ≡ f.top t
    → load_in (2 * n) v' f.holds s t ≡ load_in (2 * n) v f.holds s t
shift_inside n f p place by v v' s a b ha hb e = load_inside n f p v v' (λ i. gain (place i) * by)
    (λ i. drop_of (place i) * by) (up_only f place by (2 * n) s.tops) (down_only f place by (2 * n) s.tops) s.each a b
    ha hb e

-- the load of two members with different tops, from what the tops are
pub shift_load : (n : ℕ) (f : Sets) → IsLaminar n f → (place : ℕ → Place) (by : ℕ) (v v' : ℕ → ℕ) →
    Shifts (2 * n) f place by v v' → (s t : ℕ) → s < n → t < n → f.top s ≢ f.top t →
    load_in (2 * n) v' f.holds s t + (drop_of (place (f.top s)) * by + drop_of (place (f.top t)) * by) ≡ load_in (2 * n)
    v f.holds s t + (gain (place (f.top s)) * by + gain (place (f.top t)) * by)
shift_load n f p place by v v' sh s t hs ht ne = omega (
  arith,
  load_totals n f v p s t hs ht ne,
  load_totals n f v' p s t hs ht ne,
  shift_total n f p place by v v' sh s hs,
  shift_total n f p place by v v' sh t ht,
)

times : (g : Place → ℕ) (by : ℕ) {a b : Place} → a ≡ b → g a * by ≡ g b * by
times g by e = ap (λ z. g z * by) e

-- how much room a pair must have, by what its tops are
pub record HasRoom (n : ℕ) (f : Sets) (place : ℕ → Place) (by : ℕ) (v : ℕ → ℕ) (dist : ℕ → ℕ → ℕ) : Type 0 where
  pub within : (s t : ℕ) → s < n → t < n → s ≢ t → load_in (2 * n) v f.holds s t ≤ dist s t
  pub both_outer : (s t : ℕ) → s < n → t < n → f.top s ≢ f.top t → place (f.top s) ≡ outer → place (f.top t) ≡ outer →
      load_in (2 * n) v f.holds s t + 2 * by ≤ dist s t
  pub outer_free : (s t : ℕ) → s < n → t < n → place (f.top s) ≡ outer → place (f.top t) ≡ free → load_in (2 * n) v f.holds s t + by ≤ dist s t
  pub free_outer : (s t : ℕ) → s < n → t < n → place (f.top s) ≡ free → place (f.top t) ≡ outer → load_in (2 * n) v f.holds s t + by ≤ dist s t

-- the pairs of tops between which a tight pair stays tight
pub data Balanced : Place → Place → Type 0 where
  both_free : Balanced free free
  outer_inner : Balanced outer inner
  inner_outer : Balanced inner outer

balance : (a b : Place) (by : ℕ) → Balanced a b → drop_of a * by + drop_of b * by ≡ gain a * by + gain b * by
balance free free by both_free = refl
balance outer inner by outer_inner = omega arith
balance inner outer by inner_outer = omega arith
balance free outer by x = elim x [ ]
balance free inner by x = elim x [ ]
balance outer free by x = elim x [ ]
balance outer outer by x = elim x [ ]
balance inner free by x = elim x [ ]
balance inner inner by x = elim x [ ]

-- tight pairs stay tight: within one top, between an outer and an inner one, and between two outside of the tree
pub shift_tight : (n : ℕ) (f : Sets) → IsLaminar n f
    → (place : ℕ → Place) (by : ℕ) (v v' : ℕ → ℕ) (dist : ℕ → ℕ → ℕ) → Shifts (2 * n) f place by v v'
    → (s t : ℕ) → s < n → t < n
    → (f.top s ≡ f.top t) ⊎ ((f.top s ≢ f.top t) × Balanced (place (f.top s)) (place (f.top t)))
    → load_in (2 * n) v f.holds s t ≡ dist s t → load_in (2 * n) v' f.holds s t ≡ dist s t
shift_tight n f p place by v v' dist sh s t hs ht (inl same) e = shift_inside n f p place by v v' sh s t hs ht same ∙ e
shift_tight n f p place by v v' dist sh s t hs ht (inr w) e =
    omega (
      arith,
      shift_load n f p place by v v' sh s t hs ht w.0,
      balance (place (f.top s)) (place (f.top t)) by w.1,
      e,
    )

-- ---- parity

one_way : (a : Place) (x y by : ℕ) → a ≢ free → y + drop_of a * by ≡ x + gain a * by → (y % 2 ≡ (x + by) % 2)
one_way free x y by ne e = absurd (ne refl)
one_way outer x y by ne e = omega arith
one_way inner x y by ne e = omega arith

pub shift_parity : (n : ℕ) (f : Sets) → IsLaminar n f → (place : ℕ → Place) (by : ℕ) (v v' : ℕ → ℕ)
    → Shifts (2 * n) f place by v v' → HasParity n f place v → HasParity n f place v'
shift_parity n f p place by v v' sh h = record {
  in_top = λ s t hs ht e.
      let a = shift_total n f p place by v v' sh s hs in
      let b = shift_total n f p place by v v' sh t ht in
      omega (arith, a, b, ap (λ z. gain (place z) * by) e, ap (λ z. drop_of (place z) * by) e, h.in_top s t hs ht e);
  in_tree = λ s t hs ht ps pt.
      omega (
        arith,
        one_way (place (f.top s)) _ _ by ps (shift_total n f p place by v v' sh s hs),
        one_way (place (f.top t)) _ _ by pt (shift_total n f p place by v v' sh t ht),
        h.in_tree s t hs ht ps pt,
      );
}
