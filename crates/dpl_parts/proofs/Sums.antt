-- Sums over all numbers and over some of them.
use Rattle.std.proofs.Common.{arith, ◌≡◌, ◌≢◌, ℕ, zero, suc, ◌+◌, ◌-◌, ◌<◌, ◌≤◌, refl, ap, Bool, inl, inr}
use Rattle.std.specs.Prelude.{if◌then◌else◌}
use Rattle.std.proofs.lemmas.Bool.{cases_lt, cases_eq}
use Rattle.dpl_cycle.specs.Sums.{sum_on}
use Rattle.dpl_sign.proofs.Loads.{sum_to_same, sum_to}

pub sums_to : (p : ℕ → Bool) (w : ℕ → ℕ) (n : ℕ) → sum_on p w n ≡ sum_to (λ e. if p e then w e else 0) n
sums_to p w zero = refl
sums_to p w (suc n) = let r = sums_to p w n in omega (arith, r)

-- two sums over a stretch in which they agree differ as they did before it
sum_stretch : (f g : ℕ → ℕ) (from n : ℕ) → ((e : ℕ) → from ≤ e → e < from + n → f e ≡ g e)
    → sum_to f (from + n) + sum_to g from ≡ sum_to g (from + n) + sum_to f from
sum_stretch f g from zero h =
    let e : from + 0 ≡ from = omega arith in
    let a : sum_to f (from + 0) ≡ sum_to f from = ap (sum_to f) e in
    let b : sum_to g (from + 0) ≡ sum_to g from = ap (sum_to g) e in
    omega (arith, a, b)
sum_stretch f g from (suc n) h =
    let r = sum_stretch f g from n (λ e a b. h e a (omega arith)) in
    let s = h (from + n) (omega arith) (omega arith) in
    let e : from + suc n ≡ suc (from + n) = omega arith in
    let a : sum_to f (from + suc n) ≡ f (from + n) + sum_to f (from + n) = ap (sum_to f) e in
    let b : sum_to g (from + suc n) ≡ g (from + n) + sum_to g (from + n) = ap (sum_to g) e in
    omega (arith, r, s, a, b)

-- numbers below m stand in their order among those below n
pub record AreAmong (place : ℕ → ℕ) (m n : ℕ) : Type 0 where
  pub inside : (e : ℕ) → e < m → place e < n
  pub order : (e f : ℕ) → e < f → f < m → place e < place f

module _ (place : ℕ → ℕ) (m n : ℕ) (h : AreAmong place m n) (f g : ℕ → ℕ) (same : (e : ℕ) → e < n → ((x : ℕ) → x < m → place x ≢ e) → f e ≡ g e) where
  -- what the sums differ by they differ by over these numbers, up to any one
  sum_upto : (k : ℕ) → k < m → sum_to f (place k) + sum_to (λ x. g (place x)) k ≡ sum_to g (place k) + sum_to (λ x. f (place x)) k
  sum_upto zero l =
      let s = sum_stretch f g 0 (place 0) (λ e a b. same e (let t = h.inside 0 l in omega arith)
      (λ x c r. elim (cases_eq x 0) [
        | inl z ↦ let w : place x ≡ place 0 = ap place z in omega arith
        | inr z ↦
            let w = h.order 0 x (omega arith) c in omega arith
      ])) in
      let a : sum_to f (0 + place 0) ≡ sum_to f (place 0) = ap (sum_to f) (omega arith) in
      let b : sum_to g (0 + place 0) ≡ sum_to g (place 0) = ap (sum_to g) (omega arith) in
      omega (arith, s, a, b)
  sum_upto (suc k) l =
      let before = sum_upto k (omega arith) in
      let up = h.order k (suc k) (omega arith) l in
      let top = h.inside (suc k) l in
      let gap = place (suc k) - suc (place k) in
      let at : suc (place k) + gap ≡ place (suc k) = omega arith in
      let s = sum_stretch f g (suc (place k)) gap (λ e a b. same e (omega arith) (λ x c r. elim (cases_lt x (suc k)) [
        | inl z ↦ elim (cases_eq x k) [
          | inl y ↦ let w : place x ≡ place k = ap place y in omega arith
          | inr y ↦ let w =
              h.order x k (omega arith) (omega arith) in omega arith
        ]
        | inr z ↦ elim (cases_eq x (suc k)) [
          | inl y ↦ let w : place x ≡ place (suc k) = ap place y in
              omega arith
          | inr y ↦ let w = h.order (suc k) x (omega arith) c in omega arith
        ]
      ])) in
      let a : sum_to f (suc (place k) + gap) ≡ sum_to f (place (suc k)) = ap (sum_to f) at in
      let b : sum_to g (suc (place k) + gap) ≡ sum_to g (place (suc k)) = ap (sum_to g) at in
      omega (arith, s, a, b, before)

  pub sum_part : sum_to f (n) + sum_to (λ x. g (place x)) (m) ≡ sum_to g (n) + sum_to (λ x. f (place x)) (m)
  sum_part = elim (cases_eq (m) 0) [
    | inl z ↦
        let s : sum_to f (n) ≡ sum_to g (n) = sum_to_same f g (n) (λ e l. same e l (λ x c r. absurd (omega arith))) in
        let a : sum_to (λ x. g (place x)) (m) ≡ 0 = ap (sum_to (λ x. g (place x))) z in
        let b : sum_to (λ x. f (place x)) (m) ≡ 0 = ap (sum_to (λ x. f (place x))) z in
        omega (arith, s, a, b)
    | inr z ↦
        let last = m - 1 in
        let size : suc last ≡ m = omega arith in
        let top = h.inside last (omega arith) in
        let before = sum_upto last (omega arith) in
        let gap = n - suc (place last) in
        let at : suc (place last) + gap ≡ n = omega arith in
        let s = sum_stretch f g (suc (place last)) gap
        (λ e a b. same e (omega arith) (λ x c r. elim (cases_eq x last) [
          | inl y ↦ let w : place x ≡ place last = ap place y in omega arith
          | inr y ↦ let w =
              h.order x last (omega arith) (omega arith) in omega arith
        ])) in
        let a : sum_to f (suc (place last) + gap) ≡ sum_to f (n) = ap (sum_to f) at in
        let b : sum_to g (suc (place last) + gap) ≡ sum_to g (n) = ap (sum_to g) at in
        let c : sum_to (λ x. f (place x)) (suc last) ≡ sum_to (λ x. f (place x)) (m) = ap (sum_to (λ x. f (place x))) size in
        let d : sum_to (λ x. g (place x)) (suc last) ≡ sum_to (λ x. g (place x)) (m) = ap (sum_to (λ x. g (place x))) size in
        omega (arith, s, a, b, c, d, before)
  ]
