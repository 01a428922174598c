-- Sums over the numbers below n.
use Rattle.std.proofs.Common.{arith, ◌≡◌, ℕ, zero, suc, ◌+◌, ◌*◌, ◌%◌, ◌<◌, ◌≤◌, refl, sym, ap, ◌∙◌, Bool, true, false, cond, inl, inr, eqb, eq-eqb}
use Rattle.std.proofs.lemmas.Bool.{cases_eq, cond-true, cond-false, ne_eqb}
use Rattle.std.proofs.Math.Nat.{add-mul}
use Rattle.dpl_laminar.specs.Loads.{sum_below}

pub sum_same : (n : ℕ) (f g : ℕ → ℕ) → ((m : ℕ) → m < n → f m ≡ g m) → sum_below n f ≡ sum_below n g
sum_same zero f g e = refl
sum_same (suc n) f g e = omega (arith, e n (omega arith), sum_same n f g (λ m h. e m (omega arith)))

pub sum_most : (n : ℕ) (f g : ℕ → ℕ) → ((m : ℕ) → m < n → f m ≤ g m) → sum_below n f ≤ sum_below n g
sum_most zero f g e = omega arith
sum_most (suc n) f g e = omega (arith, e n (omega arith), sum_most n f g (λ m h. e m (omega arith)))

pub sum_zero : (n : ℕ) → sum_below n (λ m. 0) ≡ 0
sum_zero zero = refl
sum_zero (suc n) = omega (arith, sum_zero n)

pub sum_added : (n : ℕ) (f g : ℕ → ℕ) → sum_below n (λ m. f m + g m) ≡ sum_below n f + sum_below n g
sum_added zero f g = refl
sum_added (suc n) f g = omega (arith, sum_added n f g)

pub sum_times : (n : ℕ) (f : ℕ → ℕ) (c : ℕ) → sum_below n (λ m. f m * c) ≡ sum_below n f * c
sum_times zero f c = omega arith
sum_times (suc n) f c = omega (arith, sum_times n f c, add-mul (f n) (sum_below n f) c)

-- one place of a sum
pub sum_at : (k a : ℕ) (w : ℕ → ℕ) → a < k → sum_below k (λ i. cond (eqb a i) (w i) 0) ≡ w a
sum_at zero a w h = absurd (omega arith)
sum_at (suc k) a w h = elim (cases_eq a k) [
  | inl e ↦
      let rest : sum_below k (λ i. cond (eqb a i) (w i) 0) ≡ 0 =
      sum_same k _ (λ i. 0) (λ i l. cond-false (eqb a i) (w i) 0 (ne_eqb a i (λ z. omega arith))) ∙ sum_zero k in
      omega (arith, rest, cond-true (eqb a k) (w k) 0 (eq-eqb a k e), ap w e)
  | inr ne ↦ omega (arith, sum_at k a w (omega arith), cond-false (eqb a k) (w k) 0 (ne_eqb a k ne))
]

-- the order of two sums
pub sum_turned : (n k : ℕ) (f : ℕ → ℕ → ℕ) → sum_below n (λ m. sum_below k (f m)) ≡ sum_below k (λ i. sum_below n (λ m. f m i))
sum_turned zero k f = sym (sum_zero k)
sum_turned (suc n) k f = omega (arith, sum_turned n k f, sum_added k (f n) (λ i. sum_below n (λ m. f m i)))

pub sum_parity : (n : ℕ) (f g : ℕ → ℕ) → ((m : ℕ) → m < n → f m % 2 ≡ g m % 2) → sum_below n f % 2 ≡ sum_below n g % 2
sum_parity zero f g e = refl
sum_parity (suc n) f g e = omega (arith, e n (omega arith), sum_parity n f g (λ m h. e m (omega arith)))

pub sum_most_each : (k : ℕ) (f : ℕ → ℕ) (b : ℕ) → ((i : ℕ) → i < k → f i ≤ b) → sum_below k f ≤ k * b
sum_most_each zero f b h = omega arith
sum_most_each (suc k) f b h = omega (arith, h k (omega arith), sum_most_each k f b (λ i l. h i (omega arith)))

pub cond_most : (t : Bool) (x b : ℕ) → x ≤ b → cond t x 0 ≤ b
cond_most true x b h = h
cond_most false x b h = omega arith
