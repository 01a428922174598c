-- Scaling keeps the order.
use Rattle.std.proofs.Common.{◌≡◌, ℕ, suc, ◌*◌, ◌<◌, ℤ, pos, ◌+ℤ◌, ◌*ℤ◌, ◌<ℤ◌, true, sym, ◌∙◌, ap, arith, unsigned_abs, ◌==◌}
use Rattle.std.proofs.lemmas.Grind.{common_steps}
use Rattle.std.proofs.Math.IntN.{negsuc, neg_ℤ, +ℤ_idr}
use Rattle.std.proofs.lemmas.Int.{ints, quot-rem}
use Rattle.std.proofs.Math.Nat.{lt_of_mul-lt-mul_right, mul-lt-mul_of_pos_right}
use Rattle.std.specs.Int.RustNames.{int_div, int_rem}
use Rattle.dpl_rules.specs.declared.command.Scale.{Scale}
use Rattle.dpl_rules.specs.Figures.{is_on_grid, scaled}

mul_lt : (m k n : ℕ) → 0 < n → m < k → m * n < k * n
mul_lt m k n p h = mul-lt-mul_of_pos_right h p

lt_pos : (x y : ℕ) → x < y → pos x <ℤ pos y
lt_pos x y h = omega (arith, ints)

lt_neg_pos : (x y : ℕ) → 0 < x → neg_ℤ (pos x) <ℤ pos y
lt_neg_pos x y h = omega (arith, ints)

lt_neg : (x y : ℕ) → y < x → neg_ℤ (pos x) <ℤ neg_ℤ (pos y)
lt_neg x y h = omega (arith, ints)

of_lt_pos : (x y : ℕ) → pos x <ℤ pos y → x < y
of_lt_pos x y h = omega (arith, ints)

of_lt_neg : (x y : ℕ) → neg_ℤ (pos x) <ℤ neg_ℤ (pos y) → y < x
of_lt_neg x y h = omega (arith, ints)

not_pos_neg : (x y : ℕ) → pos x <ℤ neg_ℤ (pos y) → ⊥
not_pos_neg x y h = omega (arith, ints)

some_times : (m n : ℕ) → 0 < n → 0 < suc m * n
some_times m n h = let q : 0 * n < suc m * n = mul_lt 0 (suc m) n h (omega arith) in omega arith

times : (a b : ℤ) (n : ℕ) → 0 < n → a <ℤ b → (a *ℤ pos n) <ℤ (b *ℤ pos n)
times (pos m) (pos k) n p h = lt_pos (m * n) (k * n) (mul_lt m k n p (of_lt_pos m k h))
times (pos m) (negsuc k) n p h = absurd (omega (arith, ints, h))
times (negsuc m) (pos k) n p h = lt_neg_pos (suc m * n) (k * n) (some_times m n p)
times (negsuc m) (negsuc k) n p h = lt_neg (suc m * n) (suc k * n) (mul_lt (suc k) (suc m) n p (omega (arith, ints, h)))

back : (a b : ℤ) (n : ℕ) → (a *ℤ pos n) <ℤ (b *ℤ pos n) → a <ℤ b
back (pos m) (pos k) n h = lt_pos m k (lt_of_mul-lt-mul_right n (of_lt_pos (m * n) (k * n) h))
back (pos m) (negsuc k) n h = absurd (not_pos_neg (m * n) (suc k * n) h)
back (negsuc m) (pos k) n h = omega (arith, ints)
back (negsuc m) (negsuc k) n h = lt_neg (suc m) (suc k) (lt_of_mul-lt-mul_right n (of_lt_neg (suc m * n) (suc k * n) h))

pub zero_of : (n : ℕ) → (n == 0) ≡ true → n ≡ 0
zero_of n h = grind (arith, common_steps)

abs_zero : (z : ℤ) → (unsigned_abs z == 0) ≡ true → z ≡ pos 0
abs_zero (pos n) h = ap (λ (m : ℕ). pos m) (zero_of n h)
abs_zero (negsuc n) h = let z : suc n ≡ 0 = zero_of (suc n) h in absurd (omega arith)

-- what is whole is its quotient, times
whole_is : (s : Scale) (z : ℤ) → is_on_grid s z ≡ true → scaled s z *ℤ pos s.over ≡ z *ℤ pos s.times
unfolding is_on_grid scaled
whole_is s z h =
    let a : ℤ = z *ℤ pos s.times in
    let none : int_rem a (pos s.over) ≡ pos 0 = abs_zero (int_rem a (pos s.over)) h in
    let q : ℤ = int_div a (pos s.over) *ℤ pos s.over in
    (sym (+ℤ_idr q) ∙ ap (λ (r : ℤ). q +ℤ r) (sym none)) ∙ quot-rem a (pos s.over)

-- the corners of what is not empty stay apart
pub scaled_apart : (s : Scale) (a b : ℤ) → 0 < s.times → is_on_grid s a ≡ true → is_on_grid s b ≡ true → a <ℤ b → scaled s a <ℤ scaled s b
scaled_apart s a b p wa wb h =
    let less : (a *ℤ pos s.times) <ℤ (b *ℤ pos s.times) = times a b s.times p h in
    let first : (scaled s a *ℤ pos s.over) <ℤ (b *ℤ pos s.times) = rw (whole_is s a wa) less in
    let both : (scaled s a *ℤ pos s.over) <ℤ (scaled s b *ℤ pos s.over) = rw (whole_is s b wb) first in
    back (scaled s a) (scaled s b) s.over both
