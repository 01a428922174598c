-- Fractions by cross products. A fraction with denominator 0 is the greatest.
use Rattle.std.proofs.Common.{arith, ◌≡◌, ℕ, ◌+◌, ◌*◌, ◌<◌, ◌≤◌, ap, inl, inr}
use Rattle.std.proofs.Math.Nat.{mul-lt-mul_of_pos_right, mul-le-mul_right, lt_of_mul-lt-mul_right, mul-pos, eq_of_mul-eq-mul_left}
use Rattle.std.proofs.lemmas.Bool.{cases_lt}

factor_left : (a b : ℕ) → 0 < a * b → 0 < a
factor_left a b h = grind arith

factor_right : (a b : ℕ) → 0 < a * b → 0 < b
factor_right a b h = grind arith

-- a fraction less than one that is less than a third is less than the third
pub cross_trans : (a1 a2 b1 b2 c1 c2 : ℕ) → a1 * b2 < b1 * a2 → b1 * c2 < c1 * b2 → a1 * c2 < c1 * a2
cross_trans a1 a2 b1 b2 c1 c2 h k =
    let pa : 0 < a2 = factor_right b1 a2 (omega arith) in
    let pb : 0 < b2 = factor_right c1 b2 (omega arith) in
    let one : a1 * b2 * c2 ≤ b1 * a2 * c2 = mul-le-mul_right c2 (omega arith) in
    let two : b1 * c2 * a2 < c1 * b2 * a2 = mul-lt-mul_of_pos_right k pa in
    lt_of_mul-lt-mul_right b2 (omega arith)

-- a slope that is the same as another is so in each comparison; at b1 = b2 = 0 this fails
pub cross_same_trans : (a1 a2 b1 b2 c1 c2 : ℕ) → 0 < b1 + b2 → a1 * b2 ≡ b1 * a2 → b1 * c2 ≡ c1 * b2 → a1 * c2 ≡ c1 * a2
cross_same_trans a1 a2 b1 b2 c1 c2 pb h k = elim (cases_lt 0 b2) [
  | inl p ↦
      let one : a1 * b2 * c2 ≡ b1 * a2 * c2 = ap (λ x. x * c2) h in
      let two : b1 * c2 * a2 ≡ c1 * b2 * a2 = ap (λ x. x * a2) k in
      eq_of_mul-eq-mul_left b2 p _ _ (omega arith)
  | inr z ↦
      let b0 : b2 ≡ 0 = omega arith in
      let q : 0 < b1 = omega arith in
      let a0 : a2 ≡ 0 = eq_of_mul-eq-mul_left b1 q a2 0 (omega (arith, h, ap (λ x. a1 * x) b0)) in
      let c0 : c2 ≡ 0 = eq_of_mul-eq-mul_left b1 q c2 0 (omega (arith, k, ap (λ x. c1 * x) b0)) in
      omega (arith, ap (λ x. a1 * x) c0, ap (λ x. c1 * x) a0)
]

-- and where one is less
pub cross_lt_same : (a1 a2 b1 b2 c1 c2 : ℕ) → 0 < c1 + c2 → a1 * b2 < b1 * a2 → b1 * c2 ≡ c1 * b2 → a1 * c2 < c1 * a2
cross_lt_same a1 a2 b1 b2 c1 c2 pc h k = elim (cases_lt 0 b2) [
  | inl p ↦ elim (cases_lt 0 c2) [
    | inl q ↦
        let one : a1 * b2 * c2 < b1 * a2 * c2 = mul-lt-mul_of_pos_right h q in
        let two : b1 * c2 * a2 ≡ c1 * b2 * a2 = ap (λ x. x * a2) k in
        lt_of_mul-lt-mul_right b2 (omega arith)
    | inr z ↦
        let c0 : c2 ≡ 0 = omega arith in
        let c1b : c1 * b2 ≡ 0 = omega (arith, k, ap (λ x. b1 * x) c0) in
        absurd (omega (arith, mul-pos {m = c1} {n = b2} (omega arith) p, c1b))
  ]
  | inr z ↦
      let b0 : b2 ≡ 0 = omega arith in
      let p1 : 0 < b1 * a2 = omega arith in
      let pa : 0 < a2 = factor_right b1 a2 p1 in
      let b1p : 0 < b1 = factor_left b1 a2 p1 in
      let c0 : c2 ≡ 0 = eq_of_mul-eq-mul_left b1 b1p c2 0 (omega (arith, k, ap (λ x. c1 * x) b0)) in
      omega (arith, ap (λ x. a1 * x) c0, mul-pos {m = c1} {n = a2} (omega arith) pa)
]
