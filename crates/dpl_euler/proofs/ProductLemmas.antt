-- The laws of the ring of integers, for sums of products.
use Rattle.std.proofs.Common.{arith, ◌≡◌, ◌≢◌, ℕ, ◌+◌, ◌*◌, ℤ, pos, ◌≤ℤ◌, ◌<ℤ◌, ◌+ℤ◌, ◌-ℤ◌, ◌*ℤ◌, ap, ◌∙◌}
use Rattle.std.proofs.lemmas.Int.{ints, by_lt_z}
use borrow.Author.Differences.{up, down, product_is}

pub mul_comm : (a b : ℤ) → (a *ℤ b) ≡ (b *ℤ a)
mul_comm a b = omega (arith, ints)

pub add_mul : (a b c : ℤ) → ((a +ℤ b) *ℤ c) ≡ ((a *ℤ c) +ℤ (b *ℤ c))
add_mul a b c =
    let e : up (a +ℤ b) + down a + down b ≡ down (a +ℤ b) + up a + up b = omega (arith, ints) in
    omega (arith, ints, ap (λ z. z * up c) e, ap (λ z. z * down c) e)

pub sub_mul : (a b c : ℤ) → ((a -ℤ b) *ℤ c) ≡ ((a *ℤ c) -ℤ (b *ℤ c))
sub_mul a b c =
    let e : up (a -ℤ b) + down a + up b ≡ down (a -ℤ b) + up a + down b = omega (arith, ints) in
    omega (arith, ints, ap (λ z. z * up c) e, ap (λ z. z * down c) e)

pub mul_sub : (a b c : ℤ) → (a *ℤ (b -ℤ c)) ≡ ((a *ℤ b) -ℤ (a *ℤ c))
mul_sub a b c = omega (arith, ints, mul_comm a (b -ℤ c), sub_mul b c a, mul_comm b a, mul_comm c a)

pub mul_add : (a b c : ℤ) → (a *ℤ (b +ℤ c)) ≡ ((a *ℤ b) +ℤ (a *ℤ c))
mul_add a b c = omega (arith, ints, mul_comm a (b +ℤ c), add_mul b c a, mul_comm b a, mul_comm c a)

pub mul_swap : (a b c : ℤ) → ((a *ℤ b) *ℤ c) ≡ ((a *ℤ c) *ℤ b)
mul_swap a b c =
    let ab = product_is a b in
    let ac = product_is a c in
    let by = λ (k : ℕ) (m n : ℕ) (e : m ≡ n). ap (λ z. z * k) e in
    omega (
      arith,
      ints,
      by (up c) _ _ ab.0,
      by (down c) _ _ ab.0,
      by (up c) _ _ ab.1,
      by (down c) _ _ ab.1,
      by (up b) _ _ ac.0,
      by (down b) _ _ ac.0,
      by (up b) _ _ ac.1,
      by (down b) _ _ ac.1,
    )

pub mul_assoc : (a b c : ℤ) → ((a *ℤ b) *ℤ c) ≡ (a *ℤ (b *ℤ c))
mul_assoc a b c = ap (λ z. z *ℤ c) (mul_comm a b) ∙ mul_swap b a c ∙ mul_comm (b *ℤ c) a

pub mul_moved : (a b c : ℤ) → (a *ℤ (b *ℤ c)) ≡ (b *ℤ (a *ℤ c))
mul_moved a b c = mul_comm a (b *ℤ c) ∙ mul_assoc b c a ∙ ap (λ z. b *ℤ z) (mul_comm c a)

-- ---- signs

pub mul_nonneg : (a b : ℤ) → pos 0 ≤ℤ a → pos 0 ≤ℤ b → pos 0 ≤ℤ (a *ℤ b)
mul_nonneg a b h k = grind (arith, ints)

pub mul_le : (a b c : ℤ) → pos 0 ≤ℤ a → b ≤ℤ c → (a *ℤ b) ≤ℤ (a *ℤ c)
mul_le a b c h k = omega (arith, ints, mul_nonneg a (c -ℤ b) h (omega (arith, ints)), mul_sub a c b)

pub mul_le_down : (a b c : ℤ) → a ≤ℤ pos 0 → b ≤ℤ c → (a *ℤ c) ≤ℤ (a *ℤ b)
mul_le_down a b c h k = omega (
  arith,
  ints,
  mul_nonneg (pos 0 -ℤ a) (c -ℤ b) (omega (arith, ints))
      (omega (arith, ints)),
  mul_sub (pos 0 -ℤ a) c b,
  sub_mul (pos 0) a c,
  sub_mul (pos 0) a b,
)

pub mul_pos : (a b : ℤ) → pos 0 <ℤ a → pos 0 <ℤ b → pos 0 <ℤ (a *ℤ b)
mul_pos a b h k = omega (arith, ints, mul_le a (pos 1) b (omega (arith, ints)) (omega (arith, ints)))

-- ---- what was multiplied by a positive number

pub le_from_mul : (a b c : ℤ) → pos 0 <ℤ a → (a *ℤ b) ≤ℤ (a *ℤ c) → b ≤ℤ c
le_from_mul a b c h k = by_lt_z c b (λ l. absurd (omega
    (arith, ints, l, k, h, mul_le a (c +ℤ pos 1) b (omega (arith, ints)) (omega (arith, ints)), mul_add a c (pos 1))))
    (λ l. l)

pub same_from_mul : (a b c : ℤ) → pos 0 <ℤ a → (a *ℤ b) ≡ (a *ℤ c) → b ≡ c
same_from_mul a b c h k = omega (arith, ints, le_from_mul a b c h (omega (arith, ints, k)), le_from_mul a c b h (omega (arith, ints, k)))

pub zero_from_mul : (a b : ℤ) → a ≢ pos 0 → (a *ℤ b) ≡ pos 0 → b ≡ pos 0
zero_from_mul a b n h = by_lt_z a (pos 0)
    (λ l. same_from_mul (pos 0 -ℤ a) b (pos 0) (omega (arith, ints, l)) (omega (arith, ints, sub_mul (pos 0) a b, h)))
    (λ l. same_from_mul a b (pos 0) (omega (arith, ints, l, n)) (omega (arith, ints, h)))
