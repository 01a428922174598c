-- Turns. For a direction (d, e) and a way (u, v) from a point of a line in that direction, d v - e u tells on which side of
-- the line the way ends.
use Rattle.std.proofs.Common.{arith, ◌≡◌, ℤ, pos, ◌≤ℤ◌, ◌<ℤ◌, ◌+ℤ◌, ◌-ℤ◌, ◌*ℤ◌, neg_ℤ, sym, ap, ◌∙◌}
use Rattle.std.proofs.lemmas.Int.{ints}
use Rattle.dpl_euler.proofs.ProductLemmas.{mul_comm, add_mul, sub_mul, mul_swap, mul_add, mul_sub, mul_assoc, mul_moved, mul_le, le_from_mul}

-- ---- two lines (Cramer's rule)

pub cramer_x : (sx sy tx ty u v : ℤ) → ((((sx *ℤ ty) -ℤ (sy *ℤ tx)) *ℤ u) +ℤ (((tx *ℤ v) -ℤ (ty *ℤ u)) *ℤ sx)) ≡ (((sx *ℤ v) -ℤ (sy *ℤ u)) *ℤ tx)
cramer_x sx sy tx ty u v = omega (
  arith,
  ints,
  sub_mul (sx *ℤ ty) (sy *ℤ tx) u,
  sub_mul (tx *ℤ v) (ty *ℤ u) sx,
  sub_mul (sx *ℤ v) (sy *ℤ u) tx,
  mul_swap sx ty u,
  mul_swap tx v sx,
  ap (λ z. z *ℤ v) (mul_comm tx sx),
  mul_swap sx tx v,
  mul_swap sy tx u,
  ap (λ z. z *ℤ u) (mul_comm sx ty),
  mul_swap ty u sx,
)

pub cramer_y : (sx sy tx ty u v : ℤ) → ((((sx *ℤ ty) -ℤ (sy *ℤ tx)) *ℤ v) +ℤ (((tx *ℤ v) -ℤ (ty *ℤ u)) *ℤ sy)) ≡ (((sx *ℤ v) -ℤ (sy *ℤ u)) *ℤ ty)
cramer_y sx sy tx ty u v = omega (
  arith,
  ints,
  cramer_x sy sx ty tx v u,
  sub_mul (sx *ℤ ty) (sy *ℤ tx) v,
  sub_mul (sy *ℤ tx) (sx *ℤ ty) v,
  sub_mul (tx *ℤ v) (ty *ℤ u) sy,
  sub_mul (ty *ℤ u) (tx *ℤ v) sy,
  sub_mul (sx *ℤ v) (sy *ℤ u) ty,
  sub_mul (sy *ℤ u) (sx *ℤ v) ty,
)

-- ---- means of two places

-- seen from another place
pub seen_from : (n m o p a b c : ℤ) → ((n +ℤ m) *ℤ p) ≡ (o *ℤ ((n *ℤ a) +ℤ (m *ℤ b)))
    → ((n +ℤ m) *ℤ (p -ℤ (o *ℤ c))) ≡ (o *ℤ ((n *ℤ (a -ℤ c)) +ℤ (m *ℤ (b -ℤ c))))
seen_from n m o p a b c h =
    let inner : ((n *ℤ (a -ℤ c)) +ℤ (m *ℤ (b -ℤ c))) ≡ (((n *ℤ a) +ℤ (m *ℤ b)) -ℤ ((n +ℤ m) *ℤ c)) =
    omega (arith, ints, mul_sub n a c, mul_sub m b c, add_mul n m c) in
    omega (arith, ints, h, mul_sub (n +ℤ m) p (o *ℤ c), ap (λ z. o *ℤ z) inner, mul_sub o ((n *ℤ a) +ℤ (m *ℤ b)) ((n +ℤ m) *ℤ c), mul_moved (n +ℤ m) o c)

-- a mean lies between
pub mean_above : (n m o p a b low : ℤ) → pos 0 ≤ℤ n → pos 0 ≤ℤ m → pos 0 <ℤ (n +ℤ m) → pos 0 <ℤ o
    → ((n +ℤ m) *ℤ p) ≡ (o *ℤ ((n *ℤ a) +ℤ (m *ℤ b))) → low ≤ℤ a → low ≤ℤ b → (o *ℤ low) ≤ℤ p
mean_above n m o p a b low hn hm hw ho h ha hb =
    let inner : ((n +ℤ m) *ℤ low) ≤ℤ ((n *ℤ a) +ℤ (m *ℤ b)) = omega (arith, ints, add_mul n m low, mul_le n low a hn ha, mul_le m low b hm hb) in
    le_from_mul (n +ℤ m) (o *ℤ low) p hw (omega (
      arith,
      ints,
      h,
      mul_moved (n +ℤ m) o low,
      mul_le o ((n +ℤ m) *ℤ low) ((n *ℤ a) +ℤ (m *ℤ b)) (omega (arith, ints, ho)) inner,
    ))

pub mean_below : (n m o p a b high : ℤ) → pos 0 ≤ℤ n → pos 0 ≤ℤ m → pos 0 <ℤ (n +ℤ m) → pos 0 <ℤ o
    → ((n +ℤ m) *ℤ p) ≡ (o *ℤ ((n *ℤ a) +ℤ (m *ℤ b))) → a ≤ℤ high → b ≤ℤ high → p ≤ℤ (o *ℤ high)
mean_below n m o p a b high hn hm hw ho h ha hb =
    let inner : ((n *ℤ a) +ℤ (m *ℤ b)) ≤ℤ ((n +ℤ m) *ℤ high) = omega (arith, ints, add_mul n m high, mul_le n a high hn ha, mul_le m b high hm hb) in
    le_from_mul (n +ℤ m) p (o *ℤ high) hw (omega (
      arith,
      ints,
      h,
      mul_moved (n +ℤ m) o high,
      mul_le o ((n *ℤ a) +ℤ (m *ℤ b)) ((n +ℤ m) *ℤ high) (omega (arith, ints, ho)) inner,
    ))

-- ---- turns of ways

-- to a sum of ways
turn_sum : (d e n m a1 b1 a2 b2 : ℤ)
    → ((d *ℤ ((n *ℤ b1) +ℤ (m *ℤ b2))) -ℤ (e *ℤ ((n *ℤ a1) +ℤ (m *ℤ a2)))) ≡ ((n *ℤ ((d *ℤ b1) -ℤ (e *ℤ a1))) +ℤ (m *ℤ ((d *ℤ b2) -ℤ (e *ℤ a2))))
turn_sum d e n m a1 b1 a2 b2 = omega (
  arith,
  ints,
  mul_add d (n *ℤ b1) (m *ℤ b2),
  mul_add e (n *ℤ a1) (m *ℤ a2),
  mul_sub n (d *ℤ b1) (e *ℤ a1),
  mul_sub m (d *ℤ b2) (e *ℤ a2),
  mul_moved d n b1,
  mul_moved d m b2,
  mul_moved e n a1,
  mul_moved e m a2,
)

-- to a way that was stretched
pub turn_times : (d e k u v : ℤ) → ((d *ℤ (k *ℤ v)) -ℤ (e *ℤ (k *ℤ u))) ≡ (k *ℤ ((d *ℤ v) -ℤ (e *ℤ u)))
turn_times d e k u v = omega (arith, ints, mul_sub k (d *ℤ v) (e *ℤ u), mul_moved d k v, mul_moved e k u)

-- to a mean of two points
pub turn_mean : (d e cx cy n m o px py a1 b1 a2 b2 : ℤ) → ((n +ℤ m) *ℤ px) ≡ (o *ℤ ((n *ℤ a1) +ℤ (m *ℤ a2))) →
    ((n +ℤ m) *ℤ py) ≡ (o *ℤ ((n *ℤ b1) +ℤ (m *ℤ b2))) →
    ((n +ℤ m) *ℤ ((d *ℤ (py -ℤ (o *ℤ cy))) -ℤ (e *ℤ (px -ℤ (o *ℤ cx)))))
    ≡ (o *ℤ ((n *ℤ ((d *ℤ (b1 -ℤ cy)) -ℤ (e *ℤ (a1 -ℤ cx)))) +ℤ (m *ℤ ((d *ℤ (b2 -ℤ cy)) -ℤ (e *ℤ (a2 -ℤ cx))))))
turn_mean d e cx cy n m o px py a1 b1 a2 b2 hx hy =
    sym (turn_times d e (n +ℤ m) (px -ℤ (o *ℤ cx)) (py -ℤ (o *ℤ cy)))
    ∙ ap (λ z. (d *ℤ z) -ℤ (e *ℤ ((n +ℤ m) *ℤ (px -ℤ (o *ℤ cx))))) (seen_from n m o py b1 b2 cy hy)
    ∙ ap (λ z. (d *ℤ (o *ℤ ((n *ℤ (b1 -ℤ cy)) +ℤ (m *ℤ (b2 -ℤ cy))))) -ℤ (e *ℤ z)) (seen_from n m o px a1 a2 cx hx)
    ∙ turn_times d e o ((n *ℤ (a1 -ℤ cx)) +ℤ (m *ℤ (a2 -ℤ cx))) ((n *ℤ (b1 -ℤ cy)) +ℤ (m *ℤ (b2 -ℤ cy)))
    ∙ ap (λ z. o *ℤ z) (turn_sum d e n m (a1 -ℤ cx) (b1 -ℤ cy) (a2 -ℤ cx) (b2 -ℤ cy))

-- no mean of positive numbers is 0
pub mean_not_zero : (n m a b : ℤ) → pos 0 ≤ℤ n → pos 0 ≤ℤ m → pos 0 <ℤ (n +ℤ m) → pos 0 <ℤ a → pos 0 <ℤ b → ((n *ℤ a) +ℤ (m *ℤ b)) ≡ pos 0 → ⊥
mean_not_zero n m a b hn hm hw ha hb h = omega (
  arith,
  ints,
  h,
  hw,
  mul_le n (pos 1) a hn (omega (arith, ints, ha)),
  mul_le m (pos 1) b hm (omega (arith, ints, hb)),
)

pub mean_not_zero_below : (n m a b : ℤ) → pos 0 ≤ℤ n → pos 0 ≤ℤ m → pos 0 <ℤ (n +ℤ m) → a <ℤ pos 0 → b <ℤ pos 0 → ((n *ℤ a) +ℤ (m *ℤ b)) ≡ pos 0 → ⊥
mean_not_zero_below n m a b hn hm hw ha hb h = omega (
  arith,
  ints,
  h,
  hw,
  mul_le n a (neg_ℤ (pos 1)) hn (omega (arith, ints, ha)),
  mul_le m b (neg_ℤ (pos 1)) hm (omega (arith, ints, hb)),
)

-- ---- a place on a line, as the mean of the line's two points

-- along the axis by which the weights are taken
pub mean_along : (o p a b : ℤ) → ((((o *ℤ b) -ℤ p) +ℤ (p -ℤ (o *ℤ a))) *ℤ p) ≡ (o *ℤ ((((o *ℤ b) -ℤ p) *ℤ a) +ℤ ((p -ℤ (o *ℤ a)) *ℤ b)))
mean_along o p a b =
    let inner : ((((o *ℤ b) -ℤ p) *ℤ a) +ℤ ((p -ℤ (o *ℤ a)) *ℤ b)) ≡ (p *ℤ (b -ℤ a)) =
    omega (arith, ints, sub_mul (o *ℤ b) p a, sub_mul p (o *ℤ a) b, mul_swap o b a, mul_sub p b a) in
    let whole : (((o *ℤ b) -ℤ p) +ℤ (p -ℤ (o *ℤ a))) ≡ (o *ℤ (b -ℤ a)) = omega (arith, ints, mul_sub o b a) in
    ap (λ z. z *ℤ p) whole ∙ mul_swap o (b -ℤ a) p ∙ mul_assoc o p (b -ℤ a) ∙ ap (λ z. o *ℤ z) (sym inner)

-- along the other
pub mean_across : (o px py a1 b1 a2 b2 : ℤ)
    → (((a2 -ℤ a1) *ℤ (py -ℤ (o *ℤ b1))) -ℤ ((b2 -ℤ b1) *ℤ (px -ℤ (o *ℤ a1)))) ≡ pos 0
    → ((((o *ℤ a2) -ℤ px) +ℤ (px -ℤ (o *ℤ a1))) *ℤ py) ≡ (o *ℤ ((((o *ℤ a2) -ℤ px) *ℤ b1) +ℤ ((px -ℤ (o *ℤ a1)) *ℤ b2)))
mean_across o px py a1 b1 a2 b2 h =
    let d : ℤ = a2 -ℤ a1 in
    let f : ℤ = px -ℤ (o *ℤ a1) in
    let n : ℤ = (o *ℤ a2) -ℤ px in
    let whole : (n +ℤ f) ≡ (o *ℤ d) = omega (arith, ints, mul_sub o a2 a1) in
    let inner : ((n *ℤ b1) +ℤ (f *ℤ b2)) ≡ (((o *ℤ d) *ℤ b1) +ℤ (f *ℤ (b2 -ℤ b1))) = across n f b1 b2 ∙ ap (λ z. (z *ℤ b1) +ℤ (f *ℤ (b2 -ℤ b1))) whole in
    let up : (d *ℤ py) ≡ (((o *ℤ d) *ℤ b1) +ℤ (f *ℤ (b2 -ℤ b1))) = rise d (b2 -ℤ b1) f o py b1 h in
    ap (λ z. z *ℤ py) whole ∙ mul_assoc o d py ∙ ap (λ z. o *ℤ z) (up ∙ sym inner)
  where
    across : (n f b1 b2 : ℤ) → ((n *ℤ b1) +ℤ (f *ℤ b2)) ≡ (((n +ℤ f) *ℤ b1) +ℤ (f *ℤ (b2 -ℤ b1)))
    across n f b1 b2 = omega (arith, ints, add_mul n f b1, mul_sub f b2 b1)

    rise : (d e f o y b : ℤ) → ((d *ℤ (y -ℤ (o *ℤ b))) -ℤ (e *ℤ f)) ≡ pos 0 → (d *ℤ y) ≡ (((o *ℤ d) *ℤ b) +ℤ (f *ℤ e))
    rise d e f o y b h = omega (arith, ints, h, mul_sub d y (o *ℤ b), mul_moved d o b, mul_assoc o d b, mul_comm e f)
