-- Which points of the plane a segment has: those on its line and within its bounds.
use Rattle.std.proofs.Common.{arith, ◌≡◌, ◌≢◌, ℕ, ◌+◌, ◌<◌, ℤ, pos, ◌≤ℤ◌, ◌<ℤ◌, ◌+ℤ◌, ◌-ℤ◌, ◌*ℤ◌, sym, ap, ◌∙◌, unsigned_abs, inl, inr, true}
use Rattle.std.proofs.lemmas.Bool.{false_from_ne_true, or_parts, or_from, true≢false, not-true, not_from_false}
use Rattle.std.specs.Int.{int_max, int_min}
use Rattle.std.proofs.lemmas.Int.{ints, clamps, by_lt_z}
use Rattle.dpl_euler.specs.Points.{Ends, Point, IsOn}
use Rattle.dpl_euler.specs.Segments.{is_left, is_right, is_on}
use Rattle.dpl_list.proofs.Integers.{less_test, is_less, same_or_not}
use Rattle.dpl_euler.proofs.ProductLemmas.{mul_comm, sub_mul, mul_sub, mul_moved, mul_pos, zero_from_mul}
use Rattle.dpl_euler.proofs.TurnLemmas.{cramer_x, cramer_y, mean_above, mean_below, turn_mean, mean_not_zero, mean_not_zero_below, mean_along, mean_across}

-- ---- the turn from a segment to a point

-- positive where the point lies left of the line, 0 where it lies on it; `over` times as large
pub turn : Ends → ℤ → ℤ → ℤ → ℤ
turn s o x y = ((s.x2 -ℤ s.x1) *ℤ (y -ℤ (o *ℤ s.y1))) -ℤ ((s.y2 -ℤ s.y1) *ℤ (x -ℤ (o *ℤ s.x1)))

pub turn_at : Ends → Point → ℤ
turn_at s p = turn s (pos p.over) p.x p.y

pub turn_to : Ends → ℤ → ℤ → ℤ
turn_to s x y = ((s.x2 -ℤ s.x1) *ℤ (y -ℤ s.y1)) -ℤ ((s.y2 -ℤ s.y1) *ℤ (x -ℤ s.x1))

-- the turn from one direction to the other
pub turn_of : Ends → Ends → ℤ
turn_of s t = ((s.x2 -ℤ s.x1) *ℤ (t.y2 -ℤ t.y1)) -ℤ ((s.y2 -ℤ s.y1) *ℤ (t.x2 -ℤ t.x1))

pub over_positive : (p : Point) → pos 0 <ℤ pos p.over
over_positive p = omega (arith, ints, p.some)

-- its own ends lie on its line
pub turn_first : (s : Ends) → turn_to s s.x1 s.y1 ≡ pos 0
unfolding turn_to
turn_first s = self (s.x2 -ℤ s.x1) (s.y2 -ℤ s.y1) s.x1 s.y1
  where
    self : (d e x y : ℤ) → ((d *ℤ (y -ℤ y)) -ℤ (e *ℤ (x -ℤ x))) ≡ pos 0
    self d e x y = omega (arith, ints, mul_sub d y y, mul_sub e x x)

pub turn_second : (s : Ends) → turn_to s s.x2 s.y2 ≡ pos 0
unfolding turn_to
turn_second s = omega (arith, ints, mul_comm (s.x2 -ℤ s.x1) (s.y2 -ℤ s.y1))

-- how the turns to the two ends of another segment differ
pub turn_step : (s t : Ends) → turn_to s t.x2 t.y2 ≡ (turn_to s t.x1 t.y1 +ℤ turn_of s t)
unfolding turn_to turn_of
turn_step s t = step (s.x2 -ℤ s.x1) (s.y2 -ℤ s.y1) t.x1 t.y1 t.x2 t.y2 s.x1 s.y1
  where
    step : (d e x1 y1 x2 y2 a b : ℤ) → ((d *ℤ (y2 -ℤ b)) -ℤ (e *ℤ (x2 -ℤ a)))
        ≡ (((d *ℤ (y1 -ℤ b)) -ℤ (e *ℤ (x1 -ℤ a))) +ℤ ((d *ℤ (y2 -ℤ y1)) -ℤ (e *ℤ (x2 -ℤ x1))))
    step d e x1 y1 x2 y2 a b = omega (arith, ints, mul_sub d y2 b, mul_sub e x2 a, mul_sub d y1 b, mul_sub e x1 a, mul_sub d y2 y1, mul_sub e x2 x1)

pub turn_other : (s t : Ends) → turn_of t s ≡ (pos 0 -ℤ turn_of s t)
unfolding turn_of
turn_other s t = other (s.x2 -ℤ s.x1) (s.y2 -ℤ s.y1) (t.x2 -ℤ t.x1) (t.y2 -ℤ t.y1)
  where
    other : (a b c d : ℤ) → ((c *ℤ b) -ℤ (d *ℤ a)) ≡ (pos 0 -ℤ ((a *ℤ d) -ℤ (b *ℤ c)))
    other a b c d = omega (arith, ints, mul_comm c b, mul_comm d a)

-- ---- what holds for a point of a segment

weights : (n m : ℕ) → pos (n + m) ≡ (pos n +ℤ pos m)
weights n m = omega (arith, ints)

weighed : (n m : ℕ) (z w : ℤ) → (pos (n + m) *ℤ z) ≡ w → ((pos n +ℤ pos m) *ℤ z) ≡ w
weighed n m z w h = ap (λ k. k *ℤ z) (sym (weights n m)) ∙ h

-- the turn to it, by those to the ends
pub turn_on : (s t : Ends) (p : Point) (i : IsOn t p)
    → ((pos i.first +ℤ pos i.second) *ℤ turn_at s p) ≡ (pos p.over *ℤ ((pos i.first *ℤ turn_to s t.x1 t.y1) +ℤ (pos i.second *ℤ turn_to s t.x2 t.y2)))
unfolding turn_at turn turn_to
turn_on s t p i = turn_mean (s.x2 -ℤ s.x1) (s.y2 -ℤ s.y1) s.x1 s.y1 (pos i.first) (pos i.second) (pos p.over) p.x p.y
    t.x1 t.y1 t.x2 t.y2 (weighed i.first i.second p.x _ i.x) (weighed i.first i.second p.y _ i.y)

some_weight : (n m : ℕ) → 0 < n + m → pos 0 <ℤ (pos n +ℤ pos m)
some_weight n m h = omega (arith, ints)

pub turn_zero : (s t : Ends) (p : Point) → IsOn t p → turn_to s t.x1 t.y1 ≡ pos 0 → turn_to s t.x2 t.y2 ≡ pos 0 → turn_at s p ≡ pos 0
turn_zero s t p i f g =
    let sum : ((pos i.first *ℤ turn_to s t.x1 t.y1) +ℤ (pos i.second *ℤ turn_to s t.x2 t.y2)) ≡ pos 0 =
    omega (arith, ints, ap (λ z. pos i.first *ℤ z) f, ap (λ z. pos i.second *ℤ z) g) in
    zero_from_mul (pos i.first +ℤ pos i.second) (turn_at s p) (omega (arith, ints, some_weight i.first i.second i.some))
    (omega (arith, ints, turn_on s t p i, ap (λ z. pos p.over *ℤ z) sum))

-- it lies on the line
pub on_line : (s : Ends) (p : Point) → IsOn s p → turn_at s p ≡ pos 0
on_line s p i = turn_zero s s p i (turn_first s) (turn_second s)

-- the mean of the turns to the ends of a segment with a point on the line is 0
pub turns_balance : (s t : Ends) (p : Point) (i : IsOn t p) → turn_at s p ≡ pos 0
    → ((pos i.first *ℤ turn_to s t.x1 t.y1) +ℤ (pos i.second *ℤ turn_to s t.x2 t.y2)) ≡ pos 0
turns_balance s t p i h = zero_from_mul (pos p.over) ((pos i.first *ℤ turn_to s t.x1 t.y1)
    +ℤ (pos i.second *ℤ turn_to s t.x2 t.y2)) (omega (arith, ints, over_positive p))
    (omega (arith, ints, turn_on s t p i, ap (λ z. (pos i.first +ℤ pos i.second) *ℤ z) h))

pub not_left : (s t : Ends) (p : Point) → IsOn t p → turn_at s p ≡ pos 0 → pos 0 <ℤ turn_to s t.x1 t.y1 → pos 0 <ℤ turn_to s t.x2 t.y2 → ⊥
not_left s t p i h f g = mean_not_zero (pos i.first) (pos i.second) _ _ (omega (arith, ints)) (omega (arith, ints))
    (some_weight i.first i.second i.some) f g (turns_balance s t p i h)

pub not_right : (s t : Ends) (p : Point) → IsOn t p → turn_at s p ≡ pos 0 → turn_to s t.x1 t.y1 <ℤ pos 0 → turn_to s t.x2 t.y2 <ℤ pos 0 → ⊥
not_right s t p i h f g = mean_not_zero_below (pos i.first) (pos i.second) _ _ (omega (arith, ints))
    (omega (arith, ints)) (some_weight i.first i.second i.some) f g (turns_balance s t p i h)

-- it lies within the bounds
pub record IsWithin (s : Ends) (p : Point) : Type 0 where
  pub left : (pos p.over *ℤ int_min s.x1 s.x2) ≤ℤ p.x
  pub right : p.x ≤ℤ (pos p.over *ℤ int_max s.x1 s.x2)
  pub low : (pos p.over *ℤ int_min s.y1 s.y2) ≤ℤ p.y
  pub high : p.y ≤ℤ (pos p.over *ℤ int_max s.y1 s.y2)

pub within_bounds : (s : Ends) (p : Point) → IsOn s p → IsWithin s p
within_bounds s p i =
    let w = some_weight i.first i.second i.some in
    let o = over_positive p in
    let x = weighed i.first i.second p.x _ i.x in
    let y = weighed i.first i.second p.y _ i.y in
    record {
      left = mean_above (pos i.first) (pos i.second) (pos p.over) p.x s.x1 s.x2 (int_min s.x1 s.x2)
          (omega (arith, ints)) (omega (arith, ints)) w o x (min_first s.x1 s.x2) (min_second s.x1 s.x2);
      right = mean_below (pos i.first) (pos i.second) (pos p.over) p.x s.x1 s.x2 (int_max s.x1 s.x2)
          (omega (arith, ints)) (omega (arith, ints)) w o x (max_first s.x1 s.x2) (max_second s.x1 s.x2);
      low = mean_above (pos i.first) (pos i.second) (pos p.over) p.y s.y1 s.y2 (int_min s.y1 s.y2) (omega (arith, ints))
          (omega (arith, ints)) w o y (min_first s.y1 s.y2) (min_second s.y1 s.y2);
      high = mean_below (pos i.first) (pos i.second) (pos p.over) p.y s.y1 s.y2 (int_max s.y1 s.y2)
          (omega (arith, ints)) (omega (arith, ints)) w o y (max_first s.y1 s.y2) (max_second s.y1 s.y2);
    }
  where
    min_first : (a b : ℤ) → int_min a b ≤ℤ a
    min_first a b = omega (arith, ints, clamps)

    min_second : (a b : ℤ) → int_min a b ≤ℤ b
    min_second a b = omega (arith, ints, clamps)

    max_first : (a b : ℤ) → a ≤ℤ int_max a b
    max_first a b = omega (arith, ints, clamps)

    max_second : (a b : ℤ) → b ≤ℤ int_max a b
    max_second a b = omega (arith, ints, clamps)

-- ---- a point of the line within the bounds is a point of the segment

pub abs_is : (z : ℤ) → pos 0 ≤ℤ z → pos (unsigned_abs z) ≡ z
abs_is z h = omega (arith, ints)

-- a point from weights that are not negative
pub weighed_on : (s : Ends) (p : Point) (n m : ℤ) → pos 0 ≤ℤ n → pos 0 ≤ℤ m → pos 0 <ℤ (n +ℤ m)
    → ((n +ℤ m) *ℤ p.x) ≡ (pos p.over *ℤ ((n *ℤ s.x1) +ℤ (m *ℤ s.x2)))
    → ((n +ℤ m) *ℤ p.y) ≡ (pos p.over *ℤ ((n *ℤ s.y1) +ℤ (m *ℤ s.y2))) → IsOn s p
weighed_on s p n m hn hm hw hx hy =
    let en = abs_is n hn in
    let em = abs_is m hm in
    let whole : pos (unsigned_abs n + unsigned_abs m) ≡ (n +ℤ m) = weights (unsigned_abs n) (unsigned_abs m) ∙
    ap (λ z. z +ℤ pos (unsigned_abs m)) en ∙ ap (λ z. n +ℤ z) em in
    let sum : (a b : ℤ) → ((n *ℤ a) +ℤ (m *ℤ b)) ≡ ((pos (unsigned_abs n) *ℤ a) +ℤ (pos (unsigned_abs m) *ℤ b)) =
    λ a b. sym (ap (λ z. (z *ℤ a) +ℤ (pos (unsigned_abs m) *ℤ b)) en ∙ ap (λ z. (n *ℤ a) +ℤ (z *ℤ b)) em) in
    record {
      first = unsigned_abs n;
      second = unsigned_abs m;
      some = omega (arith, ints, hw, whole);
      x = ap (λ z. z *ℤ p.x) whole ∙ hx ∙ ap (λ z. pos p.over *ℤ z) (sum s.x1 s.x2);
      y = ap (λ z. z *ℤ p.y) whole ∙ hy ∙ ap (λ z. pos p.over *ℤ z) (sum s.y1 s.y2);
    }

on_line_up : (s : Ends) (p : Point) → s.x1 <ℤ s.x2 → turn_at s p ≡ pos 0 → (pos p.over *ℤ s.x1) ≤ℤ p.x → p.x ≤ℤ (pos p.over *ℤ s.x2) → IsOn s p
unfolding turn_at turn
on_line_up s p less zero low high =
    weighed_on s p ((pos p.over *ℤ s.x2) -ℤ p.x) (p.x -ℤ (pos p.over *ℤ s.x1)) (omega (arith, ints, high)) (omega (arith, ints, low))
    (omega (arith, ints, mul_pos (pos p.over) (s.x2 -ℤ s.x1) (over_positive p) (omega (arith, ints, less)), mul_sub (pos p.over) s.x2 s.x1))
    (mean_along (pos p.over) p.x s.x1 s.x2)
    (mean_across (pos p.over) p.x p.y s.x1 s.y1 s.x2 s.y2 zero)

-- the segment from its second end to its first
abbrev pub back : Ends → Ends
back s = record { x1 = s.x2; y1 = s.y2; x2 = s.x1; y2 = s.y1 }

pub on_back : (s : Ends) (p : Point) → IsOn (back s) p → IsOn s p
on_back s p i = record {
  first = i.second;
  second = i.first;
  some = omega (arith, i.some);
  x = ap (λ (k : ℕ). pos k *ℤ p.x) (omega arith) ∙ i.x ∙ ap (λ z. pos p.over *ℤ z) (turned (pos i.first *ℤ s.x2) (pos i.second *ℤ s.x1));
  y = ap (λ (k : ℕ). pos k *ℤ p.y) (omega arith) ∙ i.y ∙ ap (λ z. pos p.over *ℤ z) (turned (pos i.first *ℤ s.y2) (pos i.second *ℤ s.y1));
}
  where
    turned : (a b : ℤ) → (a +ℤ b) ≡ (b +ℤ a)
    turned a b = omega (arith, ints)

pub turn_back : (s : Ends) (o x y : ℤ) → turn (back s) o x y ≡ (pos 0 -ℤ turn s o x y)
unfolding turn
turn_back s o x y = reversed s.x1 s.x2 s.y1 s.y2 (y -ℤ (o *ℤ s.y2)) (x -ℤ (o *ℤ s.x2)) ∙
    ap (λ z. pos 0 -ℤ z) (moved (s.x2 -ℤ s.x1) (s.y2 -ℤ s.y1) s.x1 s.y1 s.x2 s.y2 o x y
    (mul_comm (s.x2 -ℤ s.x1) (s.y2 -ℤ s.y1)))
  where
    reversed : (a b c d u v : ℤ) → (((a -ℤ b) *ℤ u) -ℤ ((c -ℤ d) *ℤ v)) ≡ (pos 0 -ℤ (((b -ℤ a) *ℤ u) -ℤ ((d -ℤ c) *ℤ v)))
    reversed a b c d u v = omega (arith, ints, sub_mul a b u, sub_mul b a u, sub_mul c d v, sub_mul d c v)

    nearer : (d y o y1 y2 : ℤ) → (d *ℤ (y -ℤ (o *ℤ y2))) ≡ ((d *ℤ (y -ℤ (o *ℤ y1))) -ℤ (o *ℤ (d *ℤ (y2 -ℤ y1))))
    nearer d y o y1 y2 = omega (
      arith,
      ints,
      mul_sub d y (o *ℤ y2),
      mul_sub d y (o *ℤ y1),
      mul_moved d o y2,
      mul_moved d o y1,
      mul_sub o (d *ℤ y2) (d *ℤ y1),
      ap (λ z. o *ℤ z) (mul_sub d y2 y1),
    )

    moved : (d e x1 y1 x2 y2 o x y : ℤ) → (d *ℤ (y2 -ℤ y1)) ≡ (e *ℤ (x2 -ℤ x1)) →
        ((d *ℤ (y -ℤ (o *ℤ y2))) -ℤ (e *ℤ (x -ℤ (o *ℤ x2)))) ≡ ((d *ℤ (y -ℤ (o *ℤ y1))) -ℤ (e *ℤ (x -ℤ (o *ℤ x1))))
    moved d e x1 y1 x2 y2 o x y h = omega (arith, ints, nearer d y o y1 y2, nearer e x o x1 x2, ap (λ z. o *ℤ z) h)

pub on_line_x : (s : Ends) (p : Point) → s.x1 ≢ s.x2 → turn_at s p ≡ pos 0
    → (pos p.over *ℤ int_min s.x1 s.x2) ≤ℤ p.x → p.x ≤ℤ (pos p.over *ℤ int_max s.x1 s.x2) → IsOn s p
unfolding turn_at
on_line_x s p apart zero low high = by_lt_z s.x1 s.x2
    (λ l. on_line_up s p l zero (lower (pos p.over) p.x s.x1 s.x2 l low) (upper (pos p.over) p.x s.x1 s.x2 l high))
    (λ l. let m : s.x2 <ℤ s.x1 = omega (arith, ints, l, apart) in
    on_back s p (on_line_up (back s) p m (turn_back s (pos p.over) p.x p.y ∙ omega (arith, ints, zero))
    (lower_back (pos p.over) p.x s.x1 s.x2 m low) (upper_back (pos p.over) p.x s.x1 s.x2 m high)))
  where
    least : (a b : ℤ) → a <ℤ b → (int_min a b ≡ a) × (int_max a b ≡ b)
    least a b l = (omega (arith, ints, clamps, l), omega (arith, ints, clamps, l))

    least_back : (a b : ℤ) → b <ℤ a → (int_min a b ≡ b) × (int_max a b ≡ a)
    least_back a b l = (omega (arith, ints, clamps, l), omega (arith, ints, clamps, l))

    lower : (o p a b : ℤ) → a <ℤ b → (o *ℤ int_min a b) ≤ℤ p → (o *ℤ a) ≤ℤ p
    lower o p a b l h = rw (← (least a b l).0) h

    upper : (o p a b : ℤ) → a <ℤ b → p ≤ℤ (o *ℤ int_max a b) → p ≤ℤ (o *ℤ b)
    upper o p a b l h = rw (← (least a b l).1) h

    lower_back : (o p a b : ℤ) → b <ℤ a → (o *ℤ int_min a b) ≤ℤ p → (o *ℤ b) ≤ℤ p
    lower_back o p a b l h = omega (arith, ints, h, ap (λ z. o *ℤ z) (least_back a b l).0)

    upper_back : (o p a b : ℤ) → b <ℤ a → p ≤ℤ (o *ℤ int_max a b) → p ≤ℤ (o *ℤ a)
    upper_back o p a b l h = omega (arith, ints, h, ap (λ z. o *ℤ z) (least_back a b l).1)

-- columns and rows exchanged
abbrev pub flip : Ends → Ends
flip s = record { x1 = s.y1; y1 = s.x1; x2 = s.y2; y2 = s.x2 }

abbrev pub flip_point : Point → Point
flip_point p = record { over = p.over; some = p.some; x = p.y; y = p.x }

pub on_flip : (s : Ends) (p : Point) → IsOn (flip s) (flip_point p) → IsOn s p
on_flip s p i = record { first = i.first; second = i.second; some = i.some; x = i.y; y = i.x }

pub turn_flip : (s : Ends) (o x y : ℤ) → turn (flip s) o y x ≡ (pos 0 -ℤ turn s o x y)
unfolding turn
turn_flip s o x y = flipped ((s.y2 -ℤ s.y1) *ℤ (x -ℤ (o *ℤ s.x1))) ((s.x2 -ℤ s.x1) *ℤ (y -ℤ (o *ℤ s.y1)))
  where
    flipped : (a b : ℤ) → (a -ℤ b) ≡ (pos 0 -ℤ (b -ℤ a))
    flipped a b = omega (arith, ints)

pub on_line_y : (s : Ends) (p : Point) → s.y1 ≢ s.y2 → turn_at s p ≡ pos 0
    → (pos p.over *ℤ int_min s.y1 s.y2) ≤ℤ p.y → p.y ≤ℤ (pos p.over *ℤ int_max s.y1 s.y2) → IsOn s p
unfolding turn_at
on_line_y s p apart zero low high = on_flip s p (on_line_x (flip s) (flip_point p) apart
    (turn_flip s (pos p.over) p.x p.y ∙ omega (arith, ints, zero)) low high)

pub on_dot : (s : Ends) (p : Point) → s.x1 ≡ s.x2 → s.y1 ≡ s.y2 → IsWithin s p → IsOn s p
on_dot s p ex ey w = record {
  first = 1;
  second = 0;
  some = omega arith;
  x = dot (pos p.over) p.x s.x1 s.x2 ex w.left w.right;
  y = dot (pos p.over) p.y s.y1 s.y2 ey w.low w.high;
}
  where
    dot : (o p a b : ℤ) → a ≡ b → (o *ℤ int_min a b) ≤ℤ p → p ≤ℤ (o *ℤ int_max a b) → (pos (1 + 0) *ℤ p) ≡ (o *ℤ ((pos 1 *ℤ a) +ℤ (pos 0 *ℤ b)))
    dot o p a b e low high =
        let least : int_min a b ≡ a = omega (arith, ints, clamps, e) in
        let most : int_max a b ≡ a = omega (arith, ints, clamps, e) in
        let sum : ((pos 1 *ℤ a) +ℤ (pos 0 *ℤ b)) ≡ a = omega (arith, ints) in
        omega (arith, ints, low, high, ap (λ z. o *ℤ z) least, ap (λ z. o *ℤ z) most, ap (λ z. o *ℤ z) sum)

pub on_segment : (s : Ends) (p : Point) → turn_at s p ≡ pos 0 → IsWithin s p → IsOn s p
on_segment s p zero w = elim (same_or_not s.x1 s.x2) [
  | inl ex ↦ elim (same_or_not s.y1 s.y2) [
    | inl ey ↦ on_dot s p ex ey w
    | inr ny ↦ on_line_y s p ny zero w.low w.high
  ]
  | inr nx ↦ on_line_x s p nx zero w.left w.right
]

-- ---- two directions

opposite : (d e x1 y1 x2 y2 : ℤ) → ((d *ℤ (y1 -ℤ y2)) -ℤ (e *ℤ (x1 -ℤ x2))) ≡ (pos 0 -ℤ ((d *ℤ (y2 -ℤ y1)) -ℤ (e *ℤ (x2 -ℤ x1))))
opposite d e x1 y1 x2 y2 = omega (arith, ints, mul_sub d y1 y2, mul_sub e x1 x2, mul_sub d y2 y1, mul_sub e x2 x1)

pub rule_x : (s t : Ends) → ((turn_of s t *ℤ (s.x1 -ℤ t.x1)) +ℤ (turn_to t s.x1 s.y1 *ℤ (s.x2 -ℤ s.x1))) ≡ ((pos 0 -ℤ turn_to s t.x1 t.y1) *ℤ (t.x2 -ℤ t.x1))
unfolding turn_to turn_of
rule_x s t = cramer_x (s.x2 -ℤ s.x1) (s.y2 -ℤ s.y1) (t.x2 -ℤ t.x1) (t.y2 -ℤ t.y1) (s.x1 -ℤ t.x1) (s.y1 -ℤ t.y1) ∙
    ap (λ z. z *ℤ (t.x2 -ℤ t.x1)) (opposite (s.x2 -ℤ s.x1) (s.y2 -ℤ s.y1) s.x1 s.y1 t.x1 t.y1)

pub rule_y : (s t : Ends) → ((turn_of s t *ℤ (s.y1 -ℤ t.y1)) +ℤ (turn_to t s.x1 s.y1 *ℤ (s.y2 -ℤ s.y1))) ≡ ((pos 0 -ℤ turn_to s t.x1 t.y1) *ℤ (t.y2 -ℤ t.y1))
unfolding turn_to turn_of
rule_y s t = cramer_y (s.x2 -ℤ s.x1) (s.y2 -ℤ s.y1) (t.x2 -ℤ t.x1) (t.y2 -ℤ t.y1) (s.x1 -ℤ t.x1) (s.y1 -ℤ t.y1) ∙
    ap (λ z. z *ℤ (t.y2 -ℤ t.y1)) (opposite (s.x2 -ℤ s.x1) (s.y2 -ℤ s.y1) s.x1 s.y1 t.x1 t.y1)

-- where one of two parallel segments has rows and the other is in one row, the other is in one column
pub flat_x : (s t : Ends) → turn_of s t ≡ pos 0 → s.y1 ≢ s.y2 → t.y1 ≡ t.y2 → t.x1 ≡ t.x2
unfolding turn_of
flat_x s t h n e =
    let wide : ((s.y2 -ℤ s.y1) *ℤ (t.x2 -ℤ t.x1)) ≡ pos 0 = zero_left (s.x2 -ℤ s.x1) (s.y2 -ℤ s.y1) (t.x2 -ℤ t.x1) (t.y2 -ℤ t.y1) h (omega (arith, ints, e)) in
    omega (arith, ints, zero_from_mul (s.y2 -ℤ s.y1) (t.x2 -ℤ t.x1) (λ q. n (omega (arith, ints, q))) wide)
  where
    zero_left : (a b c d : ℤ) → ((a *ℤ d) -ℤ (b *ℤ c)) ≡ pos 0 → d ≡ pos 0 → (b *ℤ c) ≡ pos 0
    zero_left a b c d h e = omega (arith, ints, h, ap (λ z. a *ℤ z) e)

pub flat_y : (s t : Ends) → turn_of s t ≡ pos 0 → s.x1 ≢ s.x2 → t.x1 ≡ t.x2 → t.y1 ≡ t.y2
unfolding turn_of
flat_y s t h n e =
    let high : ((s.x2 -ℤ s.x1) *ℤ (t.y2 -ℤ t.y1)) ≡ pos 0 = zero_right (s.x2 -ℤ s.x1) (s.y2 -ℤ s.y1) (t.x2 -ℤ t.x1) (t.y2 -ℤ t.y1) h (omega (arith, ints, e)) in
    omega (arith, ints, zero_from_mul (s.x2 -ℤ s.x1) (t.y2 -ℤ t.y1) (λ q. n (omega (arith, ints, q))) high)
  where
    zero_right : (a b c d : ℤ) → ((a *ℤ d) -ℤ (b *ℤ c)) ≡ pos 0 → c ≡ pos 0 → (a *ℤ d) ≡ pos 0
    zero_right a b c d h e = omega (arith, ints, h, ap (λ z. b *ℤ z) e)

pub turn_flip_to : (s : Ends) (x y : ℤ) → turn_to (flip s) y x ≡ (pos 0 -ℤ turn_to s x y)
unfolding turn_to
turn_flip_to s x y = flipped ((s.y2 -ℤ s.y1) *ℤ (x -ℤ s.x1)) ((s.x2 -ℤ s.x1) *ℤ (y -ℤ s.y1))
  where
    flipped : (a b : ℤ) → (a -ℤ b) ≡ (pos 0 -ℤ (b -ℤ a))
    flipped a b = omega (arith, ints)

-- ---- a whole point

abbrev pub end_point : ℤ → ℤ → Point
end_point x y = record { over = 1; some = omega arith; x = x; y = y }

pub turn_end : (s : Ends) (x y : ℤ) → turn_at s (end_point x y) ≡ turn_to s x y
unfolding turn_at turn turn_to
turn_end s x y = ap (λ z. ((s.x2 -ℤ s.x1) *ℤ (y -ℤ z)) -ℤ ((s.y2 -ℤ s.y1) *ℤ (x -ℤ (pos 1 *ℤ s.x1)))) (once s.y1) ∙
    ap (λ z. ((s.x2 -ℤ s.x1) *ℤ (y -ℤ s.y1)) -ℤ ((s.y2 -ℤ s.y1) *ℤ (x -ℤ z))) (once s.x1)
  where
    once : (z : ℤ) → (pos 1 *ℤ z) ≡ z
    once z = omega (arith, ints)

pub dot_on : (s : Ends) → s.x1 ≡ s.x2 → s.y1 ≡ s.y2 → IsOn s (end_point s.x1 s.y1)
dot_on s ex ey = record { first = 1; second = 0; some = omega arith; x = once s.x1 s.x2; y = once s.y1 s.y2 }
  where
    once : (a b : ℤ) → (pos (1 + 0) *ℤ a) ≡ (pos 1 *ℤ ((pos 1 *ℤ a) +ℤ (pos 0 *ℤ b)))
    once a b = omega (arith, ints)

-- ---- the corners of a rectangle

-- the turn to a whole point, many times as large
pub corner_of : (s : Ends) (p : Point) (x y : ℤ) → ((((s.x2 -ℤ s.x1) *ℤ (pos p.over *ℤ y))
    -ℤ ((s.y2 -ℤ s.y1) *ℤ (pos p.over *ℤ x))) +ℤ (turn_at s p -ℤ (((s.x2 -ℤ s.x1) *ℤ p.y) -ℤ ((s.y2 -ℤ s.y1) *ℤ p.x))))
    ≡ (pos p.over *ℤ turn_to s x y)
unfolding turn_at turn turn_to
corner_of s p x y = large (s.x2 -ℤ s.x1) (s.y2 -ℤ s.y1) (pos p.over) p.x p.y s.x1 s.y1 x y
  where
    large : (d e o px py a b x y : ℤ) → (((d *ℤ (o *ℤ y)) -ℤ (e *ℤ (o *ℤ x)))
        +ℤ (((d *ℤ (py -ℤ (o *ℤ b))) -ℤ (e *ℤ (px -ℤ (o *ℤ a)))) -ℤ ((d *ℤ py) -ℤ (e *ℤ px))))
        ≡ (o *ℤ ((d *ℤ (y -ℤ b)) -ℤ (e *ℤ (x -ℤ a))))
    large d e o px py a b x y = omega (
      arith,
      ints,
      mul_sub d py (o *ℤ b),
      mul_sub e px (o *ℤ a),
      mul_moved d o y,
      mul_moved e o x,
      mul_moved d o b,
      mul_moved e o a,
      ap (λ z. o *ℤ z) (mul_sub d y b),
      ap (λ z. o *ℤ z) (mul_sub e x a),
      mul_sub o (d *ℤ y) (d *ℤ b),
      mul_sub o (e *ℤ x) (e *ℤ a),
      mul_sub o (d *ℤ (y -ℤ b)) (e *ℤ (x -ℤ a)),
    )

pub turn_up : (s : Ends) (x y z : ℤ) → turn_to s x z ≡ (turn_to s x y +ℤ ((s.x2 -ℤ s.x1) *ℤ (z -ℤ y)))
unfolding turn_to
turn_up s x y z = up (s.x2 -ℤ s.x1) s.y1 y z ((s.y2 -ℤ s.y1) *ℤ (x -ℤ s.x1))
  where
    up : (d b y z f : ℤ) → ((d *ℤ (z -ℤ b)) -ℤ f) ≡ (((d *ℤ (y -ℤ b)) -ℤ f) +ℤ (d *ℤ (z -ℤ y)))
    up d b y z f = omega (arith, ints, mul_sub d z b, mul_sub d y b, mul_sub d z y)

pub turn_right : (s : Ends) (x y z : ℤ) → turn_to s z y ≡ (turn_to s x y -ℤ ((s.y2 -ℤ s.y1) *ℤ (z -ℤ x)))
unfolding turn_to
turn_right s x y z = right (s.y2 -ℤ s.y1) s.x1 x z ((s.x2 -ℤ s.x1) *ℤ (y -ℤ s.y1))
  where
    right : (e a x z f : ℤ) → (f -ℤ (e *ℤ (z -ℤ a))) ≡ ((f -ℤ (e *ℤ (x -ℤ a))) -ℤ (e *ℤ (z -ℤ x)))
    right e a x z f = omega (arith, ints, mul_sub e z a, mul_sub e x a, mul_sub e z x)

-- which of two products is the larger one
pub turn_sign : (s : Ends) (x y : ℤ) → (pos 0 ≤ℤ turn_to s x y →
    ((s.y2 -ℤ s.y1) *ℤ (x -ℤ s.x1)) ≤ℤ ((s.x2 -ℤ s.x1) *ℤ (y -ℤ s.y1))) ×
    (turn_to s x y ≤ℤ pos 0 → ((s.x2 -ℤ s.x1) *ℤ (y -ℤ s.y1)) ≤ℤ ((s.y2 -ℤ s.y1) *ℤ (x -ℤ s.x1)))
unfolding turn_to
turn_sign s x y = (
  λ h. not_less ((s.x2 -ℤ s.x1) *ℤ (y -ℤ s.y1)) ((s.y2 -ℤ s.y1) *ℤ (x -ℤ s.x1)) h,
  λ h. not_more ((s.x2 -ℤ s.x1) *ℤ (y -ℤ s.y1)) ((s.y2 -ℤ s.y1) *ℤ (x -ℤ s.x1)) h,
)
  where
    not_less : (a b : ℤ) → pos 0 ≤ℤ (a -ℤ b) → b ≤ℤ a
    not_less a b h = omega (arith, ints, h)

    not_more : (a b : ℤ) → (a -ℤ b) ≤ℤ pos 0 → a ≤ℤ b
    not_more a b h = omega (arith, ints, h)

-- ---- what the tests tell

above : (a b : ℤ) → (a <ℤ b → pos 0 <ℤ (b -ℤ a)) × (pos 0 <ℤ (b -ℤ a) → a <ℤ b)
above a b = (λ h. omega (arith, ints, h), λ h. omega (arith, ints, h))

under : (a b : ℤ) → (b <ℤ a → (b -ℤ a) <ℤ pos 0) × ((b -ℤ a) <ℤ pos 0 → b <ℤ a)
under a b = (λ h. omega (arith, ints, h), λ h. omega (arith, ints, h))

pub left_is : (s : Ends) (x y : ℤ) → is_left s x y ≡ true → pos 0 <ℤ turn_to s x y
unfolding turn_to
left_is s x y h = (above ((s.y2 -ℤ s.y1) *ℤ (x -ℤ s.x1)) ((s.x2 -ℤ s.x1) *ℤ (y -ℤ s.y1))).0 (is_less _ _ h)

pub left_from : (s : Ends) (x y : ℤ) → pos 0 <ℤ turn_to s x y → is_left s x y ≡ true
unfolding turn_to
left_from s x y h = less_test _ _ ((above ((s.y2 -ℤ s.y1) *ℤ (x -ℤ s.x1)) ((s.x2 -ℤ s.x1) *ℤ (y -ℤ s.y1))).1 h)

pub right_is : (s : Ends) (x y : ℤ) → is_right s x y ≡ true → turn_to s x y <ℤ pos 0
unfolding turn_to
right_is s x y h = (under ((s.y2 -ℤ s.y1) *ℤ (x -ℤ s.x1)) ((s.x2 -ℤ s.x1) *ℤ (y -ℤ s.y1))).0 (is_less _ _ h)

pub right_from : (s : Ends) (x y : ℤ) → turn_to s x y <ℤ pos 0 → is_right s x y ≡ true
unfolding turn_to
right_from s x y h = less_test _ _ ((under ((s.y2 -ℤ s.y1) *ℤ (x -ℤ s.x1)) ((s.x2 -ℤ s.x1) *ℤ (y -ℤ s.y1))).1 h)

pub on_is : (s : Ends) (x y : ℤ) → is_on s x y ≡ true → turn_to s x y ≡ pos 0
on_is s x y h =
    let off = or_parts (is_left s x y) (is_right s x y) (not-true _ h) in
    by_lt_z (pos 0) (turn_to s x y) (λ l. absurd (true≢false (sym (left_from s x y l) ∙ off.0)))
    (λ l. by_lt_z (turn_to s x y) (pos 0) (λ k. absurd (true≢false (sym (right_from s x y k) ∙ off.1)))
    (λ k. omega (arith, ints, l, k)))

pub on_from : (s : Ends) (x y : ℤ) → turn_to s x y ≡ pos 0 → is_on s x y ≡ true
on_from s x y h = not_from_false _ (or_from (is_left s x y) (is_right s x y)
    (false_from_ne_true _ (λ e. omega (arith, ints, left_is s x y e, h)))
    (false_from_ne_true _ (λ e. omega (arith, ints, right_is s x y e, h))))
