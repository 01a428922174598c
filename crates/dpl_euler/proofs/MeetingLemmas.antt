-- Where two segments have a point in common.
use Rattle.std.proofs.Common.{arith, ◌≡◌, ◌≢◌, ℤ, pos, ◌≤ℤ◌, ◌<ℤ◌, ◌+ℤ◌, ◌-ℤ◌, ◌*ℤ◌, sym, ap, ◌∙◌, unsigned_abs, inl, inr}
use Rattle.std.specs.Int.{int_max, int_min}
use Rattle.std.proofs.lemmas.Int.{ints, clamps, by_lt_z}
use Rattle.dpl_euler.specs.Points.{Ends, Point, IsOn}
use Rattle.dpl_euler.proofs.ProductLemmas.{mul_comm, add_mul, sub_mul, mul_swap, mul_sub, mul_assoc, mul_le, le_from_mul}
use Rattle.dpl_euler.proofs.PointLemmas.{turn_to, turn_of, rule_x, rule_y, end_point, turn_end, flat_x, flat_y}
use Rattle.dpl_euler.proofs.PointLemmas.{turn_flip_to, dot_on, not_left, not_right, on_line, within_bounds, turn_step}
use Rattle.dpl_euler.proofs.PointLemmas.{turn_other, turn_zero, weighed_on, on_line_x, on_segment, back, on_back, flip}
use Rattle.dpl_euler.proofs.PointLemmas.{flip_point, on_flip, abs_is, over_positive}
use Rattle.dpl_list.proofs.Integers.{same_or_not}

pub record Common (s t : Ends) : Type 0 where
  pub point : Point
  pub first : IsOn s point
  pub second : IsOn t point

common_swap : (s t : Ends) → Common t s → Common s t
common_swap s t c = record { point = c.point; first = c.second; second = c.first }

-- the mean of the two ends of a segment, with weights that are not negative
abbrev pub mean_point : (s : Ends) (n m : ℤ) → pos 0 <ℤ (n +ℤ m) → Point
mean_point s n m h = record { over = unsigned_abs (n +ℤ m); some = omega (arith, ints, h); x = (n *ℤ s.x1) +ℤ (m *ℤ s.x2); y = (n *ℤ s.y1) +ℤ (m *ℤ s.y2) }

pub over_is : (s : Ends) (n m : ℤ) (h : pos 0 <ℤ (n +ℤ m)) → pos ((mean_point s n m h).over) ≡ (n +ℤ m)
over_is s n m h = abs_is (n +ℤ m) (omega (arith, ints, h))

pub mean_on : (s : Ends) (n m : ℤ) (hn : pos 0 ≤ℤ n) (hm : pos 0 ≤ℤ m) (h : pos 0 <ℤ (n +ℤ m)) → IsOn s (mean_point s n m h)
mean_on s n m hn hm h =
    let o : (n +ℤ m) ≡ pos (unsigned_abs (n +ℤ m)) = sym (abs_is (n +ℤ m) (omega (arith, ints, h))) in
    weighed_on s (mean_point s n m h) n m hn hm h (ap (λ z. z *ℤ ((n *ℤ s.x1) +ℤ (m *ℤ s.x2))) o) (ap (λ z. z *ℤ ((n *ℤ s.y1) +ℤ (m *ℤ s.y2))) o)

-- ---- lines that are not parallel

same_mean : (n m k l w a1 a2 b1 b2 : ℤ) → (n +ℤ m) ≡ w → (k +ℤ l) ≡ w
    → ((w *ℤ (a1 -ℤ b1)) +ℤ (m *ℤ (a2 -ℤ a1))) ≡ (l *ℤ (b2 -ℤ b1))
    → ((n *ℤ a1) +ℤ (m *ℤ a2)) ≡ ((k *ℤ b1) +ℤ (l *ℤ b2))
same_mean n m k l w a1 a2 b1 b2 whole total h = mean n m w a1 a2 whole ∙ join w a1 b1 m (a2 -ℤ a1) l (b2 -ℤ b1) h ∙ sym (mean k l w b1 b2 total)
  where
    mean : (n m w a b : ℤ) → (n +ℤ m) ≡ w → ((n *ℤ a) +ℤ (m *ℤ b)) ≡ ((w *ℤ a) +ℤ (m *ℤ (b -ℤ a)))
    mean n m w a b h = omega (arith, ints, ap (λ z. z *ℤ a) h, add_mul n m a, mul_sub m b a)

    join : (w a b m d l e : ℤ) → ((w *ℤ (a -ℤ b)) +ℤ (m *ℤ d)) ≡ (l *ℤ e) → ((w *ℤ a) +ℤ (m *ℤ d)) ≡ ((w *ℤ b) +ℤ (l *ℤ e))
    join w a b m d l e h = omega (arith, ints, h, mul_sub w a b)

-- a mean of the ends of one segment that is one of the ends of the other
both_on : (s t : Ends) (n m k l : ℤ) → pos 0 ≤ℤ n → pos 0 ≤ℤ m → pos 0 ≤ℤ k → pos 0 ≤ℤ l → pos 0 <ℤ (n +ℤ m)
    → (k +ℤ l) ≡ (n +ℤ m) → ((n *ℤ s.x1) +ℤ (m *ℤ s.x2)) ≡ ((k *ℤ t.x1) +ℤ (l *ℤ t.x2))
    → ((n *ℤ s.y1) +ℤ (m *ℤ s.y2)) ≡ ((k *ℤ t.y1) +ℤ (l *ℤ t.y2)) → Common s t
both_on s t n m k l hn hm hk hl h e x y = record {
  point = mean_point s n m h;
  first = mean_on s n m hn hm h;
  second = weighed_on t (mean_point s n m h) k l hk hl (omega (arith, ints, h, e))
      (across ((n *ℤ s.x1) +ℤ (m *ℤ s.x2)) _ x) (across ((n *ℤ s.y1) +ℤ (m *ℤ s.y2)) _ y);
}
  where
    across : (a b : ℤ) → a ≡ b → ((k +ℤ l) *ℤ a) ≡ (pos (unsigned_abs (n +ℤ m)) *ℤ b)
    across a b f = ap (λ z. (k +ℤ l) *ℤ z) f ∙ ap (λ z. z *ℤ b) (e ∙ sym (abs_is (n +ℤ m) (omega (arith, ints, h))))

-- the other turns the first way: the line of each leaves the other's ends on its two sides
cross_up : (s t : Ends) → pos 0 <ℤ turn_of s t → turn_to s t.x1 t.y1 ≤ℤ pos 0 → pos 0 ≤ℤ turn_to s t.x2 t.y2
    → pos 0 ≤ℤ turn_to t s.x1 s.y1 → turn_to t s.x2 s.y2 ≤ℤ pos 0 → Common s t
cross_up s t up low high high_s low_s =
    let whole : ((pos 0 -ℤ turn_to t s.x2 s.y2) +ℤ turn_to t s.x1 s.y1) ≡ turn_of s t = omega (arith, ints, turn_step t s, turn_other s t) in
    let total : (turn_to s t.x2 t.y2 +ℤ (pos 0 -ℤ turn_to s t.x1 t.y1)) ≡ turn_of s t = omega (arith, ints, turn_step s t) in
    both_on s t (pos 0 -ℤ turn_to t s.x2 s.y2) (turn_to t s.x1 s.y1) (turn_to s t.x2 t.y2)
    (pos 0 -ℤ turn_to s t.x1 t.y1) (omega (arith, ints, low_s)) high_s high (omega (arith, ints, low))
    (omega (arith, ints, whole, up)) (total ∙ sym whole)
    (same_mean _ _ _ _ (turn_of s t) s.x1 s.x2 t.x1 t.x2 whole total (rule_x s t))
    (same_mean _ _ _ _ (turn_of s t) s.y1 s.y2 t.y1 t.y2 whole total (rule_y s t))

-- ---- one line

-- a common point in the middle of what the segments have in common
pub record Middle (s t : Ends) (w : ℤ) : Type 0 where
  pub point : Point
  pub first : IsOn s point
  pub second : IsOn t point
  pub middle : (pos 2 *ℤ point.x) ≡ (pos point.over *ℤ w)

middle_up : (s t : Ends) (w : ℤ) → s.x1 <ℤ s.x2 → t.x1 ≢ t.x2 → turn_to t s.x1 s.y1 ≡ pos 0
    → turn_to t s.x2 s.y2 ≡ pos 0 → (pos 2 *ℤ s.x1) ≤ℤ w → w ≤ℤ (pos 2 *ℤ s.x2)
    → (pos 2 *ℤ int_min t.x1 t.x2) ≤ℤ w → w ≤ℤ (pos 2 *ℤ int_max t.x1 t.x2) → Middle s t w
middle_up s t w up apart zero1 zero2 low high low_t high_t =
    let n : ℤ = (pos 2 *ℤ s.x2) -ℤ w in
    let m : ℤ = w -ℤ (pos 2 *ℤ s.x1) in
    let h : pos 0 <ℤ (n +ℤ m) = omega (arith, ints, up) in
    let p : Point = mean_point s n m h in
    let on : IsOn s p = mean_on s n m (omega (arith, ints, high)) (omega (arith, ints, low)) h in
    let o : pos p.over ≡ (pos 2 *ℤ (s.x2 -ℤ s.x1)) = over_is s n m h ∙ omega (arith, ints) in
    let at : p.x ≡ ((s.x2 -ℤ s.x1) *ℤ w) = place s.x1 s.x2 w in
    record {
      point = p;
      first = on;
      second = on_line_x t p apart (turn_zero t s p on zero1 zero2)
          (lower _ p.x (s.x2 -ℤ s.x1) w _ o at (omega (arith, ints, up)) low_t)
          (upper _ p.x (s.x2 -ℤ s.x1) w _ o at (omega (arith, ints, up)) high_t);
      middle = ap (λ z. pos 2 *ℤ z) at ∙ sym (mul_assoc (pos 2) (s.x2 -ℤ s.x1) w) ∙ ap (λ z. z *ℤ w) (sym o);
    }
  where
    place : (a b w : ℤ) → ((((pos 2 *ℤ b) -ℤ w) *ℤ a) +ℤ ((w -ℤ (pos 2 *ℤ a)) *ℤ b)) ≡ ((b -ℤ a) *ℤ w)
    place a b w = omega (
      arith,
      ints,
      sub_mul (pos 2 *ℤ b) w a,
      sub_mul w (pos 2 *ℤ a) b,
      mul_assoc (pos 2) b a,
      mul_assoc (pos 2) a b,
      mul_comm b a,
      sub_mul b a w,
      mul_comm w b,
      mul_comm w a,
    )

    lower : (o x d w r : ℤ) → o ≡ (pos 2 *ℤ d) → x ≡ (d *ℤ w) → pos 0 ≤ℤ d → (pos 2 *ℤ r) ≤ℤ w → (o *ℤ r) ≤ℤ x
    lower o x d w r eo ex hd h = omega (arith, ints, ex, ap (λ z. z *ℤ r) eo, mul_swap (pos 2) d r, mul_comm (pos 2 *ℤ r) d, mul_le d (pos 2 *ℤ r) w hd h)

    upper : (o x d w r : ℤ) → o ≡ (pos 2 *ℤ d) → x ≡ (d *ℤ w) → pos 0 ≤ℤ d → w ≤ℤ (pos 2 *ℤ r) → x ≤ℤ (o *ℤ r)
    upper o x d w r eo ex hd h = omega (arith, ints, ex, ap (λ z. z *ℤ r) eo, mul_swap (pos 2) d r, mul_comm (pos 2 *ℤ r) d, mul_le d w (pos 2 *ℤ r) hd h)

middle_back : (s t : Ends) (w : ℤ) → Middle (back s) t w → Middle s t w
middle_back s t w m = record { point = m.point; first = on_back s m.point m.first; second = m.second; middle = m.middle }

pub middle_x : (s t : Ends) (w : ℤ) → s.x1 ≢ s.x2 → t.x1 ≢ t.x2 → turn_to t s.x1 s.y1 ≡ pos 0
    → turn_to t s.x2 s.y2 ≡ pos 0 → (pos 2 *ℤ int_min s.x1 s.x2) ≤ℤ w → w ≤ℤ (pos 2 *ℤ int_max s.x1 s.x2)
    → (pos 2 *ℤ int_min t.x1 t.x2) ≤ℤ w → w ≤ℤ (pos 2 *ℤ int_max t.x1 t.x2) → Middle s t w
middle_x s t w some apart zero1 zero2 low high low_t high_t = by_lt_z s.x1 s.x2
    (λ l. middle_up s t w l apart zero1 zero2 (omega (arith, ints, clamps, l, low)) (omega (arith, ints, clamps, l, high)) low_t high_t)
    (λ l. let m : s.x2 <ℤ s.x1 = omega (arith, ints, l, some) in
    middle_back s t w (middle_up (back s) t w m apart zero2 zero1 (omega (arith, ints, clamps, l, low))
    (omega (arith, ints, clamps, l, high)) low_t high_t))

pub record MiddleRow (s t : Ends) (w : ℤ) : Type 0 where
  pub point : Point
  pub first : IsOn s point
  pub second : IsOn t point
  pub middle : (pos 2 *ℤ point.y) ≡ (pos point.over *ℤ w)

pub middle_y : (s t : Ends) (w : ℤ) → s.y1 ≢ s.y2 → t.y1 ≢ t.y2 → turn_to t s.x1 s.y1 ≡ pos 0
    → turn_to t s.x2 s.y2 ≡ pos 0 → (pos 2 *ℤ int_min s.y1 s.y2) ≤ℤ w → w ≤ℤ (pos 2 *ℤ int_max s.y1 s.y2)
    → (pos 2 *ℤ int_min t.y1 t.y2) ≤ℤ w → w ≤ℤ (pos 2 *ℤ int_max t.y1 t.y2) → MiddleRow s t w
middle_y s t w some apart zero1 zero2 low high low_t high_t =
    let m = middle_x (flip s) (flip t) w some apart (turn_flip_to t s.x1 s.y1 ∙ omega (arith, ints, zero1))
    (turn_flip_to t s.x2 s.y2 ∙ omega (arith, ints, zero2)) low high low_t high_t in
    record {
      point = flip_point m.point;
      first = on_flip s (flip_point m.point) m.first;
      second = on_flip t (flip_point m.point) m.second;
      middle = m.middle;
    }

-- ---- two segments, by what the test reads

-- one range of places and another have one in common
pub record DoSpansMeet (a1 a2 b1 b2 : ℤ) : Type 0 where
  pub first : int_min a1 a2 ≤ℤ int_max b1 b2
  pub second : int_min b1 b2 ≤ℤ int_max a1 a2

-- the other segment lies on neither side of the line
pub record IsAcross (s t : Ends) : Type 0 where
  pub left : pos 0 <ℤ turn_to s t.x1 t.y1 → pos 0 <ℤ turn_to s t.x2 t.y2 → ⊥
  pub right : turn_to s t.x1 t.y1 <ℤ pos 0 → turn_to s t.x2 t.y2 <ℤ pos 0 → ⊥

pub record DoMeet (s t : Ends) : Type 0 where
  pub columns : DoSpansMeet s.x1 s.x2 t.x1 t.x2
  pub rows : DoSpansMeet s.y1 s.y2 t.y1 t.y2
  pub across : IsAcross s t
  pub also : IsAcross t s

do_meet_swap : (s t : Ends) → DoMeet s t → DoMeet t s
do_meet_swap s t m = record {
  columns = record { first = m.columns.second; second = m.columns.first };
  rows = record { first = m.rows.second; second = m.rows.first };
  across = m.also;
  also = m.across;
}

-- a test that was refused
not_positive : (z w : ℤ) → z ≡ w → (pos 0 <ℤ z → pos 0 <ℤ w → ⊥) → z ≤ℤ pos 0
not_positive z w e refused = by_lt_z (pos 0) z (λ l. absurd (refused l (omega (arith, ints, l, e)))) (λ l. l)

not_negative : (z w : ℤ) → z ≡ w → (z <ℤ pos 0 → w <ℤ pos 0 → ⊥) → pos 0 ≤ℤ z
not_negative z w e refused = by_lt_z z (pos 0) (λ l. absurd (refused l (omega (arith, ints, l, e)))) (λ l. l)

-- of two parallel lines neither of which leaves the other segment on one side, each goes through the other's ends
pub along : (s t : Ends) → IsAcross s t → turn_of s t ≡ pos 0 → (turn_to s t.x1 t.y1 ≡ pos 0) × (turn_to s t.x2 t.y2 ≡ pos 0)
along s t a zero =
    let e : turn_to s t.x1 t.y1 ≡ turn_to s t.x2 t.y2 = omega (arith, ints, turn_step s t, zero) in
    let f : turn_to s t.x1 t.y1 ≡ pos 0 = omega (arith, ints, not_positive _ _ e a.left, not_negative _ _ e a.right) in
    (f, omega (arith, ints, e, f))

below_one : (z w : ℤ) → z <ℤ w → (pos 0 <ℤ z → pos 0 <ℤ w → ⊥) → z ≤ℤ pos 0
below_one z w l refused = by_lt_z (pos 0) z (λ h. absurd (refused h (omega (arith, ints, h, l)))) (λ h. h)

above_one : (z w : ℤ) → z <ℤ w → (z <ℤ pos 0 → w <ℤ pos 0 → ⊥) → pos 0 ≤ℤ w
above_one z w l refused = by_lt_z w (pos 0) (λ h. absurd (refused (omega (arith, ints, h, l)) h)) (λ h. h)

meet_up : (s t : Ends) → DoMeet s t → pos 0 <ℤ turn_of s t → Common s t
meet_up s t m up =
    let rise : turn_to s t.x1 t.y1 <ℤ turn_to s t.x2 t.y2 = omega (arith, ints, turn_step s t, up) in
    let fall : turn_to t s.x2 s.y2 <ℤ turn_to t s.x1 s.y1 = omega (arith, ints, turn_step t s, turn_other s t, up) in
    cross_up s t up (below_one _ _ rise m.across.left) (above_one _ _ rise m.across.right)
    (above_one _ _ fall (λ f g. m.also.right g f)) (below_one _ _ fall (λ f g. m.also.left g f))

-- the end of a segment, where the other is that point
dot_meets : (s t : Ends) → DoMeet s t → t.x1 ≡ t.x2 → t.y1 ≡ t.y2 → turn_to s t.x1 t.y1 ≡ pos 0 → Common s t
dot_meets s t m ex ey zero = record {
  point = end_point t.x1 t.y1;
  first = on_segment s (end_point t.x1 t.y1) (turn_end s t.x1 t.y1 ∙ zero) (record {
    left = low_at _ _ _ _ ex m.columns;
    right = high_at _ _ _ _ ex m.columns;
    low = low_at _ _ _ _ ey m.rows;
    high = high_at _ _ _ _ ey m.rows;
  });
  second = dot_on t ex ey;
}
  where
    low_at : (a1 a2 b1 b2 : ℤ) → b1 ≡ b2 → DoSpansMeet a1 a2 b1 b2 → (pos 1 *ℤ int_min a1 a2) ≤ℤ b1
    low_at a1 a2 b1 b2 e m = omega (arith, ints, clamps, e, m.first)

    high_at : (a1 a2 b1 b2 : ℤ) → b1 ≡ b2 → DoSpansMeet a1 a2 b1 b2 → b1 ≤ℤ (pos 1 *ℤ int_max a1 a2)
    high_at a1 a2 b1 b2 e m = omega (arith, ints, clamps, e, m.second)

-- the middle of what two ranges have in common, doubled
abbrev pub shared : ℤ → ℤ → ℤ → ℤ → ℤ
shared a1 a2 b1 b2 = int_max (int_min a1 a2) (int_min b1 b2) +ℤ int_min (int_max a1 a2) (int_max b1 b2)

shared_in : (a1 a2 b1 b2 : ℤ) → DoSpansMeet a1 a2 b1 b2 → ((pos 2 *ℤ int_min a1 a2) ≤ℤ shared a1 a2 b1 b2) ×
    (shared a1 a2 b1 b2 ≤ℤ (pos 2 *ℤ int_max a1 a2)) × ((pos 2 *ℤ int_min b1 b2) ≤ℤ shared a1 a2 b1 b2) ×
    (shared a1 a2 b1 b2 ≤ℤ (pos 2 *ℤ int_max b1 b2))
shared_in a1 a2 b1 b2 m =
    let f : int_min a1 a2 ≤ℤ int_max a1 a2 = omega (arith, ints, clamps) in
    let g : int_min b1 b2 ≤ℤ int_max b1 b2 = omega (arith, ints, clamps) in
    within (int_min a1 a2) (int_max a1 a2) (int_min b1 b2) (int_max b1 b2) f g m.first m.second
  where
    within : (p q r u : ℤ) → p ≤ℤ q → r ≤ℤ u → p ≤ℤ u → r ≤ℤ q → ((pos 2 *ℤ p) ≤ℤ (int_max p r +ℤ int_min q u)) ×
        ((int_max p r +ℤ int_min q u) ≤ℤ (pos 2 *ℤ q)) × ((pos 2 *ℤ r) ≤ℤ (int_max p r +ℤ int_min q u)) ×
        ((int_max p r +ℤ int_min q u) ≤ℤ (pos 2 *ℤ u))
    within p q r u a b c d = (
      omega (arith, ints, clamps, a, b, c, d),
      omega (arith, ints, clamps, a, b, c, d),
      omega (arith, ints, clamps, a, b, c, d),
      omega (arith, ints, clamps, a, b, c, d),
    )

pub middle_columns : (s t : Ends) → DoSpansMeet s.x1 s.x2 t.x1 t.x2 → s.x1 ≢ s.x2 → t.x1 ≢ t.x2
    → turn_to t s.x1 s.y1 ≡ pos 0 → turn_to t s.x2 s.y2 ≡ pos 0 → Middle s t (shared s.x1 s.x2 t.x1 t.x2)
middle_columns s t m some apart zero1 zero2 =
    let w = shared_in s.x1 s.x2 t.x1 t.x2 m in
    middle_x s t (shared s.x1 s.x2 t.x1 t.x2) some apart zero1 zero2 w.0 w.1 w.2 w.3

pub middle_rows : (s t : Ends) → DoSpansMeet s.y1 s.y2 t.y1 t.y2 → s.y1 ≢ s.y2 → t.y1 ≢ t.y2
    → turn_to t s.x1 s.y1 ≡ pos 0 → turn_to t s.x2 s.y2 ≡ pos 0 → MiddleRow s t (shared s.y1 s.y2 t.y1 t.y2)
middle_rows s t m some apart zero1 zero2 =
    let w = shared_in s.y1 s.y2 t.y1 t.y2 m in
    middle_y s t (shared s.y1 s.y2 t.y1 t.y2) some apart zero1 zero2 w.0 w.1 w.2 w.3

meet_flat : (s t : Ends) → DoMeet s t → turn_of s t ≡ pos 0 → Common s t
meet_flat s t m flat =
    let there = along s t m.across flat in
    let here = along t s m.also (turn_other s t ∙ omega (arith, ints, flat)) in
    elim (same_or_not s.x1 s.x2) [
      | inl sx ↦ elim (same_or_not s.y1 s.y2) [
        | inl sy ↦ common_swap s t (dot_meets t s (do_meet_swap s t m) sx sy here.0)
        | inr sy ↦ elim (same_or_not t.y1 t.y2) [
          | inl ty ↦ dot_meets s t m (flat_x s t flat sy ty) ty there.0
          | inr ty ↦ let c = middle_rows s t m.rows sy ty here.0 here.1 in record { point = c.point; first = c.first; second = c.second }
        ]
      ]
      | inr sx ↦ elim (same_or_not t.x1 t.x2) [
        | inl tx ↦ dot_meets s t m tx (flat_y s t flat sx tx) there.0
        | inr tx ↦ let c = middle_columns s t m.columns sx tx here.0 here.1 in record { point = c.point; first = c.first; second = c.second }
      ]
    ]

pub common_from : (s t : Ends) → DoMeet s t → Common s t
common_from s t m = by_lt_z (pos 0) (turn_of s t) (λ l. meet_up s t m l) (λ l. by_lt_z (turn_of s t) (pos 0)
    (λ k. common_swap s t (meet_up t s (do_meet_swap s t m) (omega (arith, ints, k, turn_other s t))))
    (λ k. meet_flat s t m (omega (arith, ints, k, l))))

-- ---- the other way

pub spans_from : (o p a1 a2 b1 b2 : ℤ) → pos 0 <ℤ o → (o *ℤ int_min a1 a2) ≤ℤ p → p ≤ℤ (o *ℤ int_max a1 a2)
    → (o *ℤ int_min b1 b2) ≤ℤ p → p ≤ℤ (o *ℤ int_max b1 b2) → DoSpansMeet a1 a2 b1 b2
spans_from o p a1 a2 b1 b2 ho f g h k = record {
  first = le_from_mul o (int_min a1 a2) (int_max b1 b2) ho (omega (arith, ints, f, k));
  second = le_from_mul o (int_min b1 b2) (int_max a1 a2) ho (omega (arith, ints, h, g));
}

across_from : (s t : Ends) (p : Point) → IsOn s p → IsOn t p → IsAcross s t
across_from s t p i j = record { left = not_left s t p j (on_line s p i); right = not_right s t p j (on_line s p i) }

pub meet_from : (s t : Ends) → Common s t → DoMeet s t
meet_from s t c =
    let a = within_bounds s c.point c.first in
    let b = within_bounds t c.point c.second in
    let o = over_positive c.point in
    record {
      columns = spans_from _ _ _ _ _ _ o a.left a.right b.left b.right;
      rows = spans_from _ _ _ _ _ _ o a.low a.high b.low b.high;
      across = across_from s t c.point c.first c.second;
      also = across_from t s c.point c.second c.first;
    }
