-- Where a segment and an upright rectangle have a point in common.
use Rattle.std.proofs.Common.{arith, ◌≡◌, ℤ, pos, ◌≤ℤ◌, ◌<ℤ◌, ◌+ℤ◌, ◌-ℤ◌, ◌*ℤ◌, sym, ap, subst, ◌∙◌}
use Rattle.std.specs.Int.{int_max, int_min}
use Rattle.std.proofs.lemmas.Int.{ints, clamps, by_lt_z}
use Rattle.dpl_euler.specs.Points.{Ends, Point, IsOn}
use Rattle.dpl_euler.proofs.ProductLemmas.{mul_comm, sub_mul, mul_sub, mul_nonneg, mul_le, mul_le_down, mul_pos}
use Rattle.dpl_euler.proofs.PointLemmas.{turn_at, turn_to, corner_of, turn_up, turn_right, turn_sign, over_positive, within_bounds, on_line}
use Rattle.dpl_euler.proofs.MeetingLemmas.{DoSpansMeet, mean_point, mean_on, over_is, spans_from}

-- the point lies in the rectangle of these columns and rows
pub record IsIn (x1 y1 x2 y2 : ℤ) (p : Point) : Type 0 where
  pub left : (pos p.over *ℤ x1) ≤ℤ p.x
  pub right : p.x ≤ℤ (pos p.over *ℤ x2)
  pub low : (pos p.over *ℤ y1) ≤ℤ p.y
  pub high : p.y ≤ℤ (pos p.over *ℤ y2)

pub record InBoth (s : Ends) (x1 y1 x2 y2 : ℤ) : Type 0 where
  pub point : Point
  pub on : IsOn s point
  pub inside : IsIn x1 y1 x2 y2 point

-- what the test reads: the bounds meet, and the line leaves corners on both sides
pub record DoesMeetRect (s : Ends) (x1 y1 x2 y2 : ℤ) : Type 0 where
  pub columns : DoSpansMeet s.x1 s.x2 x1 x2
  pub rows : DoSpansMeet s.y1 s.y2 y1 y2
  pub left : pos 0 <ℤ turn_to s x1 y1 → pos 0 <ℤ turn_to s x2 y2 → pos 0 <ℤ turn_to s x1 y2 → pos 0 <ℤ turn_to s x2 y1 → ⊥
  pub right : turn_to s x1 y1 <ℤ pos 0 → turn_to s x2 y2 <ℤ pos 0 → turn_to s x1 y2 <ℤ pos 0 → turn_to s x2 y1 <ℤ pos 0 → ⊥

-- ---- from a point

by_signs : {P : Type 0} (d e : ℤ) → (pos 0 ≤ℤ d → pos 0 ≤ℤ e → P) → (pos 0 ≤ℤ d → e ≤ℤ pos 0 → P)
    → (d ≤ℤ pos 0 → pos 0 ≤ℤ e → P) → (d ≤ℤ pos 0 → e ≤ℤ pos 0 → P) → P
by_signs d e f g h k = by_lt_z d (pos 0)
    (λ l. by_lt_z e (pos 0) (λ m. k (omega (arith, ints, l)) (omega (arith, ints, m))) (λ m. h (omega (arith, ints, l)) m))
    (λ l. by_lt_z e (pos 0) (λ m. g l (omega (arith, ints, m))) (λ m. f l m))

on_zero : (z o w : ℤ) → z ≡ pos 0 → pos 0 <ℤ o → ((o *ℤ w) ≤ℤ z → pos 0 <ℤ w → ⊥) × (z ≤ℤ (o *ℤ w) → w <ℤ pos 0 → ⊥)
on_zero z o w e ho = (
  λ h l. omega (arith, ints, e, h, mul_pos o w ho l),
  λ h l. omega (arith, ints, e, h, mul_pos o (pos 0 -ℤ w) ho (omega (arith, ints, l)), mul_sub o (pos 0) w),
)

pub rect_from : (s : Ends) (x1 y1 x2 y2 : ℤ) → x1 ≤ℤ x2 → y1 ≤ℤ y2 → InBoth s x1 y1 x2 y2 → DoesMeetRect s x1 y1 x2 y2
rect_from s x1 y1 x2 y2 wide high c =
    let p = c.point in
    let o = over_positive p in
    let b = within_bounds s p c.on in
    let zero = on_line s p c.on in
    let i = c.inside in
    let ho : pos 0 ≤ℤ pos p.over = omega (arith, ints) in
    let d : ℤ = s.x2 -ℤ s.x1 in
    let e : ℤ = s.y2 -ℤ s.y1 in
    record {
      columns = spans_from (pos p.over) p.x s.x1 s.x2 x1 x2 o b.left b.right (least x1 x2 p.x wide i.left) (most x1 x2 p.x wide i.right);
      rows = spans_from (pos p.over) p.y s.y1 s.y2 y1 y2 o b.low b.high (least y1 y2 p.y high i.low) (most y1 y2 p.y high i.high);
      left = λ f g h k. by_signs d e
          (λ u v. (on_zero _ _ _ zero o).0 (lesser s p x2 y1 (mul_le d _ _ u i.low) (mul_le e _ _ v i.right)) k)
          (λ u v. (on_zero _ _ _ zero o).0 (lesser s p x1 y1 (mul_le d _ _ u i.low) (mul_le_down e _ _ v i.left)) f)
          (λ u v. (on_zero _ _ _ zero o).0 (lesser s p x2 y2 (mul_le_down d _ _ u i.high) (mul_le e _ _ v i.right)) g)
          (λ u v. (on_zero _ _ _ zero o).0 (lesser s p x1 y2 (mul_le_down d _ _ u i.high) (mul_le_down e _ _ v i.left)) h);
      right = λ f g h k. by_signs d e
          (λ u v. (on_zero _ _ _ zero o).1 (greater s p x1 y2 (mul_le d _ _ u i.high) (mul_le e _ _ v i.left)) h)
          (λ u v. (on_zero _ _ _ zero o).1 (greater s p x2 y2 (mul_le d _ _ u i.high) (mul_le_down e _ _ v i.right)) g)
          (λ u v. (on_zero _ _ _ zero o).1 (greater s p x1 y1 (mul_le_down d _ _ u i.low) (mul_le e _ _ v i.left)) f)
          (λ u v. (on_zero _ _ _ zero o).1 (greater s p x2 y1 (mul_le_down d _ _ u i.low) (mul_le_down e _ _ v i.right)) k);
    }
  where
    least : (a b x : ℤ) → a ≤ℤ b → (pos c.point.over *ℤ a) ≤ℤ x → (pos c.point.over *ℤ int_min a b) ≤ℤ x
    least a b x l h =
        let m : int_min a b ≡ a = omega (arith, ints, clamps, l) in
        omega (arith, ints, h, ap (λ z. pos c.point.over *ℤ z) m)

    most : (a b x : ℤ) → a ≤ℤ b → x ≤ℤ (pos c.point.over *ℤ b) → x ≤ℤ (pos c.point.over *ℤ int_max a b)
    most a b x l h =
        let m : int_max a b ≡ b = omega (arith, ints, clamps, l) in
        omega (arith, ints, h, ap (λ z. pos c.point.over *ℤ z) m)

    lesser : (s : Ends) (p : Point) (x y : ℤ) → ((s.x2 -ℤ s.x1) *ℤ (pos p.over *ℤ y)) ≤ℤ ((s.x2 -ℤ s.x1) *ℤ p.y) →
        ((s.y2 -ℤ s.y1) *ℤ p.x) ≤ℤ ((s.y2 -ℤ s.y1) *ℤ (pos p.over *ℤ x)) → (pos p.over *ℤ turn_to s x y) ≤ℤ turn_at s p
    lesser s p x y f g = omega (arith, ints, f, g, corner_of s p x y)

    greater : (s : Ends) (p : Point) (x y : ℤ) → ((s.x2 -ℤ s.x1) *ℤ p.y) ≤ℤ ((s.x2 -ℤ s.x1) *ℤ (pos p.over *ℤ y)) →
        ((s.y2 -ℤ s.y1) *ℤ (pos p.over *ℤ x)) ≤ℤ ((s.y2 -ℤ s.y1) *ℤ p.x) → turn_at s p ≤ℤ (pos p.over *ℤ turn_to s x y)
    greater s p x y f g = omega (arith, ints, f, g, corner_of s p x y)

-- ---- to a point

-- Two places that go on evenly, at k / w of their ways: the first from a by d within l and h, the second from b by e within
-- m and n.
record Reach (a d l h b e m n : ℤ) : Type 0 where
  pub w : ℤ
  pub k : ℤ
  pub some : pos 0 <ℤ w
  pub from : pos 0 ≤ℤ k
  pub to : k ≤ℤ w
  pub left : (w *ℤ l) ≤ℤ ((w *ℤ a) +ℤ (k *ℤ d))
  pub right : ((w *ℤ a) +ℤ (k *ℤ d)) ≤ℤ (w *ℤ h)
  pub low : (w *ℤ m) ≤ℤ ((w *ℤ b) +ℤ (k *ℤ e))
  pub high : ((w *ℤ b) +ℤ (k *ℤ e)) ≤ℤ (w *ℤ n)

-- at the first place
reach_now : (a d l h b e m n : ℤ) → l ≤ℤ a → a ≤ℤ h → m ≤ℤ b → b ≤ℤ n → Reach a d l h b e m n
reach_now a d l h b e m n f g p q = record {
  w = pos 1;
  k = pos 0;
  some = omega (arith, ints);
  from = omega (arith, ints);
  to = omega (arith, ints);
  left = omega (arith, ints, f);
  right = omega (arith, ints, g);
  low = omega (arith, ints, p);
  high = omega (arith, ints, q);
}

-- where the first place comes to l
reach_first : (a d l h b e m n : ℤ) → a <ℤ l → l ≤ℤ (a +ℤ d) → l ≤ℤ h → (e *ℤ (l -ℤ a)) ≤ℤ (d *ℤ (n -ℤ b))
    → (d *ℤ (m -ℤ b)) ≤ℤ (e *ℤ (l -ℤ a)) → Reach a d l h b e m n
reach_first a d l h b e m n f g p q r =
    let pd : pos 0 ≤ℤ d = omega (arith, ints, f, g) in
    let at : ((d *ℤ a) +ℤ ((l -ℤ a) *ℤ d)) ≡ (d *ℤ l) = omega (arith, ints, sub_mul l a d, mul_comm d l, mul_comm d a) in
    record {
      w = d;
      k = l -ℤ a;
      some = omega (arith, ints, f, g);
      from = omega (arith, ints, f);
      to = omega (arith, ints, g);
      left = omega (arith, ints, at);
      right = omega (arith, ints, at, mul_le d l h pd p);
      low = omega (arith, ints, r, mul_sub d m b, mul_comm e (l -ℤ a));
      high = omega (arith, ints, q, mul_sub d n b, mul_comm e (l -ℤ a));
    }

reach_turn : (a d l h b e m n : ℤ) → Reach b e m n a d l h → Reach a d l h b e m n
reach_turn a d l h b e m n r = record { w = r.w; k = r.k; some = r.some; from = r.from; to = r.to; left = r.low; right = r.high; low = r.left; high = r.right }

reach_up : (a d l h b e m n : ℤ) → pos 0 ≤ℤ d → pos 0 ≤ℤ e → l ≤ℤ h → m ≤ℤ n → l ≤ℤ (a +ℤ d) → a ≤ℤ h → m ≤ℤ (b +ℤ e) →
    b ≤ℤ n → (e *ℤ (l -ℤ a)) ≤ℤ (d *ℤ (n -ℤ b)) → (d *ℤ (m -ℤ b)) ≤ℤ (e *ℤ (h -ℤ a)) → Reach a d l h b e m n
reach_up a d l h b e m n pd pe lh mn f g p q r t = by_lt_z a l
    (λ u. by_lt_z b m
    (λ v. by_lt_z (e *ℤ (l -ℤ a)) (d *ℤ (m -ℤ b))
    (λ x. second v (omega (arith, ints, x)))
    (λ x. first u x))
    (λ v. first u (omega (
      arith,
      ints,
      mul_nonneg e (l -ℤ a) pe (omega (arith, ints, u)),
      mul_nonneg d (b -ℤ m) pd (omega (arith, ints, v)),
      mul_sub d b m,
      mul_sub d m b,
    ))))
    (λ u. by_lt_z b m
    (λ v. second v (omega (
      arith,
      ints,
      mul_nonneg d (m -ℤ b) pd (omega (arith, ints, v)),
      mul_nonneg e (a -ℤ l) pe (omega (arith, ints, u)),
      mul_sub e a l,
      mul_sub e l a,
    )))
    (λ v. reach_now a d l h b e m n u g v q))
  where
    first : a <ℤ l → (d *ℤ (m -ℤ b)) ≤ℤ (e *ℤ (l -ℤ a)) → Reach a d l h b e m n
    first u x = reach_first a d l h b e m n u f lh r x

    second : b <ℤ m → (e *ℤ (l -ℤ a)) ≤ℤ (d *ℤ (m -ℤ b)) → Reach a d l h b e m n
    second v x = reach_turn a d l h b e m n (reach_first b e m n a d l h v p mn t x)

-- the first place goes the other way
reach_back : (a d l h b e m n : ℤ) → Reach (pos 0 -ℤ a) (pos 0 -ℤ d) (pos 0 -ℤ h) (pos 0 -ℤ l) b e m n → Reach a d l h b e m n
reach_back a d l h b e m n r =
    let less : (z : ℤ) → (r.w *ℤ (pos 0 -ℤ z)) ≡ (pos 0 -ℤ (r.w *ℤ z)) = λ z. omega (arith, ints, mul_sub r.w (pos 0) z) in
    record {
      w = r.w;
      k = r.k;
      some = r.some;
      from = r.from;
      to = r.to;
      left = omega (arith, ints, r.right, less a, less l, mul_sub r.k (pos 0) d);
      right = omega (arith, ints, r.left, less a, less h, mul_sub r.k (pos 0) d);
      low = r.low;
      high = r.high;
    }

both_negative : (a b c : ℤ) → ((pos 0 -ℤ a) *ℤ ((pos 0 -ℤ b) -ℤ (pos 0 -ℤ c))) ≡ (a *ℤ (b -ℤ c))
both_negative a b c = omega (
  arith,
  ints,
  sub_mul (pos 0) a ((pos 0 -ℤ b) -ℤ (pos 0 -ℤ c)),
  mul_sub a (pos 0 -ℤ b) (pos 0 -ℤ c),
  mul_sub a (pos 0) b,
  mul_sub a (pos 0) c,
  mul_sub a b c,
)

second_negative : (a b c : ℤ) → (a *ℤ ((pos 0 -ℤ b) -ℤ (pos 0 -ℤ c))) ≡ (pos 0 -ℤ (a *ℤ (b -ℤ c)))
second_negative a b c = omega (arith, ints, mul_sub a (pos 0 -ℤ b) (pos 0 -ℤ c), mul_sub a (pos 0) b, mul_sub a (pos 0) c, mul_sub a b c)

first_negative : (a b c : ℤ) → ((pos 0 -ℤ a) *ℤ (b -ℤ c)) ≡ (pos 0 -ℤ (a *ℤ (b -ℤ c)))
first_negative a b c = omega (arith, ints, sub_mul (pos 0) a (b -ℤ c))

-- what bounds that meet say of a way by its sign
start : (a d l h : ℤ) → l ≤ℤ h → pos 0 ≤ℤ d → DoSpansMeet a (a +ℤ d) l h → (l ≤ℤ (a +ℤ d)) × (a ≤ℤ h)
start a d l h o u c = (omega (arith, ints, clamps, o, u, c.second), omega (arith, ints, clamps, o, u, c.first))

end : (a d l h : ℤ) → l ≤ℤ h → d ≤ℤ pos 0 → DoSpansMeet a (a +ℤ d) l h → ((pos 0 -ℤ h) ≤ℤ ((pos 0 -ℤ a) +ℤ (pos 0 -ℤ d))) × ((pos 0 -ℤ a) ≤ℤ (pos 0 -ℤ l))
end a d l h o u c = (omega (arith, ints, clamps, o, u, c.first), omega (arith, ints, clamps, o, u, c.second))

-- the ways by their signs; each pair of conditions says that two opposite corners lie on different sides
reach : (a d l h b e m n : ℤ) → l ≤ℤ h → m ≤ℤ n → DoSpansMeet a (a +ℤ d) l h → DoSpansMeet b (b +ℤ e) m n
    → (pos 0 ≤ℤ d → pos 0 ≤ℤ e → ((e *ℤ (l -ℤ a)) ≤ℤ (d *ℤ (n -ℤ b))) × ((d *ℤ (m -ℤ b)) ≤ℤ (e *ℤ (h -ℤ a))))
    → (pos 0 ≤ℤ d → e ≤ℤ pos 0 → ((d *ℤ (m -ℤ b)) ≤ℤ (e *ℤ (l -ℤ a))) × ((e *ℤ (h -ℤ a)) ≤ℤ (d *ℤ (n -ℤ b))))
    → (d ≤ℤ pos 0 → pos 0 ≤ℤ e → ((d *ℤ (n -ℤ b)) ≤ℤ (e *ℤ (h -ℤ a))) × ((e *ℤ (l -ℤ a)) ≤ℤ (d *ℤ (m -ℤ b))))
    → (d ≤ℤ pos 0 → e ≤ℤ pos 0 → ((e *ℤ (h -ℤ a)) ≤ℤ (d *ℤ (m -ℤ b))) × ((d *ℤ (n -ℤ b)) ≤ℤ (e *ℤ (l -ℤ a))))
    → Reach a d l h b e m n
reach a d l h b e m n lh mn columns rows pp pn np nn = by_signs d e
    (λ u v. let t = pp u v in reach_up a d l h b e m n u v lh mn (start a d l h lh u columns).0
    (start a d l h lh u columns).1 (start b e m n mn v rows).0 (start b e m n mn v rows).1 t.0 t.1)
    (λ u v. let t = pn u v in
    reach_turn a d l h b e m n (reach_back b e m n a d l h
    (reach_turn _ _ _ _ _ _ _ _ (reach_up a d l h (pos 0 -ℤ b) (pos 0 -ℤ e) (pos 0 -ℤ n) (pos 0 -ℤ m) u
    (omega (arith, ints, v)) lh (omega (arith, ints, mn)) (start a d l h lh u columns).0
    (start a d l h lh u columns).1 (end b e m n mn v rows).0 (end b e m n mn v rows).1
    (omega (arith, ints, t.0, first_negative e l a, second_negative d m b))
    (omega (arith, ints, t.1, first_negative e h a, second_negative d n b))))))
    (λ u v. let t = np u v in
    reach_back a d l h b e m n (reach_up (pos 0 -ℤ a) (pos 0 -ℤ d) (pos 0 -ℤ h) (pos 0 -ℤ l) b e m n
    (omega (arith, ints, u)) v (omega (arith, ints, lh)) mn (end a d l h lh u columns).0
    (end a d l h lh u columns).1 (start b e m n mn v rows).0 (start b e m n mn v rows).1
    (omega (arith, ints, t.0, first_negative d n b, second_negative e h a))
    (omega (arith, ints, t.1, first_negative d m b, second_negative e l a))))
    (λ u v. let t = nn u v in
    reach_turn a d l h b e m n (reach_back b e m n a d l h
    (reach_turn _ _ _ _ _ _ _ _ (reach_back a d l h (pos 0 -ℤ b) (pos 0 -ℤ e) (pos 0 -ℤ n) (pos 0 -ℤ m)
    (reach_up (pos 0 -ℤ a) (pos 0 -ℤ d) (pos 0 -ℤ h) (pos 0 -ℤ l) (pos 0 -ℤ b) (pos 0 -ℤ e) (pos 0 -ℤ n)
    (pos 0 -ℤ m) (omega (arith, ints, u)) (omega (arith, ints, v)) (omega (arith, ints, lh))
    (omega (arith, ints, mn)) (end a d l h lh u columns).0 (end a d l h lh u columns).1 (end b e m n mn v rows).0
    (end b e m n mn v rows).1
    (omega (arith, ints, t.0, both_negative e h a, both_negative d m b))
    (omega (arith, ints, t.1, both_negative d n b, both_negative e l a)))))))

-- ---- the corners

-- the four turns, by the turn to the lower left corner and how they change by rows and by columns
record Corners (s : Ends) (x1 y1 x2 y2 u v : ℤ) : Type 0 where
  pub rows : turn_to s x1 y2 ≡ (turn_to s x1 y1 +ℤ u)
  pub columns : turn_to s x2 y1 ≡ (turn_to s x1 y1 -ℤ v)
  pub both : turn_to s x2 y2 ≡ ((turn_to s x1 y1 +ℤ u) -ℤ v)

corners : (s : Ends) (x1 y1 x2 y2 : ℤ) → Corners s x1 y1 x2 y2 ((s.x2 -ℤ s.x1) *ℤ (y2 -ℤ y1)) ((s.y2 -ℤ s.y1) *ℤ (x2 -ℤ x1))
corners s x1 y1 x2 y2 = record {
  rows = turn_up s x1 y1 y2;
  columns = turn_right s x1 y1 x2;
  both = turn_right s x1 y2 x2 ∙ ap (λ z. z -ℤ ((s.y2 -ℤ s.y1) *ℤ (x2 -ℤ x1))) (turn_up s x1 y1 y2);
}

-- of four numbers that are not all positive the least is not, and so on
pub record Sides (p u v : ℤ) : Type 0 where
  pub left : pos 0 <ℤ p → pos 0 <ℤ ((p +ℤ u) -ℤ v) → pos 0 <ℤ (p +ℤ u) → pos 0 <ℤ (p -ℤ v) → ⊥
  pub right : p <ℤ pos 0 → ((p +ℤ u) -ℤ v) <ℤ pos 0 → (p +ℤ u) <ℤ pos 0 → (p -ℤ v) <ℤ pos 0 → ⊥

sides_up : (p u v : ℤ) → Sides p u v → pos 0 ≤ℤ u → pos 0 ≤ℤ v → (pos 0 ≤ℤ (p +ℤ u)) × ((p -ℤ v) ≤ℤ pos 0)
sides_up p u v s f g = (
  by_lt_z (p +ℤ u) (pos 0) (λ l. absurd (s.right (omega (arith, ints, l, f, g)) (omega (arith, ints, l, f, g)) l (omega (arith, ints, l, f, g)))) (λ l. l),
  by_lt_z (pos 0) (p -ℤ v) (λ l. absurd (s.left (omega (arith, ints, l, f, g)) (omega (arith, ints, l, f, g)) (omega (arith, ints, l, f, g)) l)) (λ l. l),
)

sides_right : (p u v : ℤ) → Sides p u v → pos 0 ≤ℤ u → v ≤ℤ pos 0 → (p ≤ℤ pos 0) × (pos 0 ≤ℤ ((p +ℤ u) -ℤ v))
sides_right p u v s f g = (
  by_lt_z (pos 0) p (λ l. absurd (s.left l (omega (arith, ints, l, f, g)) (omega (arith, ints, l, f, g)) (omega (arith, ints, l, f, g)))) (λ l. l),
  by_lt_z ((p +ℤ u) -ℤ v) (pos 0) (λ l. absurd (s.right (omega (arith, ints, l, f, g)) l (omega (arith, ints, l, f, g))
      (omega (arith, ints, l, f, g)))) (λ l. l),
)

sides_left : (p u v : ℤ) → Sides p u v → u ≤ℤ pos 0 → pos 0 ≤ℤ v → (((p +ℤ u) -ℤ v) ≤ℤ pos 0) × (pos 0 ≤ℤ p)
sides_left p u v s f g = (
  by_lt_z (pos 0) ((p +ℤ u) -ℤ v) (λ l. absurd (s.left (omega (arith, ints, l, f, g)) l (omega (arith, ints, l, f, g))
      (omega (arith, ints, l, f, g)))) (λ l. l),
  by_lt_z p (pos 0) (λ l. absurd (s.right l (omega (arith, ints, l, f, g)) (omega (arith, ints, l, f, g)) (omega (arith, ints, l, f, g)))) (λ l. l),
)

sides_down : (p u v : ℤ) → Sides p u v → u ≤ℤ pos 0 → v ≤ℤ pos 0 → (pos 0 ≤ℤ (p -ℤ v)) × ((p +ℤ u) ≤ℤ pos 0)
sides_down p u v s f g = (
  by_lt_z (p -ℤ v) (pos 0) (λ l. absurd (s.right (omega (arith, ints, l, f, g)) (omega (arith, ints, l, f, g)) (omega (arith, ints, l, f, g)) l)) (λ l. l),
  by_lt_z (pos 0) (p +ℤ u) (λ l. absurd (s.left (omega (arith, ints, l, f, g)) (omega (arith, ints, l, f, g)) l (omega (arith, ints, l, f, g)))) (λ l. l),
)

sides_of : (s : Ends) (x1 y1 x2 y2 u v : ℤ) → Corners s x1 y1 x2 y2 u v → DoesMeetRect s x1 y1 x2 y2 → Sides (turn_to s x1 y1) u v
sides_of s x1 y1 x2 y2 u v c m = record {
  left = λ f g h k. m.left f (omega (arith, ints, g, c.both)) (omega (arith, ints, h, c.rows)) (omega (arith, ints, k, c.columns));
  right = λ f g h k. m.right f (omega (arith, ints, g, c.both)) (omega (arith, ints, h, c.rows)) (omega (arith, ints, k, c.columns));
}

whole : (a b l h : ℤ) → DoSpansMeet a b l h → DoSpansMeet a (a +ℤ (b -ℤ a)) l h
whole a b l h m =
    let e : (a +ℤ (b -ℤ a)) ≡ b = omega (arith, ints) in
    let P : ℤ → Type 0 = λ z. DoSpansMeet a z l h in
    subst P (sym e) m

point_of : (s : Ends) (x1 y1 x2 y2 : ℤ) → Reach s.x1 (s.x2 -ℤ s.x1) x1 x2 s.y1 (s.y2 -ℤ s.y1) y1 y2 → InBoth s x1 y1 x2 y2
point_of s x1 y1 x2 y2 r =
    let n : ℤ = r.w -ℤ r.k in
    let h : pos 0 <ℤ (n +ℤ r.k) = omega (arith, ints, r.some) in
    let o : pos ((mean_point s n r.k h).over) ≡ r.w = over_is s n r.k h ∙ omega (arith, ints) in
    record {
      point = mean_point s n r.k h;
      on = mean_on s n r.k (omega (arith, ints, r.to)) r.from h;
      inside = record {
        left = omega (arith, ints, r.left, place r.w r.k s.x1 s.x2, ap (λ z. z *ℤ x1) o);
        right = omega (arith, ints, r.right, place r.w r.k s.x1 s.x2, ap (λ z. z *ℤ x2) o);
        low = omega (arith, ints, r.low, place r.w r.k s.y1 s.y2, ap (λ z. z *ℤ y1) o);
        high = omega (arith, ints, r.high, place r.w r.k s.y1 s.y2, ap (λ z. z *ℤ y2) o);
      };
    }
  where
    place : (w k a b : ℤ) → (((w -ℤ k) *ℤ a) +ℤ (k *ℤ b)) ≡ ((w *ℤ a) +ℤ (k *ℤ (b -ℤ a)))
    place w k a b = omega (arith, ints, sub_mul w k a, mul_sub k b a)

pub rect_to : (s : Ends) (x1 y1 x2 y2 : ℤ) → x1 ≤ℤ x2 → y1 ≤ℤ y2 → DoesMeetRect s x1 y1 x2 y2 → InBoth s x1 y1 x2 y2
rect_to s x1 y1 x2 y2 wide high m =
    let d : ℤ = s.x2 -ℤ s.x1 in
    let e : ℤ = s.y2 -ℤ s.y1 in
    let c = corners s x1 y1 x2 y2 in
    let t = sides_of s x1 y1 x2 y2 _ _ c m in
    let hy : pos 0 ≤ℤ (y2 -ℤ y1) = omega (arith, ints, high) in
    let hx : pos 0 ≤ℤ (x2 -ℤ x1) = omega (arith, ints, wide) in
    let up : pos 0 ≤ℤ d → pos 0 ≤ℤ (d *ℤ (y2 -ℤ y1)) = λ u. mul_nonneg d (y2 -ℤ y1) u hy in
    let right : pos 0 ≤ℤ e → pos 0 ≤ℤ (e *ℤ (x2 -ℤ x1)) = λ v. mul_nonneg e (x2 -ℤ x1) v hx in
    let down : d ≤ℤ pos 0 → (d *ℤ (y2 -ℤ y1)) ≤ℤ pos 0 = λ u. below d (y2 -ℤ y1) u hy in
    let left : e ≤ℤ pos 0 → (e *ℤ (x2 -ℤ x1)) ≤ℤ pos 0 = λ v. below e (x2 -ℤ x1) v hx in
    point_of s x1 y1 x2 y2 (reach s.x1 d x1 x2 s.y1 e y1 y2 wide high (whole s.x1 s.x2 x1 x2 m.columns) (whole s.y1 s.y2 y1 y2 m.rows)
    (λ u v. let q = sides_up _ _ _ t (up u) (right v) in (
      (turn_sign s x1 y2).0 (omega (arith, ints, q.0, c.rows)),
      (turn_sign s x2 y1).1 (omega (arith, ints, q.1, c.columns)),
    ))
    (λ u v. let q = sides_right _ _ _ t (up u) (left v) in ((turn_sign s x1 y1).1 q.0, (turn_sign s x2 y2).0 (omega (arith, ints, q.1, c.both))))
    (λ u v. let q = sides_left _ _ _ t (down u) (right v) in ((turn_sign s x2 y2).1 (omega (arith, ints, q.0, c.both)), (turn_sign s x1 y1).0 q.1))
    (λ u v. let q = sides_down _ _ _ t (down u) (left v) in (
      (turn_sign s x2 y1).0 (omega (arith, ints, q.0, c.columns)),
      (turn_sign s x1 y2).1 (omega (arith, ints, q.1, c.rows)),
    )))
  where
    below : (a b : ℤ) → a ≤ℤ pos 0 → pos 0 ≤ℤ b → (a *ℤ b) ≤ℤ pos 0
    below a b f g = omega (arith, ints, mul_nonneg (pos 0 -ℤ a) b (omega (arith, ints, f)) g, sub_mul (pos 0) a b)
