-- Where two segments have more than one point in common.
use Rattle.std.proofs.Common.{arith, ◌≡◌, ◌≢◌, ℕ, ◌+◌, ℤ, pos, ◌≤ℤ◌, ◌<ℤ◌, ◌+ℤ◌, ◌*ℤ◌, sym, ap, ◌∙◌, ◌⊎◌, inl, inr}
use Rattle.std.specs.Int.{int_max, int_min}
use Rattle.std.proofs.lemmas.Int.{ints, clamps, by_lt_z}
use Rattle.dpl_euler.specs.Points.{Ends, Point, IsAt, IsOn}
use Rattle.dpl_euler.proofs.ProductLemmas.{mul_comm, mul_moved, mul_le, same_from_mul, zero_from_mul}
use Rattle.dpl_euler.proofs.PointLemmas.{turn_to, turn_of, turn_step, turn_other, turn_first, turn_second}
use Rattle.dpl_euler.proofs.PointLemmas.{over_positive, within_bounds, on_line, turns_balance}
use Rattle.dpl_euler.proofs.MeetingLemmas.{DoMeet, shared, middle_columns, middle_rows, along}
use Rattle.dpl_list.proofs.Integers.{same_or_not}

abbrev pub DoSpansOverlap : ℤ → ℤ → ℤ → ℤ → Type 0
DoSpansOverlap a1 a2 b1 b2 = int_max (int_min a1 a2) (int_min b1 b2) <ℤ int_min (int_max a1 a2) (int_max b1 b2)

pub record DoOverlap (s t : Ends) : Type 0 where
  pub meet : DoMeet s t
  pub first : turn_to s t.x1 t.y1 ≡ pos 0
  pub second : turn_to s t.x2 t.y2 ≡ pos 0
  pub spans : DoSpansOverlap s.x1 s.x2 t.x1 t.x2 ⊎ DoSpansOverlap s.y1 s.y2 t.y1 t.y2

-- a point that both have and that is an end of neither
pub record Inner (s t : Ends) : Type 0 where
  pub point : Point
  pub first : IsOn s point
  pub second : IsOn t point
  pub not_first : ¬ IsAt point s.x1 s.y1
  pub not_second : ¬ IsAt point s.x2 s.y2

overlap_apart : (a1 a2 b1 b2 : ℤ) → DoSpansOverlap a1 a2 b1 b2
    → (a1 ≢ a2) × (b1 ≢ b2) × (shared a1 a2 b1 b2 ≢ (pos 2 *ℤ a1)) × (shared a1 a2 b1 b2 ≢ (pos 2 *ℤ a2))
overlap_apart a1 a2 b1 b2 h =
    let low : int_min a1 a2 <ℤ int_max a1 a2 = omega (arith, ints, clamps, h) in
    let low_b : int_min b1 b2 <ℤ int_max b1 b2 = omega (arith, ints, clamps, h) in
    let least : (pos 2 *ℤ int_min a1 a2) <ℤ shared a1 a2 b1 b2 = omega (arith, ints, clamps, h) in
    let most : shared a1 a2 b1 b2 <ℤ (pos 2 *ℤ int_max a1 a2) = omega (arith, ints, clamps, h) in
    (two a1 a2 low, two b1 b2 low_b, first a1 a2 _ least most, second a1 a2 _ least most)
  where
    two : (a b : ℤ) → int_min a b <ℤ int_max a b → a ≢ b
    two a b h e = omega (arith, ints, clamps, h, e)

    first : (a b w : ℤ) → (pos 2 *ℤ int_min a b) <ℤ w → w <ℤ (pos 2 *ℤ int_max a b) → w ≢ (pos 2 *ℤ a)
    first a b w f g e = omega (arith, ints, clamps, f, g, e)

    second : (a b w : ℤ) → (pos 2 *ℤ int_min a b) <ℤ w → w <ℤ (pos 2 *ℤ int_max a b) → w ≢ (pos 2 *ℤ b)
    second a b w f g e = omega (arith, ints, clamps, f, g, e)

-- a place whose double is not the middle is not the point's
not_there : (o x w a : ℤ) → pos 0 <ℤ o → (pos 2 *ℤ x) ≡ (o *ℤ w) → w ≢ (pos 2 *ℤ a) → x ≢ (o *ℤ a)
not_there o x w a ho h apart e = apart (same_from_mul o w (pos 2 *ℤ a) ho (sym h ∙ ap (λ z. pos 2 *ℤ z) e ∙ twice o a))
  where
    twice : (o a : ℤ) → (pos 2 *ℤ (o *ℤ a)) ≡ (o *ℤ (pos 2 *ℤ a))
    twice o a = omega (arith, ints, mul_comm o (pos 2 *ℤ a), mul_moved (pos 2) o a)

pub inner_from : (s t : Ends) → DoOverlap s t → Inner s t
inner_from s t d =
    let flat : turn_of s t ≡ pos 0 = omega (arith, ints, turn_step s t, d.first, d.second) in
    let here = along t s d.meet.also (turn_other s t ∙ omega (arith, ints, flat)) in
    elim d.spans [
      | inl h ↦
          let a = overlap_apart s.x1 s.x2 t.x1 t.x2 h in
          let m = middle_columns s t d.meet.columns a.0 a.1 here.0 here.1 in
          record {
            point = m.point;
            first = m.first;
            second = m.second;
            not_first = λ at. not_there (pos m.point.over) m.point.x (shared s.x1 s.x2 t.x1 t.x2) s.x1 (over_positive m.point) m.middle a.2 at.x;
            not_second = λ at. not_there (pos m.point.over) m.point.x (shared s.x1 s.x2 t.x1 t.x2) s.x2 (over_positive m.point) m.middle a.3 at.x;
          }
      | inr h ↦
          let a = overlap_apart s.y1 s.y2 t.y1 t.y2 h in
          let m = middle_rows s t d.meet.rows a.0 a.1 here.0 here.1 in
          record {
            point = m.point;
            first = m.first;
            second = m.second;
            not_first = λ at. not_there (pos m.point.over) m.point.y (shared s.y1 s.y2 t.y1 t.y2) s.y1 (over_positive m.point) m.middle a.2 at.y;
            not_second = λ at. not_there (pos m.point.over) m.point.y (shared s.y1 s.y2 t.y1 t.y2) s.y2 (over_positive m.point) m.middle a.3 at.y;
          }
    ]

-- ---- the other way

-- a point that is an end of the segment
abbrev pub IsEndOf : Ends → ℤ → ℤ → Type 0
IsEndOf s x y = ((s.x1 ≡ x) × (s.y1 ≡ y)) ⊎ ((s.x2 ≡ x) × (s.y2 ≡ y))

-- two different points of which one is an end of both
overlap_spans : (o p x a1 a2 b1 b2 : ℤ) → pos 0 <ℤ o → p ≢ (o *ℤ x) → (a1 ≡ x) ⊎ (a2 ≡ x)
    → (b1 ≡ x) ⊎ (b2 ≡ x) → (o *ℤ int_min a1 a2) ≤ℤ p → p ≤ℤ (o *ℤ int_max a1 a2) → (o *ℤ int_min b1 b2) ≤ℤ p
    → p ≤ℤ (o *ℤ int_max b1 b2) → DoSpansOverlap a1 a2 b1 b2
overlap_spans o p x a1 a2 b1 b2 ho apart ea eb f g h k =
    let ia = in_range a1 a2 ea in
    let ib = in_range b1 b2 eb in
    by_lt_z p (o *ℤ x)
    (λ l. wider (int_min a1 a2) (int_max a1 a2) (int_min b1 b2) (int_max b1 b2) x ia.1 ib.1
    (inl (under (int_min a1 a2) l f, under (int_min b1 b2) l h)) ia.0 ib.0)
    (λ l. let m : (o *ℤ x) <ℤ p = omega (arith, ints, l, apart) in
    wider (int_min a1 a2) (int_max a1 a2) (int_min b1 b2) (int_max b1 b2) x ia.1 ib.1
    (inr (above (int_max a1 a2) m g, above (int_max b1 b2) m k)) ia.0 ib.0)
  where
    in_range : (a b : ℤ) → (a ≡ x) ⊎ (b ≡ x) → (int_min a b ≤ℤ x) × (x ≤ℤ int_max a b)
    in_range a b e = elim e [
      | inl q ↦ (omega (arith, ints, clamps, q), omega (arith, ints, clamps, q))
      | inr q ↦
          (omega (arith, ints, clamps, q), omega (arith, ints, clamps, q))
    ]

    under : (low : ℤ) → p <ℤ (o *ℤ x) → (o *ℤ low) ≤ℤ p → low <ℤ x
    under low l f = by_lt_z low x (λ q. q) (λ q. absurd (omega (arith, ints, l, f, mul_le o x low (omega (arith, ints, ho)) q)))

    above : (high : ℤ) → (o *ℤ x) <ℤ p → p ≤ℤ (o *ℤ high) → x <ℤ high
    above high l f = by_lt_z x high (λ q. q) (λ q. absurd (omega (arith, ints, l, f, mul_le o high x (omega (arith, ints, ho)) q)))

    wider : (p q r u x : ℤ) → x ≤ℤ q → x ≤ℤ u → ((p <ℤ x) × (r <ℤ x)) ⊎ ((x <ℤ q) × (x <ℤ u)) → p ≤ℤ x → r ≤ℤ x → int_max p r <ℤ int_min q u
    wider p q r u x a b c d e = elim c [ inl w ↦ omega (arith, ints, clamps, w.0, w.1, a, b) | inr w ↦ omega (arith, ints, clamps, w.0, w.1, d, e) ]

-- the point is not at the first end, so the second one has a weight
other_weighs : (t : Ends) (p : Point) (i : IsOn t p) → ¬ IsAt p t.x1 t.y1 → pos i.second ≢ pos 0
other_weighs t p i apart e = apart (record { x = at (pos p.over) p.x t.x1 t.x2 i.x; y = at (pos p.over) p.y t.y1 t.y2 i.y })
  where
    none : i.second ≡ 0
    none = omega (arith, ints, e)

    some : pos 0 <ℤ pos i.first
    some = omega (arith, ints, i.some, none)

    at : (o x a b : ℤ) → (pos (i.first + i.second) *ℤ x) ≡ (o *ℤ ((pos i.first *ℤ a) +ℤ (pos i.second *ℤ b))) → x ≡ (o *ℤ a)
    at o x a b h =
        let n : pos (i.first + i.second) ≡ pos i.first = ap pos (omega (arith, none)) in
        let sum : ((pos i.first *ℤ a) +ℤ (pos i.second *ℤ b)) ≡ (pos i.first *ℤ a) = omega (arith, ints, ap (λ z. z *ℤ b) e) in
        same_from_mul (pos i.first) x (o *ℤ a) some (ap (λ z. z *ℤ x) (sym n) ∙ h ∙ ap (λ z. o *ℤ z) sum ∙ mul_moved o (pos i.first) a)

-- the segment from its other end
abbrev swapped : Ends → Ends
swapped t = record { x1 = t.x2; y1 = t.y2; x2 = t.x1; y2 = t.y1 }

swapped_mean : (m n : ℕ) (o x a b : ℤ) → (pos (m + n) *ℤ x) ≡ (o *ℤ ((pos m *ℤ a) +ℤ (pos n *ℤ b)))
    → (pos (n + m) *ℤ x) ≡ (o *ℤ ((pos n *ℤ b) +ℤ (pos m *ℤ a)))
swapped_mean m n o x a b h =
    let total : n + m ≡ m + n = omega arith in
    let sum : ((pos m *ℤ a) +ℤ (pos n *ℤ b)) ≡ ((pos n *ℤ b) +ℤ (pos m *ℤ a)) = omega (arith, ints) in
    ap (λ (k : ℕ). pos k *ℤ x) total ∙ h ∙ ap (λ z. o *ℤ z) sum

abbrev on_swapped : (t : Ends) (p : Point) → IsOn t p → IsOn (swapped t) p
on_swapped t p i = record {
  first = i.second;
  second = i.first;
  some = omega (arith, i.some);
  x = swapped_mean i.first i.second (pos p.over) p.x t.x1 t.x2 i.x;
  y = swapped_mean i.first i.second (pos p.over) p.y t.y1 t.y2 i.y;
}

-- the point is not at the second end, so the first one has a weight
first_weighs : (t : Ends) (p : Point) (i : IsOn t p) → ¬ IsAt p t.x2 t.y2 → pos i.first ≢ pos 0
first_weighs t p i apart = other_weighs (swapped t) p (on_swapped t p i) apart

-- an end of the segment lies on its line
end_on_line : (s : Ends) (x y : ℤ) → IsEndOf s x y → turn_to s x y ≡ pos 0
end_on_line s x y e = elim e [
  | inl q ↦ sym (ap (λ z. turn_to s z s.y1) q.0 ∙ ap (λ z. turn_to s x z) q.1) ∙ turn_first s
  | inr q ↦ sym (ap (λ z. turn_to s z s.y2) q.0 ∙ ap (λ z. turn_to s x z) q.1) ∙ turn_second s
]

-- the line through two points of the other segment goes through both its ends
ends_along : (s t : Ends) (p : Point) (x y : ℤ) → IsOn s p → IsOn t p → IsEndOf s x y → IsEndOf t x y
    → ¬ IsAt p x y → (turn_to s t.x1 t.y1 ≡ pos 0) × (turn_to s t.x2 t.y2 ≡ pos 0)
ends_along s t p x y i j es et apart =
    let zero = end_on_line s x y es in
    let sum = turns_balance s t p j (on_line s p i) in
    elim et [
      | inl q ↦
          let first : turn_to s t.x1 t.y1 ≡ pos 0 = ap (λ z. turn_to s z t.y1) q.0 ∙ ap (λ z. turn_to s x z) q.1 ∙ zero in
          let weighs = other_weighs t p j (λ at. apart (record { x = at.x ∙ ap (λ z. pos p.over *ℤ z) q.0; y = at.y ∙ ap (λ z. pos p.over *ℤ z) q.1 })) in
          (first, zero_from_mul (pos j.second) (turn_to s t.x2 t.y2) weighs (omega (arith, ints, sum, ap (λ z. pos j.first *ℤ z) first)))
      | inr q ↦
          let second : turn_to s t.x2 t.y2 ≡ pos 0 = ap (λ z. turn_to s z t.y2) q.0 ∙ ap (λ z. turn_to s x z) q.1 ∙ zero in
          let weighs = first_weighs t p j (λ at. apart (record { x = at.x ∙ ap (λ z. pos p.over *ℤ z) q.0; y = at.y ∙ ap (λ z. pos p.over *ℤ z) q.1 })) in
          (zero_from_mul (pos j.first) (turn_to s t.x1 t.y1) weighs (omega (arith, ints, sum, ap (λ z. pos j.second *ℤ z) second)), second)
    ]

pub overlap_from : (s t : Ends) (p : Point) (x y : ℤ) → DoMeet s t → IsOn s p → IsOn t p → IsEndOf s x y → IsEndOf t x y → ¬ IsAt p x y → DoOverlap s t
overlap_from s t p x y m i j es et apart =
    let a = within_bounds s p i in
    let b = within_bounds t p j in
    let o = over_positive p in
    let ends = ends_along s t p x y i j es et apart in
    record {
      meet = m;
      first = ends.0;
      second = ends.1;
      spans = elim (same_or_not p.x (pos p.over *ℤ x)) [
        | inl ex ↦ inr (overlap_spans (pos p.over) p.y y s.y1 s.y2 t.y1 t.y2 o (λ ey. apart (record { x = ex; y = ey }))
            (rows s es) (rows t et) a.low a.high b.low b.high)
        | inr nx ↦ inl (overlap_spans (pos p.over) p.x x s.x1 s.x2 t.x1 t.x2 o nx (columns s es) (columns t et) a.left a.right b.left b.right)
      ];
    }
  where
    columns : (s : Ends) → IsEndOf s x y → (s.x1 ≡ x) ⊎ (s.x2 ≡ x)
    columns s e = elim e [ inl q ↦ inl q.0 | inr q ↦ inr q.0 ]

    rows : (s : Ends) → IsEndOf s x y → (s.y1 ≡ y) ⊎ (s.y2 ≡ y)
    rows s e = elim e [ inl q ↦ inl q.1 | inr q ↦ inr q.1 ]
