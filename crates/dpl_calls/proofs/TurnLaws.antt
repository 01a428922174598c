-- What turns and mirrors do together.
use Rattle.std.proofs.Common.{◌≡◌, ◌⊎◌, inl, inr, ℕ, ◌+◌, ◌<◌, Bool, true, false, cond, not, ◌==◌, ℤ, pos, ◌<ℤ◌, ◌≤ℤ◌, refl, ap, arith, unsigned_abs}
use Rattle.std.specs.Prelude.{int_lt}
use Rattle.std.proofs.Math.IntN.{neg_ℤ, neg_ℤ-neg_ℤ}
use Rattle.std.proofs.lemmas.Int.{ints}
use Rattle.dpl_calls.specs.declared.figure.Corner.{Corner}
use Rattle.dpl_calls.specs.Parts.{corner}
use Rattle.dpl_calls.specs.Rotations.{quarter_left}
use Rattle.dpl_list.proofs.Integers.{not_less, no_less_test, is_less, less_test}
use Rattle.dpl_calls.proofs.CleanParts.{positive}
use Rattle.dpl_calls.proofs.Scaling.{zero_of}

-- a turn by the answers of its three tests
abbrev pub turn_by : Bool → Bool → Bool → Corner → Corner
turn_by p q r c = cond p (cond q (corner (neg_ℤ c.x) (neg_ℤ c.y)) c) (cond r (corner c.y (neg_ℤ c.x)) (corner (neg_ℤ c.y) c.x))

same_corner : (a b x y : ℤ) → a ≡ x → b ≡ y → corner a b ≡ corner x y
same_corner a b x y e f = rw (e, f) refl

-- ---- where a turn takes the x axis

upright : (x y : ℤ) → (x ≡ pos 0) ⊎ (y ≡ pos 0) → 0 < unsigned_abs y → x ≡ pos 0
upright x y (inl e) h = e
upright x y (inr e) h = absurd (omega (arith, ints))

pub directed : (x y : ℤ) → (x ≡ pos 0) ⊎ (y ≡ pos 0)
    → turn_by (unsigned_abs y == 0) (int_lt x (pos 0)) (int_lt y (pos 0)) (corner (pos (unsigned_abs x + unsigned_abs y)) (pos 0)) ≡ corner x y
directed x y on = by (unsigned_abs y == 0) refl (int_lt x (pos 0)) refl (int_lt y (pos 0)) refl where
  by : (p : Bool) → (unsigned_abs y == 0) ≡ p → (q : Bool) → int_lt x (pos 0) ≡ q → (r : Bool) → int_lt y (pos 0) ≡ r
      → turn_by p q r (corner (pos (unsigned_abs x + unsigned_abs y)) (pos 0)) ≡ corner x y
  by true e true f r g =
      let z : unsigned_abs y ≡ 0 = zero_of (unsigned_abs y) e in
      let l : x <ℤ pos 0 = is_less x (pos 0) f in
      same_corner (neg_ℤ (pos (unsigned_abs x + unsigned_abs y))) (neg_ℤ (pos 0)) x y (omega (arith, ints)) (omega (arith, ints))
  by true e false f r g =
      let z : unsigned_abs y ≡ 0 = zero_of (unsigned_abs y) e in
      let l : pos 0 ≤ℤ x = not_less x (pos 0) f in
      same_corner (pos (unsigned_abs x + unsigned_abs y)) (pos 0) x y (omega (arith, ints)) (omega (arith, ints))
  by false e q f true g =
      let z : x ≡ pos 0 = upright x y on (positive (unsigned_abs y) e) in
      let l : y <ℤ pos 0 = is_less y (pos 0) g in
      same_corner (pos 0) (neg_ℤ (pos (unsigned_abs x + unsigned_abs y))) x y (omega (arith, ints)) (omega (arith, ints))
  by false e q f false g =
      let z : x ≡ pos 0 = upright x y on (positive (unsigned_abs y) e) in
      let l : pos 0 ≤ℤ y = not_less y (pos 0) g in
      same_corner (neg_ℤ (pos 0)) (pos (unsigned_abs x + unsigned_abs y)) x y (omega (arith, ints)) (omega (arith, ints))

-- ---- the sense of rotation

pub sense_kept : (p q r : Bool) (c : Corner) → turn_by p q r (quarter_left c) ≡ quarter_left (turn_by p q r c)
sense_kept true true r c = refl
sense_kept true false r c = refl
sense_kept false q true c = rw (neg_ℤ-neg_ℤ c.x, neg_ℤ-neg_ℤ c.y) refl
sense_kept false q false c = refl

pub mirrored_sense : (x y : ℤ) → corner (neg_ℤ (neg_ℤ y)) x ≡ corner y (neg_ℤ (neg_ℤ x))
mirrored_sense x y = rw (neg_ℤ-neg_ℤ x, neg_ℤ-neg_ℤ y) refl

-- ---- a turn and its opposite

undone : (p q r s t : Bool) (c : Corner) → s ≡ p → (p ≡ false → t ≡ not r) → turn_by s q t (turn_by p q r c) ≡ c
undone true true r s t c e f = rw (e, neg_ℤ-neg_ℤ c.x, neg_ℤ-neg_ℤ c.y) refl
undone true false r s t c e f = rw e refl
undone false q true s t c e f = rw (e, f refl, neg_ℤ-neg_ℤ c.x) refl
undone false q false s t c e f = rw (e, f refl, neg_ℤ-neg_ℤ c.y) refl

same_size : (y : ℤ) → unsigned_abs (neg_ℤ y) ≡ unsigned_abs y
same_size y = omega (arith, ints)

other_side : (y : ℤ) → (unsigned_abs y == 0) ≡ false → int_lt (neg_ℤ y) (pos 0) ≡ not (int_lt y (pos 0))
other_side y h = by (int_lt y (pos 0)) refl where
  by : (b : Bool) → int_lt y (pos 0) ≡ b → int_lt (neg_ℤ y) (pos 0) ≡ not b
  by true e =
      let l : y <ℤ pos 0 = is_less y (pos 0) e in
      no_less_test (neg_ℤ y) (pos 0) (omega (arith, ints))
  by false e =
      let l : pos 0 ≤ℤ y = not_less y (pos 0) e in
      let s : 0 < unsigned_abs y = positive (unsigned_abs y) h in
      less_test (neg_ℤ y) (pos 0) (omega (arith, ints))

pub opposite : (x y : ℤ) (c : Corner) → turn_by (unsigned_abs (neg_ℤ y) == 0) (int_lt x (pos 0))
    (int_lt (neg_ℤ y) (pos 0)) (turn_by (unsigned_abs y == 0) (int_lt x (pos 0)) (int_lt y (pos 0)) c) ≡ c
opposite x y c = undone (unsigned_abs y == 0) (int_lt x (pos 0)) (int_lt y (pos 0)) (unsigned_abs (neg_ℤ y) == 0)
    (int_lt (neg_ℤ y) (pos 0)) c (ap (λ (n : ℕ). n == 0) (same_size y)) (other_side y)
