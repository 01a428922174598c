-- Turns and shifts, one after another.
use Rattle.std.proofs.Common.{◌≡◌, ℕ, ◌≤◌, ◌+◌, Bool, true, false, ℤ, pos, ◌+ℤ◌, cond, not, refl, arith, unsigned_abs}
use Rattle.std.proofs.lemmas.Int.{ints}
use Rattle.dpl_calls.specs.declared.figure.Corner.{Corner}
use Rattle.dpl_calls.specs.declared.placement.Placement.{Placement}
use Rattle.dpl_calls.specs.Placement.{signed, other, apply, IsNear}

abbrev pub placement : Bool → Bool → Bool → ℤ → ℤ → Placement
placement swap nx ny x y = record { swap = swap; negate_x = nx; negate_y = ny; x = x; y = y }

pub add_nothing : (z : ℤ) → z +ℤ pos 0 ≡ z
add_nothing z = omega (arith, ints)

-- a sign on a sign
signed_other : (a b : Bool) (u v w : ℤ) → signed (other a b) u +ℤ (w +ℤ signed a v) ≡ signed a (signed b u +ℤ v) +ℤ w
unfolding signed
signed_other true true u v w = omega (arith, ints)
signed_other true false u v w = omega (arith, ints)
signed_other false true u v w = omega (arith, ints)
signed_other false false u v w = omega (arith, ints)

exchanged : (b : Bool) (x y : ℤ) → cond (not b) y x ≡ cond b x y
exchanged true x y = refl
exchanged false x y = refl

pub composed_swapped : (o i : Placement) (c : Corner) (x y : ℤ) → o.swap ≡ true → x ≡ o.x +ℤ signed o.negate_x i.y →
    y ≡ o.y +ℤ signed o.negate_y i.x → apply (record {
      swap = not i.swap;
      negate_x = other o.negate_x i.negate_y;
      negate_y = other o.negate_y i.negate_x;
      x = x;
      y = y;
    }) c ≡ apply o (apply i c)
composed_swapped o i c x y s ex ey = rw (
  s,
  ex,
  ey,
  exchanged i.swap c.x c.y,
  exchanged i.swap c.y c.x,
  signed_other o.negate_x i.negate_y (cond i.swap c.x c.y) i.y o.x,
  signed_other o.negate_y i.negate_x (cond i.swap c.y c.x) i.x o.y,
) refl

pub composed_plain : (o i : Placement) (c : Corner) (x y : ℤ) → o.swap ≡ false
    → x ≡ o.x +ℤ signed o.negate_x i.x → y ≡ o.y +ℤ signed o.negate_y i.y
    → apply (record { swap = i.swap; negate_x = other o.negate_x i.negate_x; negate_y = other o.negate_y i.negate_y; x = x; y = y }) c ≡ apply o (apply i c)
composed_plain o i c x y s ex ey = rw (
  s,
  ex,
  ey,
  signed_other o.negate_x i.negate_x (cond i.swap c.y c.x) i.x o.x,
  signed_other o.negate_y i.negate_y (cond i.swap c.x c.y) i.y o.y,
) refl

pub unmoved_stays : (c : Corner) → apply (record { swap = false; negate_x = false; negate_y = false; x = pos 0; y = pos 0 }) c ≡ c
unfolding signed
unmoved_stays c = rw (add_nothing, add_nothing) refl

module _ (o i p : Placement) (nx ny : Bool) (x y : ℤ) (ex : Bool) (e : p ≡ record { swap = ex; negate_x = nx; negate_y = ny; x = x; y = y }) where
  pub swapped_at : (c : Corner) → ex ≡ not i.swap → nx ≡ other o.negate_x i.negate_y →
      ny ≡ other o.negate_y i.negate_x → o.swap ≡ true → x ≡ o.x +ℤ signed o.negate_x i.y →
      y ≡ o.y +ℤ signed o.negate_y i.x → apply p c ≡ apply o (apply i c)
  swapped_at c es enx eny s hx hy = rw (e, es, enx, eny) (composed_swapped o i c x y s hx hy)

  pub plain_at : (c : Corner) → ex ≡ i.swap → nx ≡ other o.negate_x i.negate_x → ny ≡ other o.negate_y i.negate_y →
      o.swap ≡ false → x ≡ o.x +ℤ signed o.negate_x i.x → y ≡ o.y +ℤ signed o.negate_y i.y →
      apply p c ≡ apply o (apply i c)
  plain_at c es enx eny s hx hy = rw (e, es, enx, eny) (composed_plain o i c x y s hx hy)

  pub near_at : (n m u v : ℕ) → IsNear n o → u ≤ m → v ≤ m → unsigned_abs x ≤ unsigned_abs o.x + u → unsigned_abs y ≤ unsigned_abs o.y + v → IsNear (n + m) p
  near_at n m u v h hu hv hx hy = record { x = rw e (omega (arith, hx, hu, h.x)); y = rw e (omega (arith, hy, hv, h.y)) }
