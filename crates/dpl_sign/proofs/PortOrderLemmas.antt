-- The order of ports is a strict total order.
use Rattle.std.proofs.Common.{arith, ◌≡◌, ◌≢◌, ℕ, ◌+◌, ◌*◌, ◌%◌, ◌==◌, ◌<◌, refl, sym, ap, ◌∙◌, inl, inr, ◌⊎◌, true, false, lit<}
use Rattle.std.specs.Ordering.{nat_cmp, int_cmp, on, then_cmp, ordering_then, ordering_reverse}
use Rattle.std.specs.declared.cmp.Ordering.{Ordering}
use Rattle.std.specs.declared.cmp.Ordering.TheVariants.{Less, Equal, Greater}
use Rattle.std.specs.Cmp.{IsTotalOrder, nat_cmp_is}
use Rattle.std.proofs.lemmas.Cmp.{ranked, by_ranked, nat_cmp_total, int_cmp_total, on_total, then_total, tied_itself}
use Rattle.std.proofs.lemmas.Bool.{cases_Bool, cond-true, cond-false, both_ways}
use Rattle.dpl_sign.specs.declared.ports.Port.{Port}
use Rattle.dpl_sign.specs.Sides.{is_corner}
use Rattle.dpl_sign.specs.PortOrder.{fraction_cmp, rise, run, slope_cmp, port_cmp, StandsBefore}
use Rattle.dpl_sign.proofs.Slopes.{cross_trans, cross_same_trans, cross_lt_same}

-- a fraction that is not 0 / 0
pub record Fraction : Type 0 where
  pub top : ℕ
  pub bottom : ℕ
  pub some : 0 < top + bottom

abbrev compare : Fraction → Fraction → Ordering
compare x y = fraction_cmp x.top x.bottom y.top y.bottom

fraction_trans : (x y z : Fraction) → compare x y ≡ Less → compare y z ≡ Less → compare x z ≡ Less
fraction_trans x y z h k =
    let a : x.top * y.bottom < y.top * x.bottom = ranked _ _ Less (sym h) in
    let b : y.top * z.bottom < z.top * y.bottom = ranked _ _ Less (sym k) in
    sym (nat_cmp_is _ _ Less (cross_trans x.top x.bottom y.top y.bottom z.top z.bottom a b))

fraction_less : (x y z : Fraction) → x.top * y.bottom ≡ y.top * x.bottom → y.top * z.bottom < z.top * y.bottom → x.top * z.bottom < z.top * x.bottom
fraction_less x y z e l =
    let turned : z.bottom * y.top < y.bottom * z.top = omega (arith, l) in
    let same : y.bottom * x.top ≡ x.bottom * y.top = omega (arith, e) in
    let k : z.bottom * x.top < x.bottom * z.top = cross_lt_same z.bottom z.top y.bottom y.top x.bottom x.top (omega (arith, x.some)) turned same in
    omega (arith, k)

fraction_congr : (x y z : Fraction) → compare x y ≡ Equal → compare x z ≡ compare y z
fraction_congr x y z h =
    let e : x.top * y.bottom ≡ y.top * x.bottom = ranked _ _ Equal (sym h) in
    by_ranked _ _ _ (compare y z) (ranked _ _ (compare y z) refl)
    (λ o l. sym (nat_cmp_is (x.top * z.bottom) (z.top * x.bottom) Less (fraction_less x y z e l)) ∙ sym o)
    (λ o l. sym (nat_cmp_is _ _ Equal (cross_same_trans x.top x.bottom y.top y.bottom z.top z.bottom y.some e l)) ∙ sym o)
    (λ o l. sym (nat_cmp_is _ _ Greater (cross_lt_same z.top z.bottom y.top y.bottom x.top x.bottom x.some l (sym e))) ∙ sym o)

fraction_total : IsTotalOrder compare
fraction_total = record { antisymm = λ x y. nat_cmp_total.antisymm (x.top * y.bottom) (y.top * x.bottom); trans = fraction_trans; congr = fraction_congr }

direction : (p : Port) → is_corner p.side ≡ true → 0 < rise p + run p
direction p corner = elim (cases_Bool (p.side % 4 == 0)) [
  | inl t ↦ omega (arith, p.direction corner, cond-true (p.side % 4 == 0) p.dy p.dx t, cond-true (p.side % 4 == 0) p.dx p.dy t)
  | inr t ↦ omega (arith, p.direction corner, cond-false (p.side % 4 == 0) p.dy p.dx t, cond-false (p.side % 4 == 0) p.dx p.dy t)
]

flat : (p : Port) → is_corner p.side ≡ false → (rise p ≡ 0) × (run p ≡ 0)
flat p side = elim (cases_Bool (p.side % 4 == 0)) [
  | inl t ↦ (
    omega (arith, p.no_direction side, cond-true (p.side % 4 == 0) p.dy p.dx t),
    omega (arith, p.no_direction side, cond-true (p.side % 4 == 0) p.dx p.dy t),
  )
  | inr t ↦ (
    omega (arith, p.no_direction side, cond-false (p.side % 4 == 0) p.dy p.dx t),
    omega (arith, p.no_direction side, cond-false (p.side % 4 == 0) p.dx p.dy t),
  )
]

-- the fraction of a port's direction, and one for all ports on sides
fraction_at : (p : Port) → (is_corner p.side ≡ true) ⊎ (is_corner p.side ≡ false) → Fraction
fraction_at p (inl corner) = record { top = rise p; bottom = run p; some = direction p corner }
fraction_at p (inr side) = record { top = 0; bottom = 1; some = lit< tt }

fraction_of : Port → Fraction
fraction_of p = fraction_at p (cases_Bool (is_corner p.side))

slope_at : (p q : Port) (c : (is_corner p.side ≡ true) ⊎ (is_corner p.side ≡ false)) (d : (is_corner q.side ≡ true) ⊎ (is_corner q.side ≡ false))
    → p.side ≡ q.side → compare (fraction_at p c) (fraction_at q d) ≡ slope_cmp p q
unfolding fraction_at
slope_at p q (inl c) (inl d) e = refl
slope_at p q (inl c) (inr d) e = absurd (both_ways _ d (ap is_corner (sym e) ∙ c))
slope_at p q (inr c) (inl d) e = absurd (both_ways _ c (ap is_corner e ∙ d))
slope_at p q (inr c) (inr d) e =
    let one = flat p c in
    let two = flat q d in
    nat_cmp_is (rise p * run q) (rise q * run p) Equal (omega (arith, ap (λ x. x * run q) one.0, ap (λ x. x * run p) two.0))

pub then_same : (o a b : Ordering) → (o ≡ Equal → a ≡ b) → ordering_then o a ≡ ordering_then o b
then_same Less a b h = refl
then_same Equal a b h = h refl
then_same Greater a b h = refl

-- a port and an edge
abbrev Place : Type 0
Place = Port × ℕ

abbrev in_parts : Place → Place → Ordering
in_parts = then_cmp (on (λ (x : Place). x.0.side) nat_cmp)
    (then_cmp (on (λ (x : Place). x.0.key) int_cmp) (then_cmp (on (λ (x : Place). fraction_of x.0) compare)
    (on (λ (x : Place). x.1) nat_cmp)))

parts_total : IsTotalOrder in_parts
parts_total = then_total (on_total (λ (x : Place). x.0.side) nat_cmp_total)
    (then_total (on_total (λ (x : Place). x.0.key) int_cmp_total)
    (then_total (on_total (λ (x : Place). fraction_of x.0) fraction_total)
    (on_total (λ (x : Place). x.1) nat_cmp_total)))

parts_are : (x y : Place) → in_parts x y ≡ port_cmp x.0 x.1 y.0 y.1
unfolding fraction_of
parts_are x y = then_same (nat_cmp x.0.side y.0.side) _ _ (λ o.
    let sides : x.0.side ≡ y.0.side = ranked _ _ Equal (sym o) in
    ap (λ s. ordering_then (int_cmp x.0.key y.0.key) (ordering_then s (nat_cmp x.1 y.1))) (slope_at x.0 y.0 _ _ sides))

-- ports with the numbers of their edges are in a total order
pub port_total : IsTotalOrder (λ (x : Place) (y : Place). port_cmp x.0 x.1 y.0 y.1)
port_total = record {
  antisymm = λ x y. sym (parts_are x y) ∙ parts_total.antisymm x y ∙ ap ordering_reverse (parts_are y x);
  trans = λ x y z h k. sym (parts_are x z) ∙ parts_total.trans x y z (parts_are x y ∙ h) (parts_are y z ∙ k);
  congr = λ x y z h. sym (parts_are x z) ∙ parts_total.congr x y z (parts_are x y ∙ h) ∙ parts_are y z;
}

-- no port stands before itself
pub not_itself : (p : Port) (e : ℕ) → StandsBefore p e p e → ⊥
not_itself p e h =
    let k : port_cmp p e p e ≡ Equal = tied_itself port_total (p, e) in
    cc

-- what stands before an earlier port stands before the later one
pub before_trans : (p q r : Port) (e f g : ℕ) → StandsBefore p e q f → StandsBefore q f r g → StandsBefore p e r g
before_trans p q r e f g h k = port_total.trans (p, e) (q, f) (r, g) h k

last_decides : (o a : Ordering) → ordering_then o a ≡ Equal → a ≡ Equal
last_decides Less a h = absurd (cc)
last_decides Equal a h = h
last_decides Greater a h = absurd (cc)

tie_is_one : (p q : Port) (e f : ℕ) → port_cmp p e q f ≡ Equal → e ≡ f
tie_is_one p q e f h = ranked e f Equal (sym (last_decides (slope_cmp p q) _ (last_decides (int_cmp p.key q.key) _ (last_decides (nat_cmp p.side q.side) _ h))))

total_by : (p q : Port) (e f : ℕ) → e ≢ f → (o : Ordering) → port_cmp p e q f ≡ o → StandsBefore p e q f ⊎ StandsBefore q f p e
total_by p q e f ne Less h = inl h
total_by p q e f ne Equal h = absurd (ne (tie_is_one p q e f h))
total_by p q e f ne Greater h = inr (port_total.antisymm (q, f) (p, e) ∙ ap ordering_reverse h)

-- of two edges at one node one stands before the other
pub before_total : (p q : Port) (e f : ℕ) → e ≢ f → StandsBefore p e q f ⊎ StandsBefore q f p e
before_total p q e f ne = total_by p q e f ne (port_cmp p e q f) refl
