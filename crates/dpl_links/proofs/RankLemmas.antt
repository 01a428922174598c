-- What the order of the links of one clash says, number by number.
use Rattle.std.proofs.Common.{arith, ◌≡◌, ℕ, ◌<◌, ◌≤◌, false, Ordering, Less, Equal, Greater}
use Rattle.std.specs.Ordering.{nat_cmp, is_lt, ordering_then, MatchOrdering}
use Rattle.std.specs.Cmp.{ranks}
use Rattle.dpl_links.specs.declared.linking.Link.{Link}
use Rattle.dpl_links.specs.Links.{IsUpTo}

-- the two numbers compare so, and those that come after them no less
first_up_to : (x y : ℕ) (r s : Ordering) → MatchOrdering r (y < x) (y ≡ x) (x < y) → is_lt (ordering_then r s) ≡ false → x ≤ y
first_up_to x y Less s h e = cc
first_up_to x y Equal s h e = omega (arith, h)
first_up_to x y Greater s h e = omega (arith, h)

rest_up_to : (x y : ℕ) (r s : Ordering) → MatchOrdering r (y < x) (y ≡ x) (x < y) → x ≡ y → is_lt (ordering_then r s) ≡ false → is_lt s ≡ false
rest_up_to x y Less s h same e = cc
rest_up_to x y Equal s h same e = e
rest_up_to x y Greater s h same e = absurd (omega (arith, h, same))

up_to : (x y : ℕ) (r : Ordering) → MatchOrdering r (y < x) (y ≡ x) (x < y) → is_lt r ≡ false → x ≤ y
up_to x y Less h e = cc
up_to x y Equal h e = omega (arith, h)
up_to x y Greater h e = omega (arith, h)

pub by_gap : (l m : Link) → IsUpTo l m → l.gap ≤ m.gap
by_gap l m e = first_up_to l.gap m.gap (nat_cmp m.gap l.gap) _ (ranks m.gap l.gap) e

after_gap : (l m : Link) → IsUpTo l m → l.gap ≡ m.gap
    → is_lt (ordering_then (nat_cmp m.corner l.corner) (ordering_then (nat_cmp m.a l.a) (nat_cmp m.b l.b))) ≡ false
after_gap l m e gap = rest_up_to l.gap m.gap (nat_cmp m.gap l.gap) _ (ranks m.gap l.gap) gap e

after_corner : (l m : Link) → IsUpTo l m → l.gap ≡ m.gap → l.corner ≡ m.corner
    → is_lt (ordering_then (nat_cmp m.a l.a) (nat_cmp m.b l.b)) ≡ false
after_corner l m e gap corner =
    rest_up_to l.corner m.corner (nat_cmp m.corner l.corner) _ (ranks m.corner l.corner) corner (after_gap l m e gap)

pub by_corner : (l m : Link) → IsUpTo l m → l.gap ≡ m.gap → l.corner ≤ m.corner
by_corner l m e gap = first_up_to l.corner m.corner (nat_cmp m.corner l.corner) _ (ranks m.corner l.corner) (after_gap l m e gap)

pub by_first : (l m : Link) → IsUpTo l m → l.gap ≡ m.gap → l.corner ≡ m.corner → l.a ≤ m.a
by_first l m e gap corner = first_up_to l.a m.a (nat_cmp m.a l.a) _ (ranks m.a l.a) (after_corner l m e gap corner)

pub by_second : (l m : Link) → IsUpTo l m → l.gap ≡ m.gap → l.corner ≡ m.corner → l.a ≡ m.a → l.b ≤ m.b
by_second l m e gap corner first = up_to l.b m.b (nat_cmp m.b l.b) (ranks m.b l.b)
    (rest_up_to l.a m.a (nat_cmp m.a l.a) (nat_cmp m.b l.b) (ranks m.a l.a) first (after_corner l m e gap corner))
