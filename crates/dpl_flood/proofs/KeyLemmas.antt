-- Keys in a list, as the leaves of a tree of least keys.
use Rattle.std.proofs.Common.{arith, ◌≡◌, ℕ, zero, suc, ◌+◌, ◌-◌, ◌*◌, ◌/◌, ◌<◌, ◌≤◌, sym, ap, ◌∙◌, subst, inl, inr, ◌⊎◌}
use Rattle.std.proofs.Common.{List, length, get_or, drop, ◌++◌}
use Rattle.std.specs.Prelude.{min, slice_index, slice_set, sum_by, All, Contains}
use Rattle.std.proofs.lemmas.Bool.{cases_eq, cases_lt}
use Rattle.std.proofs.lemmas.List.{length-set, length-drop, get_or-set_same, get_or-set_other, get_or-drop, get_or_default, get_or_past, drop-set-lt, drop-set-add, get_or-append-add, length-append}
use Rattle.std.proofs.lemmas.List.Elements.{All-append, Contains-append_left, Contains-append_right}
use Rattle.dpl_flood.specs.Queues.{never, IsSet, IsHeap, IsFirst, IsClimbing}
use Rattle.dpl_flood.proofs.TreeLemmas.{root_least, set_below, climbed, climbs, climbed_all}

-- ---- a key is written

is_set : (xs : List ℕ) (k v : ℕ) → IsSet (slice_index xs) (slice_index (slice_set xs k v)) k
is_set xs k v = record { others = λ j ne. get_or-set_other xs k j v 0 ne }

-- no number is greater than what never comes
set_most : (xs : List ℕ) (k v : ℕ) → ((j : ℕ) → slice_index xs j ≤ never) → v ≤ never → (j : ℕ) → slice_index (slice_set xs k v) j ≤ never
set_most xs k v most h j = elim (cases_eq j k) [
  | inl e ↦ elim (cases_lt k (length xs)) [
    | inl low ↦ omega (arith, ap (slice_index (slice_set xs k v)) e, get_or-set_same xs k v 0 low, h)
    | inr high ↦ omega (arith, get_or_past (slice_set xs k v) j 0 (omega (arith, e, high, length-set xs k v)))
  ]
  | inr ne ↦ omega (arith, get_or-set_other xs k j v 0 ne, most j)
]

half : (n : ℕ) → (n ≡ 2 * (n / 2)) ⊎ (n ≡ 2 * (n / 2) + 1)
half n = elim (cases_eq n (2 * (n / 2))) [
  | inl e ↦ inl e
  | inr e ↦ inr (omega (arith, e))
]

-- the key is written, and the numbers above it are not seen to yet
pub begun : (count place key : ℕ) (old : List ℕ) → IsHeap count old → place < count → key ≤ never
    → IsClimbing count place key old (slice_set old (count + place) key) (count + place)
begun count place key old p h top = record {
  sizes = length-set old (count + place) key ∙ p.sizes;
  most = set_most old (count + place) key p.most top;
  some = omega (arith, h);
  inside = omega (arith, h);
  least = λ up e. set_below count (slice_index old) (slice_index (slice_set old (count + place) key)) (count + place) up p.least (is_set old (count + place) key) (omega arith) e;
  keys = drop-set-add count old place key;
}

-- the number above is right already
pub stopped : (count place key here : ℕ) (old xs : List ℕ) → IsClimbing count place key old xs here → 1 < here
    → slice_index xs (here / 2) ≡ min (slice_index xs (2 * (here / 2))) (slice_index xs (2 * (here / 2) + 1)) → IsHeap count xs
stopped count place key here old xs c h e = record {
  sizes = c.sizes;
  most = c.most;
  least = climbed count (slice_index xs) (here / 2) (c.least (here / 2) (half here)) e;
}

-- the number above is written
pub went_up : (count place key here lesser : ℕ) (old xs : List ℕ) → IsClimbing count place key old xs here → 1 < here
    → lesser ≡ min (slice_index xs (2 * (here / 2))) (slice_index xs (2 * (here / 2) + 1))
    → IsClimbing count place key old (slice_set xs (here / 2) lesser) (here / 2)
went_up count place key here lesser old xs c h e =
    let up : ℕ = here / 2 in
    let low : 0 < up = omega (arith, h) in
    let few : up < count = omega (arith, c.inside) in
    let is : slice_index (slice_set xs up lesser) up ≡ lesser = get_or-set_same xs up lesser 0 (omega (arith, few, c.sizes)) in
    let left : slice_index (slice_set xs up lesser) (2 * up) ≡ slice_index xs (2 * up) = get_or-set_other xs up (2 * up) lesser 0 (omega (arith, low)) in
    let right : slice_index (slice_set xs up lesser) (2 * up + 1) ≡ slice_index xs (2 * up + 1) = get_or-set_other xs up (2 * up + 1) lesser 0 (omega (arith, low)) in
    record {
      sizes = length-set xs up lesser ∙ c.sizes;
      most = set_most xs up lesser c.most (omega (arith, e, c.most (2 * up)));
      some = low;
      inside = omega (arith, few);
      least = λ next q. climbs count (slice_index xs) (slice_index (slice_set xs up lesser)) up next (c.least up (half here)) (is_set xs up lesser) low few
          (omega (arith, is, left, right, e)) q;
      keys = drop-set-lt count xs up lesser few ∙ c.keys;
    }

-- nothing stands above the root
pub at_root : (count place key here : ℕ) (old xs : List ℕ) → IsClimbing count place key old xs here → here ≤ 1 → IsHeap count xs
at_root count place key here old xs c h = record {
  sizes = c.sizes;
  most = c.most;
  least = climbed_all count (slice_index xs) (c.least 0 (inr (omega (arith, h, c.some))));
}

-- ---- the least key

-- below each number is a key as great
key_below : (bound count : ℕ) (xs : List ℕ) → IsHeap count xs → (j : ℕ) → 2 * count ≤ j + bound → 0 < j → j < 2 * count
    → (i : ℕ) × (i < count) × (slice_index xs (count + i) ≡ slice_index xs j)
key_below zero count xs p j b h1 h2 = absurd (omega (arith, b, h2))
key_below (suc bound) count xs p j b h1 h2 = elim (cases_lt j count) [
  | inr far ↦
      let place : count + (j - count) ≡ j = omega (arith, far) in
      (j - count, omega (arith, far, h2), ap (slice_index xs) place)
  | inl near ↦ elim (cases_eq (slice_index xs j) (slice_index xs (2 * j))) [
    | inl e ↦
        let r = key_below bound count xs p (2 * j) (omega (arith, b, h1)) (omega (arith, h1)) (omega (arith, near)) in
        (r.0, r.1, r.2 ∙ sym e)
    | inr ne ↦
        let e : slice_index xs j ≡ slice_index xs (2 * j + 1) = omega (arith, ne, p.least j h1 near) in
        let r = key_below bound count xs p (2 * j + 1) (omega (arith, b, h1)) (omega arith) (omega (arith, near)) in
        (r.0, r.1, r.2 ∙ sym e)
  ]
]

-- the key of a place is that which stands behind the others
key_at : (count i d : ℕ) (xs : List ℕ) → length xs ≡ 2 * count → i < count → get_or (drop count xs) i d ≡ slice_index xs (count + i)
key_at count i d xs n h = get_or-drop count xs i d ∙ get_or_default xs (count + i) d 0 (omega (arith, n, h))

-- the root is the least key
pub root_first : (count : ℕ) (xs : List ℕ) → IsHeap count xs → 0 < count → IsFirst (drop count xs) (slice_index xs 1)
root_first count xs p some =
    let long : length (drop count xs) ≡ count = omega (arith, length-drop count xs, p.sizes) in
    let r = key_below (2 * count) count xs p 1 (omega arith) (omega arith) (omega (arith, some)) in
    record {
      one = (r.0, omega (arith, long, r.1), key_at count r.0 (slice_index xs 1) xs p.sizes r.1 ∙ r.2);
      least = λ i d h. omega (
        arith,
        key_at count i d xs p.sizes (omega (arith, h, long)),
        root_least count (slice_index xs) p.least i (omega (arith, h, long)),
      );
    }

-- a place that has it
pub place_first : (count here : ℕ) (xs : List ℕ) → IsHeap count xs → 0 < count → count ≤ here → here < 2 * count
    → slice_index xs here ≡ slice_index xs 1 → IsFirst (drop count xs) (slice_index (drop count xs) (here - count))
place_first count here xs p some low high e =
    let place : count + (here - count) ≡ here = omega (arith, low) in
    let is : slice_index (drop count xs) (here - count) ≡ slice_index xs 1 = key_at count (here - count) 0 xs p.sizes (omega (arith, low, high)) ∙ ap (slice_index xs) place ∙ e in
    subst (IsFirst (drop count xs)) (sym is) (root_first count xs p some)

-- ---- all keys are cleared

-- how far the keys are, taken together, before what never comes
abbrev pub below_never : List ℕ → ℕ
below_never xs = sum_by (λ key. never - key) xs

-- ---- one list of keys behind another

pub first_left : (xs ys : List ℕ) (key : ℕ) → IsFirst xs key → All (λ y. key ≤ y) ys → IsFirst (xs ++ ys) key
first_left xs ys key first least = record {
  one = Contains-append_left xs ys key first.one;
  least = All-append (λ x. key ≤ x) xs ys first.least least;
}

pub first_right : (xs ys : List ℕ) (key : ℕ) → IsFirst ys key → All (λ x. key ≤ x) xs → IsFirst (xs ++ ys) key
first_right xs ys key first least = record {
  one = Contains-append_right xs ys key first.one;
  least = All-append (λ x. key ≤ x) xs ys least first.least;
}

-- a key at a place of the list behind
pub first_behind : (xs ys : List ℕ) (place : ℕ) → IsFirst ys (slice_index ys place) → All (λ x. slice_index ys place ≤ x) xs
    → IsFirst (xs ++ ys) (slice_index (xs ++ ys) (length xs + place))
first_behind xs ys place first least =
    subst (IsFirst (xs ++ ys)) (sym (get_or-append-add xs ys place 0)) (first_right xs ys (slice_index ys place) first least)

-- where the least key of the list behind is less, so is the first of it
pub no_less : (xs ys : List ℕ) (place a b : ℕ) → place < length ys → IsFirst ys (slice_index ys place) → All (λ x. a ≤ x) xs
    → (0 < length ys → Contains ys b) → b ≤ a → All (λ x. slice_index ys place ≤ x) xs
no_less xs ys place a b inside first all one le i d h =
    let there : Contains ys b = one (omega (arith, inside)) in
    omega (arith, le, all i d h, first.least there.0 b there.1, there.2)

-- The lesser of the least keys of both, of which one is never where a list has none.
pub first_of_both : (xs ys : List ℕ) (a b least : ℕ) → 0 < length (xs ++ ys) → least ≡ min a b
    → All (λ x. a ≤ x) xs → (0 < length xs → Contains xs a) → (length xs ≡ 0 → a ≡ never) → All (λ x. x ≤ never) xs
    → All (λ y. b ≤ y) ys → (0 < length ys → Contains ys b) → (length ys ≡ 0 → b ≡ never) → All (λ y. y ≤ never) ys
    → IsFirst (xs ++ ys) least
first_of_both xs ys a b least some is all_a one_a none_a most_a all_b one_b none_b most_b = elim (cases_eq (length xs) 0) [
  | inl none ↦
      let there : 0 < length ys = omega (arith, none, some, length-append xs ys) in
      let low : b ≤ never = most b ys most_b (one_b there) in
      right there (omega (arith, low, none_a none))
  | inr ne ↦
      let there : 0 < length xs = omega (arith, ne) in
      elim (cases_lt b a) [
        | inr high ↦ left there high
        | inl low ↦ right (behind low (most a xs most_a (one_a there))) (omega (arith, low))
      ]
]
  where
    most : (key : ℕ) (zs : List ℕ) → All (λ z. z ≤ never) zs → Contains zs key → key ≤ never
    most key zs all one = omega (arith, all one.0 key one.1, one.2)

    behind : b < a → a ≤ never → 0 < length ys
    behind low high = elim (cases_eq (length ys) 0) [
      | inl e ↦ absurd (omega (arith, none_b e, low, high))
      | inr ne ↦ omega (arith, ne)
    ]

    left : 0 < length xs → a ≤ b → IsFirst (xs ++ ys) least
    left there le = subst (IsFirst (xs ++ ys)) (let e : a ≡ least = omega (arith, is, le) in e)
        (first_left xs ys a (record { one = one_a there; least = all_a }) (λ i d h. omega (arith, le, all_b i d h)))

    right : 0 < length ys → b ≤ a → IsFirst (xs ++ ys) least
    right there le = subst (IsFirst (xs ++ ys)) (let e : b ≡ least = omega (arith, is, le) in e)
        (first_right xs ys b (record { one = one_b there; least = all_b }) (λ i d h. omega (arith, le, all_a i d h)))
