-- Where the sides of a polygon cross a window of a row. Those in the window suffice where no cell stands right beside it.
use Rattle.std.proofs.Common.{arith, ◌≡◌, ◌⊎◌, ℕ, zero, suc, ◌+◌, ◌%◌, ◌<◌, ◌≤◌, ℤ, pos, ◌-ℤ◌, ◌<ℤ◌, ◌≤ℤ◌, List, length}
use Rattle.std.proofs.Common.{get_or, drop, ◌∙◌, All, Any, AllPairs, Contains, refl, sym, ap, subst, inl, inr, ◌∷◌, []}
use Rattle.std.proofs.Common.{◌++◌, Bool, true, false, ◌&&◌, ◌||◌, ◌==◌, int_le, map}
use Rattle.std.specs.List.{sum_by}
use Rattle.std.specs.List.Sorted.{IsPermutation}
use Rattle.std.proofs.lemmas.Bool.{cases_lt, or_cases, or_right}
use Rattle.std.proofs.lemmas.Int.{ints, by_lt_z}
use Rattle.std.proofs.lemmas.List.{get_or-map, get_or_default, length-map, at_drop_all}
use Rattle.std.proofs.lemmas.List.Elements.{All-push, All-tail, All-head, All-weaker}
use Rattle.std.proofs.lemmas.List.Sums.{sum_by-cons, sum_by-drop_more}
use Rattle.std.proofs.lemmas.List.Sorted.{sum_by-IsPermutation}
use Rattle.dpl_index.specs.declared.bounds.Bounds.{Bounds}
use Rattle.dpl_index.specs.Meetings.{Meets, AreMeeting}
use Rattle.dpl_cell.specs.Ranges.{IsInRange}
use Rattle.dpl_cell.specs.Layers.{is_within}
use Rattle.dpl_cell.specs.declared.stretch.Stretch.{Stretch}
use Rattle.dpl_tiles.specs.Stretches.{AddsPlaces, AddsWithin, IsFramed}
use Rattle.dpl_tiles.specs.declared.side.Side.{Side}
use Rattle.dpl_tiles.specs.Sides.{AreColumnsAmong, AreCrossingsWithin, standing, stands, is_between, at_or_left, bounds_of_side}
use Rattle.dpl_list.proofs.Integers.{signed}
use Rattle.dpl_list.proofs.Lists.{some_of}
use Rattle.dpl_list.proofs.Sums.{sum_by_alike}
use Rattle.dpl_tiles.proofs.SideLemmas.{bit, left_cons, left_push}
use Rattle.dpl_tiles.proofs.PairLemmas.{left_none}

-- ---- the columns of the sides with some numbers

abbrev stands_at : List Side → ℤ → ℤ → Side → ℕ → ℕ
stands_at sides x y d i = bit (stands x y (get_or sides i d))

-- the columns of those with the first t of the numbers
pub record ColumnsSoFar (sides : List Side) (found : List ℕ) (y : ℤ) (t : ℕ) (columns : List ℤ) : Type 0 where
  pub each : (x : ℤ) (d : Side) → at_or_left x columns + sum_by (stands_at sides x y d) (drop t found) ≡ sum_by (stands_at sides x y d) found
  pub own : All (λ z. Any (λ i. (d : Side) → (get_or sides i d).column ≡ z) found) columns

pub columns_none : (sides : List Side) (found : List ℕ) (y : ℤ) → ColumnsSoFar sides found y 0 []
columns_none sides found y = record { each = λ x d. omega arith; own = λ k d l. absurd (omega arith) }

-- the side at the next number
at_number : (sides : List Side) (found : List ℕ) (t : ℕ) (s d : Side) → get_or found t 0 < length sides
    → s ≡ get_or sides (get_or found t 0) s → get_or sides (get_or found t 0) d ≡ s
at_number sides found t s d inside is = get_or_default sides (get_or found t 0) d s inside ∙ sym is

in_row : (x y : ℤ) (s : Side) (b : Bool) → is_within s.low s.high y ≡ b → bit (stands x y s) ≡ bit (int_le s.column x && b)
in_row x y s b e = ap (λ c. bit (int_le s.column x && c)) e

pub columns_yes : (sides : List Side) (found : List ℕ) (y : ℤ) (t : ℕ) (s : Side) (columns new : List ℤ)
    → ColumnsSoFar sides found y t columns → t < length found → get_or found t 0 < length sides
    → s ≡ get_or sides (get_or found t 0) s → is_within s.low s.high y ≡ true → new ≡ columns ++ s.column ∷ []
    → ColumnsSoFar sides found y (t + 1) new
columns_yes sides found y t s columns new c within inside is e f = rw f (record {
  each = λ x d. rw left_push (omega (arith, c.each x d, sum_by-drop_more (stands_at sides x y d) found t 0 within, here x d));
  own = All-push (λ z. Any (λ i. (d : Side) → (get_or sides i d).column ≡ z) found) columns s.column c.own (
    t,
    get_or found t 0,
    within,
    get_or_default found t _ 0 within,
    λ d. ap (λ (q : Side). q.column) (at_number sides found t s d inside is),
  );
}) where
  here : (x : ℤ) (d : Side) → stands_at sides x y d (get_or found t 0) ≡ bit (int_le s.column x)
  here x d = ap (λ (q : Side). bit (stands x y q)) (at_number sides found t s d inside is) ∙ in_row x y s true e ∙ ap bit (and_true (int_le s.column x)) where
    and_true : (b : Bool) → (b && true) ≡ b
    and_true true = refl
    and_true false = refl

pub columns_no : (sides : List Side) (found : List ℕ) (y : ℤ) (t : ℕ) (s : Side) (columns : List ℤ)
    → ColumnsSoFar sides found y t columns → t < length found → get_or found t 0 < length sides
    → s ≡ get_or sides (get_or found t 0) s → is_within s.low s.high y ≡ false
    → ColumnsSoFar sides found y (t + 1) columns
columns_no sides found y t s columns c within inside is e = record {
  each = λ x d. omega (arith, c.each x d, sum_by-drop_more (stands_at sides x y d) found t 0 within, here x d);
  own = c.own;
} where
  here : (x : ℤ) (d : Side) → stands_at sides x y d (get_or found t 0) ≡ 0
  here x d = ap (λ (q : Side). bit (stands x y q)) (at_number sides found t s d inside is) ∙ in_row x y s false e ∙ ap bit (and_none (int_le s.column x)) where
    and_none : (b : Bool) → (b && false) ≡ false
    and_none true = refl
    and_none false = refl

pub columns_all : (sides : List Side) (found : List ℕ) (y : ℤ) (t : ℕ) (columns : List ℤ) → length found ≤ t
    → ColumnsSoFar sides found y t columns → AreColumnsAmong sides found y columns
columns_all sides found y t columns whole c = record { each = λ x d. omega (arith, c.each x d, at_end x d); own = c.own } where
  at_end : (x : ℤ) (d : Side) → sum_by (stands_at sides x y d) (drop t found) ≡ 0
  at_end x d = at_drop_all (sum_by (stands_at sides x y d)) found t whole

-- ---- a sum over items is that over the numbers of those that count

-- the numbers, ascending, from n on of items; each other item counts for nothing
record Counted (f : Side → ℕ) (h : ℕ → ℕ) (n : ℕ) (items : List Side) (found : List ℕ) : Type 0 where
  at : (k : ℕ) (d : Side) → k < length items → h (n + k) ≡ f (get_or items k d)
  ordered : AllPairs (λ i j. i < j) found
  low : (k d : ℕ) → k < length found → n ≤ get_or found k d
  high : (k d : ℕ) → k < length found → get_or found k d < n + length items
  all : (i : ℕ) → n ≤ i → i < n + length items → Contains found i ⊎ (h i ≡ 0)

counted_next : (f : Side → ℕ) (h : ℕ → ℕ) (n : ℕ) (s : Side) (items : List Side) (found : List ℕ)
    → Counted f h n (s ∷ items) found → ((k d : ℕ) → k < length found → n < get_or found k d)
    → Counted f h (n + 1) items found
counted_next f h n s items found c past = record {
  at = λ k d l. ap h (omega arith) ∙ c.at (suc k) d (omega arith);
  ordered = c.ordered;
  low = λ k d l. let p = past k d l in omega arith;
  high = λ k d l. let p = c.high k d l in omega arith;
  all = λ i l m. c.all i (omega arith) (omega arith);
}

counted_tail : (f : Side → ℕ) (h : ℕ → ℕ) (n : ℕ) (s : Side) (items : List Side) (found : List ℕ)
    → Counted f h n (s ∷ items) (n ∷ found) → Counted f h (n + 1) items found
counted_tail f h n s items found c = record {
  at = λ k d l. ap h (omega arith) ∙ c.at (suc k) d (omega arith);
  ordered = λ i j d l m. c.ordered (suc i) (suc j) d (omega arith) (omega arith);
  low = λ k d l. let p : n < get_or found k d = c.ordered 0 (suc k) d (omega arith) (omega arith) in omega arith;
  high = λ k d l. let p : get_or found k d < n + length (s ∷ items) = c.high (suc k) d (omega arith) in omega arith;
  all = λ i l m. elim (c.all i (omega arith) (omega arith)) [ inl b ↦ inl (behind i l b) | inr e ↦ inr e ];
} where
  behind : (i : ℕ) → n + 1 ≤ i → Contains (n ∷ found) i → Contains found i
  behind i l (zero, m, e) = absurd (let g : n ≡ i = e in omega arith)
  behind i l (suc k, m, e) = (k, omega arith, e)

counted : (f : Side → ℕ) (h : ℕ → ℕ) (n : ℕ) (items : List Side) (found : List ℕ) → Counted f h n items found → sum_by h found ≡ sum_by f items
counted f h n [] [] c = refl
counted f h n [] (i ∷ is) c = absurd (let l = c.low 0 0 (omega arith) in let g = c.high 0 0 (omega arith) in omega arith)
counted f h n (s ∷ items) [] c = elim (c.all n (omega arith) (omega arith)) [
  | inl (k, l, e) ↦ absurd (omega arith)
  | inr e ↦ omega (
    arith,
    sum_by-cons f s items,
    first f h n s items [] c,
    counted f h (n + 1) items [] (counted_next f h n s items [] c (λ k d l. absurd (omega arith))),
  )
] where
  first : (f : Side → ℕ) (h : ℕ → ℕ) (n : ℕ) (s : Side) (items : List Side) (found : List ℕ) → Counted f h n (s ∷ items) found → h n ≡ f s
  first f h n s items found c = ap h (omega arith) ∙ c.at 0 s (omega arith)
counted f h n (s ∷ items) (i ∷ is) c = elim (cases_lt n i) [
  | inl l ↦ omega (
    arith,
    sum_by-cons f s items,
    first,
    none l,
    counted f h (n + 1) items (i ∷ is) (counted_next f h n s items (i ∷ is) c (λ k d m. past l k d m)),
  )
  | inr l ↦ let e : i ≡ n = let g : n ≤ i = c.low 0 0 (omega arith) in omega arith in
      omega (
        arith,
        sum_by-cons f s items,
        sum_by-cons h i is,
        first,
        ap h e,
        counted f h (n + 1) items is (counted_tail f h n s items is
            (subst (λ j. Counted f h n (s ∷ items) (j ∷ is)) e c)),
      )
] where
  first : h n ≡ f s
  first = ap h (omega arith) ∙ c.at 0 s (omega arith)

  past : n < i → (k d : ℕ) → k < length (i ∷ is) → n < get_or (i ∷ is) k d
  past l zero d m = l
  past l (suc k) d m = let o : i < get_or is k d = c.ordered 0 (suc k) d (omega arith) m in omega arith

  none : n < i → h n ≡ 0
  none l = elim (c.all n (omega arith) (omega arith)) [
    | inl (k, m, e) ↦ absurd (let p = past l k n m in omega arith)
    | inr e ↦ e
  ]

sum_split : (f g h : Side → ℕ) → ((s : Side) → f s ≡ g s + h s) → (ss : List Side) → sum_by f ss ≡ sum_by g ss + sum_by h ss
sum_split f g h e [] = refl
sum_split f g h e (s ∷ ss) = omega (arith, sum_by-cons f s ss, sum_by-cons g s ss, sum_by-cons h s ss, e s, sum_split f g h e ss)

-- ---- the sides that an index finds in a window

-- the side spans the row from column a up to column x
abbrev from_to : ℤ → ℤ → ℤ → Side → ℕ
from_to a x y s = bit (int_le a s.column && stands x y s)

split_at : (a c x : ℤ) (w : Bool) → (a -ℤ pos 1) ≤ℤ x → bit (int_le c x && w) ≡ bit (int_le c (a -ℤ pos 1) && w) + bit (int_le a c && (int_le c x && w))
split_at a c x true h = grind (arith, ints)
split_at a c x false h = none (int_le c x) (int_le c (a -ℤ pos 1)) (int_le a c) where
  none : (p q r : Bool) → bit (p && false) ≡ bit (q && false) + bit (r && (p && false))
  none true true true = refl
  none true true false = refl
  none true false true = refl
  none true false false = refl
  none false true true = refl
  none false true false = refl
  none false false true = refl
  none false false false = refl

module _ (sides : List Side) (y a b : ℤ) (index : List Bounds) (found : List ℕ) (is : index ≡ map bounds_of_side sides)
    (m : AreMeeting index (record { left = a; right = b; low = y; high = y }) found) where
  bounds_at : (i : ℕ) (s : Side) (d : Bounds) → i < length sides → get_or index i d ≡ bounds_of_side (get_or sides i s)
  bounds_at i s d l = rw is (get_or-map bounds_of_side sides i s d l)

  long : length index ≡ length sides
  long = rw is (length-map sides bounds_of_side)

  pub found_within : All (λ i. i < length sides) found
  found_within k d l = let w = (m.each k d l).within in let n = long in omega arith

  -- the sides found stand in the window
  stood : (k d : ℕ) (s : Side) → k < length found → (a ≤ℤ (get_or sides (get_or found k d) s).column) × ((get_or sides (get_or found k d) s).column ≤ℤ b)
  stood k d s l = go (subst (λ e. Meets e (record { left = a; right = b; low = y; high = y }))
      (bounds_at (get_or found k d) s (bounds_of_side s) (found_within k d l))
      ((m.each k d l).meets (bounds_of_side s))) where
        go : Meets (bounds_of_side (get_or sides (get_or found k d) s))
            (record { left = a; right = b; low = y; high = y }) → (a ≤ℤ (get_or sides (get_or found k d) s).column) ×
            ((get_or sides (get_or found k d) s).column ≤ℤ b)
        go w = (w.right, w.left)

  -- those that span the row up to a column of the window are found
  others : (x : ℤ) → x ≤ℤ b → (s : Side) (i : ℕ) → i < length sides → Contains found i ⊎ (from_to a x y (get_or sides i s) ≡ 0)
  others x h s i l = by_test (get_or sides i s) (λ w. m.all i
      (record {
        within = let n = long in omega arith;
        meets =
            λ d. subst (λ e. Meets e (record { left = a; right = b; low = y; high = y })) (sym (bounds_at i s d l)) w;
      }))
    where
      by_test : (t : Side) → (Meets (bounds_of_side t) (record { left = a; right = b; low = y; high = y }) →
          Contains found i) → Contains found i ⊎ (from_to a x y t ≡ 0)
      by_test t f = by_lt_z t.column a (λ g. inr (left_out g))
          (λ g. by_lt_z x t.column (λ k. inr (right_out k))
          (λ k. by_lt_z y t.low (λ n. inr (below n)) (λ n. by_lt_z y t.high
          (λ o. inl (f (record { left = omega signed; right = g; low = n; high = omega signed }))) (λ o. inr (above o)))))
        where
          left_out : t.column <ℤ a → from_to a x y t ≡ 0
          left_out g = grind (arith, ints)

          right_out : x <ℤ t.column → from_to a x y t ≡ 0
          right_out g = grind (arith, ints)

          below : y <ℤ t.low → from_to a x y t ≡ 0
          below g = grind (arith, ints)

          above : t.high ≤ℤ y → from_to a x y t ≡ 0
          above g = grind (arith, ints)

module _ (sides : List Side) (y a b : ℤ) (index : List Bounds) (found : List ℕ) (columns : List ℤ)
    (is : index ≡ map bounds_of_side sides) (m : AreMeeting index (record { left = a; right = b; low = y; high = y })
    found) (c : AreColumnsAmong sides found y columns) where
  -- the column of a side that was found
  column_of : (k : ℕ) (d : ℤ) → k < length columns → (s : Side) × (s.column ≡ get_or columns k d) × (a ≤ℤ s.column) × (s.column ≤ℤ b)
  column_of k d l = go (c.own k d l) where
    go : Any (λ i. (d' : Side) → (get_or sides i d').column ≡ get_or columns k d) found → (s : Side) ×
        (s.column ≡ get_or columns k d) × (a ≤ℤ s.column) × (s.column ≤ℤ b)
    go (j, i, g, e, f) =
        let inside : i < length sides = rw e at (found_within sides y a b index found is m j i g) in
        let s = some_of sides i inside in
        let w = stood sides y a b index found is m j i s g in
        (get_or sides i s, f s, rw e at w.0, rw e at w.1)

  sum_found : (x : ℤ) → x ≤ℤ b → (s : Side) → at_or_left x columns ≡ sum_by (from_to a x y) sides
  sum_found x h s = c.each x s ∙ sum_by_alike (stands_at sides x y s) (λ i. from_to a x y (get_or sides i s)) found
      (λ k d l. from_left (get_or sides (get_or found k d) s) (stood sides y a b index found is m k d s l).0) ∙
      counted (from_to a x y) (λ i. from_to a x y (get_or sides i s)) 0 sides found (record {
        at = λ k d l. ap (λ j. from_to a x y (get_or sides j s)) (from_none k) ∙ ap (from_to a x y) (get_or_default sides k s d l);
        ordered = m.ordered;
        low = λ k d l. omega arith;
        high = λ k d l. let w = found_within sides y a b index found is m k d l in omega arith;
        all = λ i l n. others sides y a b index found is m x h s i (omega arith);
      }) where
        from_none : (k : ℕ) → 0 + k ≡ k
        from_none k = omega arith

        from_left : (t : Side) → a ≤ℤ t.column → bit (stands x y t) ≡ from_to a x y t
        from_left t g = ap (λ e. bit (e && stands x y t)) (sym (at_least g)) where
          at_least : a ≤ℤ t.column → int_le a t.column ≡ true
          at_least g = grind (arith, ints)

  sum_any : (x : ℤ) → x ≤ℤ b → at_or_left x columns ≡ sum_by (from_to a x y) sides
  sum_any x h = go sides refl where
    go : (ss : List Side) → sides ≡ ss → at_or_left x columns ≡ sum_by (from_to a x y) sides
    go (s ∷ ss) e = sum_found x h s
    go [] e = rw e (none columns refl) where
      none : (zs : List ℤ) → columns ≡ zs → at_or_left x columns ≡ 0
      none [] f = rw f refl
      none (z ∷ zs) f = absurd (let (j, i, g, k, o) = c.own 0 z (rw f (omega arith)) in let w =
          found_within sides y a b index found is m j 0 g in let n : length sides ≡ 0 = rw e refl in omega arith)

  pub crossings_within : AreCrossingsWithin sides y a b columns
  crossings_within = record {
    range = λ k d l. let (s, e, w, v) = column_of k d l in subst IsInRange e (record { low = s.left; high = s.right });
    inside = λ k d l. let (s, e, w, v) = column_of k d l in subst (λ z. (a ≤ℤ z) × (z ≤ℤ b)) e (w, v);
    each = λ x h g. sum_split (λ s. bit (stands x y s)) (λ s. bit (stands (a -ℤ pos 1) y s)) (from_to a x y)
        (λ s. split_at a s.column x (is_within s.low s.high y) h) sides ∙
        ap (λ n. standing (a -ℤ pos 1) y sides + n) (sym (sum_any x g));
  }

-- ---- the cells between these sides

all_left : (x : ℤ) (zs : List ℤ) → All (λ z. z ≤ℤ x) zs → at_or_left x zs ≡ length zs
all_left x [] a = refl
all_left x (z ∷ zs) a = omega (arith, left_cons x z zs, here (All-head (λ z. z ≤ℤ x) z zs a), all_left x zs (All-tail (λ z. z ≤ℤ x) z zs a)) where
  here : z ≤ℤ x → bit (int_le z x) ≡ 1
  here h = grind (arith, ints)

even_by : (n : ℕ) → (n % 2 == 1) ≡ false → n % 2 ≡ 0
even_by n e = grind arith

same_parity : (l m n : ℕ) → l ≡ m + n → m % 2 ≡ 0 → (n % 2 == 1) ≡ (l % 2 == 1)
same_parity l m n e f = ap (λ k. k == 1) (let g : n % 2 ≡ l % 2 = omega (arith, e, f) in g)

module _ (sides : List Side) (y a b : ℤ) (columns : List ℤ) (frame : IsFramed (is_between sides) y a b) (c : AreCrossingsWithin sides y a b columns) where
  pub even_within : length columns % 2 ≡ 0
  even_within =
      let f = frame.some in
      let e = c.each b (omega signed) (omega signed) in
      let n = all_left b columns (All-weaker (λ z. (a ≤ℤ z) × (z ≤ℤ b)) (λ z. z ≤ℤ b) (λ z h. h.1) columns c.inside) in
      parity _ _ _ _ e n (even_by (standing (a -ℤ pos 1) y sides) frame.left) (even_by (standing b y sides) frame.right) where
        parity : (l m n k : ℕ) → l ≡ m + n → n ≡ k → m % 2 ≡ 0 → l % 2 ≡ 0 → k % 2 ≡ 0
        parity l m n k e f g h = omega (arith, e, f, g, h)

  same_within : (x : ℤ) → (a -ℤ pos 1) ≤ℤ x → x ≤ℤ b → (at_or_left x columns % 2 == 1) ≡ is_between sides x y
  same_within x h g = same_parity _ _ _ (c.each x h g) (even_by (standing (a -ℤ pos 1) y sides) frame.left)

  sound_anywhere : (x : ℤ) → (at_or_left x columns % 2 == 1) ≡ true → is_between sides x y ≡ true
  sound_anywhere x t = by_lt_z x a
      (λ h. absurd (let e : at_or_left x columns ≡ 0 =
      left_none x a columns h (All-weaker (λ z. (a ≤ℤ z) × (z ≤ℤ b)) (λ z. a ≤ℤ z) (λ z h. h.0) columns c.inside) in
      odd_not (at_or_left x columns) (omega (arith, e)) t))
      (λ h. by_lt_z b x
      (λ g. absurd (odd_not (at_or_left x columns) (let n =
      all_left x columns (All-weaker (λ z. (a ≤ℤ z) × (z ≤ℤ b)) (λ z. z ≤ℤ x) (λ z i. upto z i.1 g) columns
      c.inside) in omega (arith, n, even_within)) t))
      (λ g. sym (same_within x (omega signed) g) ∙ t)) where
        odd_not : (n : ℕ) → n % 2 ≡ 0 → (n % 2 == 1) ≡ true → ⊥
        odd_not n e f = grind arith

        upto : (z : ℤ) → z ≤ℤ b → b <ℤ x → z ≤ℤ x
        upto z i g = omega signed

  pub polygon_within : (sorted : List ℤ) (old new : List Stretch) → IsPermutation columns sorted →
      AddsPlaces (λ x. at_or_left x sorted % 2 == 1) old new → AddsWithin (is_between sides) y a b old new
  polygon_within sorted old new p adds = record {
    kept = λ x h. adds x ∙ ap (λ e. e || (at_or_left x sorted % 2 == 1)) h;
    sound = λ x h. elim (or_cases _ _ (sym (adds x) ∙ h)) [
      | inl f ↦ ap (λ e. e || is_between sides x y) f
      | inr f ↦ or_right _ _ (sound_anywhere x (sym (same x) ∙ f))
    ];
    full = λ x h g t. adds x ∙ or_right _ _ (same x ∙ same_within x h g ∙ t);
  } where
    same : (x : ℤ) → (at_or_left x sorted % 2 == 1) ≡ (at_or_left x columns % 2 == 1)
    same x = ap (λ n. n % 2 == 1) (sum_by-IsPermutation (λ z. bit (int_le z x)) columns sorted p)
