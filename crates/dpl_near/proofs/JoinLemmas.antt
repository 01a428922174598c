-- Rectangles that share an edge, by their borders.
use Rattle.std.proofs.Common.{arith, ◌≡◌, ◌≢◌, ◌∙◌, ℕ, ◌+◌, ◌<◌, ◌≤◌, ◌⊎◌, pos, ◌-ℤ◌, ◌<ℤ◌, ◌≤ℤ◌, List, length, get_or, Bool, true, false, ◌&&◌, min, max}
use Rattle.std.proofs.Common.{All, AllPairs, Contains, refl, sym, ap, subst, inl, inr, ◌∷◌, [], map, Ordering, Less, Equal, Greater}
use Rattle.std.specs.Prelude.{◌↔◌, nat_eq}
use Rattle.std.specs.Int.{int_max, int_min}
use Rattle.std.specs.Cmp.{IsTotalOrder, IsEquivalence, unsigned_ties, tied_then}
use Rattle.std.specs.List.{dedup}
use Rattle.std.specs.List.Sorted.{IsPermutation, IsSorted, IsStrictlySortedBy}
use Rattle.std.specs.Ordering.{MatchOrdering, eq_by_cmp, nat_cmp, ordering_then}
use Rattle.std.proofs.lemmas.Bool.{and_parts, cases_lt}
use Rattle.std.proofs.lemmas.Bool.Decides.{nat_tests}
use Rattle.std.proofs.lemmas.Cmp.{eq_by_cmp_equiv, nat_cmp_total, then_total, on_total, ranked}
use Rattle.std.proofs.lemmas.Int.{by_lt_z}
use Rattle.std.proofs.lemmas.List.{get_or_default, get_or-map}
use Rattle.std.proofs.lemmas.List.Elements.{All-contains_itself}
use Rattle.std.proofs.lemmas.List.Kept.{AllPairs-cons, Contains-dedup, Contains-from_dedup, IsStrictlySortedBy-dedup}
use Rattle.std.proofs.lemmas.List.Sorted.{Contains-permutation, IsPermutation-sym}
use Rattle.std.proofs.lemmas.Map.Keys.{sorted_tail}
use Rattle.std.proofs.lemmas.Map.Views.{All-after_first}
use Rattle.dpl_list.proofs.Integers.{signed}
use Rattle.dpl_cell.specs.declared.rect.Rect.{Rect}
use Rattle.dpl_cell.specs.Places.{Corners, corners_of}
use Rattle.dpl_cell.specs.Cells.{IsIn, AreApart}
use Rattle.dpl_cell.specs.Edges.{SharesEdge}
use Rattle.dpl_cell.proofs.BoxLemmas.{HasCell, three}
use Rattle.dpl_cell.proofs.SeamLemmas.{apart_sides, contact_by_touch}
use Rattle.dpl_near.proofs.WalkLemmas.{neighbours_back}
use Rattle.dpl_near.specs.declared.borders.Border.{Border}
use Rattle.dpl_near.specs.Borders.{first_border, last_border, AddsAlong, AreAlong, AreBorders, pair_of}
use Rattle.dpl_near.specs.Joins.{IsJoin, IsFirst, AreJoins, Follows, HasJoinsOf}

-- the pairs are pairs of numbers of rectangles
pub joins_within : (rects : List Corners) (joins : List (ℕ × ℕ)) → AreJoins rects joins → All (λ p. (p.0 < length rects) × (p.1 < length rects)) joins
joins_within rects joins a k d l = let j = a.each k d l in let r = j.rising in let w = j.within in (omega arith, w)

-- a rectangle of a list, by its corners
pub corners_at : (rects : List Rect) (i : ℕ) (r : Rect) → i < length rects → r ≡ get_or rects i r
    → corners_of r ≡ get_or (map corners_of rects) i (corners_of r)
corners_at rects i r l e = ap corners_of e ∙ sym (get_or-map corners_of rects i r (corners_of r) l)

-- ---- borders that lie along one another, and edges

edge_along : (upright : Bool) (a b : Corners) (m n : ℕ) → HasCell a → HasCell b
    → AreAlong (last_border upright a m) (first_border upright b n) → SharesEdge (IsIn a) (IsIn b)
edge_along true a b m n h g w = let e = w.line in let f = w.above in let k = w.below in record {
  x = a.x2 -ℤ pos 1;
  y = int_max a.y1 b.y1;
  x' = b.x1;
  y' = int_max a.y1 b.y1;
  cells = record { first = search signed; second = search signed };
  neighbours = omega signed;
}
edge_along false a b m n h g w = let e = w.line in let f = w.above in let k = w.below in record {
  x = int_max a.x1 b.x1;
  y = a.y2 -ℤ pos 1;
  x' = int_max a.x1 b.x1;
  y' = b.y1;
  cells = record { first = search signed; second = search signed };
  neighbours = omega signed;
}

edge_back : (a b : Corners) → SharesEdge (IsIn a) (IsIn b) → SharesEdge (IsIn b) (IsIn a)
edge_back a b s = record {
  x = s.x';
  y = s.y';
  x' = s.x;
  y' = s.y;
  cells = record { first = s.cells.second; second = s.cells.first };
  neighbours = neighbours_back s.x s.y s.x' s.y' s.neighbours;
}

not_along_itself : (upright : Bool) (a : Corners) (m n : ℕ) → HasCell a → ¬ AreAlong (last_border upright a m) (first_border upright a n)
not_along_itself true a m n h w = let e = w.line in absurd (omega signed)
not_along_itself false a m n h w = let e = w.line in absurd (omega signed)

AlongOneWay : Bool → Corners → Corners → ℕ → ℕ → Type 0
AlongOneWay upright a b m n =
    AreAlong (last_border upright a m) (first_border upright b n) ⊎ AreAlong (last_border upright b n) (first_border upright a m)

along_upright : (a b : Corners) (m n : ℕ) → HasCell a → HasCell b → int_min a.x2 b.x2 ≤ℤ int_max a.x1 b.x1
    → int_max a.x1 b.x1 ≤ℤ int_min a.x2 b.x2 → int_max a.y1 b.y1 <ℤ int_min a.y2 b.y2
    → AlongOneWay true a b m n
unfolding AlongOneWay
along_upright a b m n h g e f rows = by_lt_z a.x1 b.x1
    (λ l. inl (record { line = omega signed; above = omega signed; below = omega signed }))
    (λ l. inr (record { line = omega signed; above = omega signed; below = omega signed }))

along_level : (a b : Corners) (m n : ℕ) → HasCell a → HasCell b → int_min a.y2 b.y2 ≤ℤ int_max a.y1 b.y1
    → int_max a.y1 b.y1 ≤ℤ int_min a.y2 b.y2 → int_max a.x1 b.x1 <ℤ int_min a.x2 b.x2
    → AlongOneWay false a b m n
unfolding AlongOneWay
along_level a b m n h g e f columns = by_lt_z a.y1 b.y1
    (λ l. inl (record { line = omega signed; above = omega signed; below = omega signed }))
    (λ l. inr (record { line = omega signed; above = omega signed; below = omega signed }))

along_edge : (a b : Corners) (m n : ℕ) → HasCell a → HasCell b → AreApart a b → SharesEdge (IsIn a) (IsIn b)
    → (upright : Bool) × AlongOneWay upright a b m n
along_edge a b m n h g apart s =
    let c = contact_by_touch a b (inr s) in let columns = c.columns in let rows = c.rows in
    elim (apart_sides a b apart) [
      | inl p ↦ (true, along_upright a b m n h g p columns (elim c.more [ inl q ↦ absurd (omega signed) | inr q ↦ q ]))
      | inr p ↦ (false, along_level a b m n h g p rows (elim c.more [ inl q ↦ q | inr q ↦ absurd (omega signed) ]))
    ]

-- ---- rectangles that follow one another share an edge, and the other way round

join_of_edge : (rects : List Corners) (i j : ℕ) → i < length rects → j < length rects → i ≢ j
    → ((d : Corners) → SharesEdge (IsIn (get_or rects i d)) (IsIn (get_or rects j d)))
    → IsJoin rects (min i j) (max i j)
join_of_edge rects i j l m n edge = three i j
    (λ h. let e : min i j ≡ i = omega arith in let f : max i j ≡ j = omega arith in
    rw (e, f) (record { rising = h; within = m; edge = edge }))
    (λ e. absurd (n e))
    (λ h. let e : min i j ≡ j = omega arith in let f : max i j ≡ i = omega arith in
    rw (e, f) (record { rising = h; within = l; edge = λ d. edge_back (get_or rects i d) (get_or rects j d) (edge d) }))

follows_join : (upright : Bool) (rects : List Corners) (i j : ℕ) → All HasCell rects → i < length rects
    → Follows upright rects i j → IsJoin rects (min i j) (max i j)
follows_join upright rects i j have l f = let m = f.within in
    join_of_edge rects i j l m
    (λ e. let d : Corners = record { x1 = pos 0; y1 = pos 0; x2 = pos 0; y2 = pos 0 } in
    let w : AreAlong (last_border upright (get_or rects i d) i) (first_border upright (get_or rects i d) j) =
    subst (λ k. AreAlong (last_border upright (get_or rects i d) i) (first_border upright (get_or rects k d) j)) (sym e) (f.along d) in
    not_along_itself upright (get_or rects i d) i j (have i d l) w)
    (λ d. edge_along upright (get_or rects i d) (get_or rects j d) i j (have i d l) (have j d m) (f.along d))

follows_at : (upright : Bool) (rects : List Corners) (i j : ℕ) (d : Corners) → i < length rects
    → j < length rects
    → AreAlong (last_border upright (get_or rects i d) i) (first_border upright (get_or rects j d) j)
    → Follows upright rects i j
follows_at upright rects i j d l m w = record {
  within = m;
  along = λ e. rw (get_or_default rects i e d l, get_or_default rects j e d m) w;
}

join_follows : (rects : List Corners) (i j : ℕ) → All HasCell rects → AllPairs AreApart rects
    → IsJoin rects i j → (upright : Bool) × (Follows upright rects i j ⊎ Follows upright rects j i)
unfolding AlongOneWay
join_follows rects i j have apart join =
    let d : Corners = record { x1 = pos 0; y1 = pos 0; x2 = pos 0; y2 = pos 0 } in
    let h = join.rising in let m = join.within in
    let l : i < length rects = omega arith in
    let (upright, way) = along_edge (get_or rects i d) (get_or rects j d) i j (have i d l) (have j d m) (apart i j d h m) (join.edge d) in
    (upright, elim way [ inl w ↦ inl (follows_at upright rects i j d l m w) | inr w ↦ inr (follows_at upright rects j i d m l w) ])

-- ---- the pairs of the rectangles below a number

pub joins_none : (rects : List Corners) → HasJoinsOf rects 0 []
joins_none rects = record {
  each = λ p (k, l, e). absurd (omega arith);
  all = λ upright i j l. absurd (omega arith);
}

pair_is : (upright : Bool) (a b : Corners) (m n : ℕ) → pair_of (last_border upright a m) (first_border upright b n) ≡ (min m n, max m n)
pair_is true a b m n = refl
pair_is false a b m n = refl

one_more : (upright : Bool) (rects : List Corners) (n : ℕ) (r : Corners) (borders : List Border) (pairs new : List (ℕ × ℕ))
    → All HasCell rects → n < length rects → r ≡ get_or rects n r → AreBorders upright rects borders
    → AddsAlong (last_border upright r n) borders pairs new
    → ((p : ℕ × ℕ) → Contains pairs p → IsJoin rects p.0 p.1) → (p : ℕ × ℕ) → Contains new p
    → IsJoin rects p.0 p.1
one_more upright rects n r borders pairs new have l at all adds each p c = elim (adds.each p c) [
  | inl h ↦ each p h
  | inr (b, h, w, e) ↦ let (j, m, is) = all.each b h in
      let f : b ≡ first_border upright (get_or rects j r) j = is r in
      let along : AreAlong (last_border upright (get_or rects n r) n) (first_border upright (get_or rects j r) j) =
      subst (λ x. AreAlong (last_border upright x n) (first_border upright (get_or rects j r) j)) at
      (subst (λ x. AreAlong (last_border upright r n) x) f w) in
      let same : p ≡ (min n j, max n j) = e ∙ ap (pair_of (last_border upright r n)) f ∙ pair_is upright r (get_or rects j r) n j in
      subst (λ (q : ℕ × ℕ). IsJoin rects q.0 q.1) (sym same) (follows_join upright rects n j have l (follows_at upright rects n j r l m along))
]

one_found : (upright : Bool) (rects : List Corners) (n j : ℕ) (r : Corners) (borders : List Border) (pairs new : List (ℕ × ℕ))
    → r ≡ get_or rects n r → AreBorders upright rects borders
    → AddsAlong (last_border upright r n) borders pairs new → Follows upright rects n j
    → Contains new (min n j, max n j)
one_found upright rects n j r borders pairs new at all adds f =
    let b : Border = first_border upright (get_or rects j r) j in
    let w : AreAlong (last_border upright r n) b = subst (λ x. AreAlong (last_border upright x n) b) (sym at) (f.along r) in
    subst (Contains new) (pair_is upright r (get_or rects j r) n j) (adds.all b (all.all j r f.within) w)

pub joins_more : (rects : List Corners) (n : ℕ) (r : Corners) (left lower : List Border) (pairs mid new : List (ℕ × ℕ))
    → All HasCell rects → n < length rects → r ≡ get_or rects n r → AreBorders true rects left
    → AreBorders false rects lower → AddsAlong (last_border true r n) left pairs mid
    → AddsAlong (last_border false r n) lower mid new → HasJoinsOf rects n pairs
    → HasJoinsOf rects (n + 1) new
joins_more rects n r left lower pairs mid new have l at lefts lowers first second so = record {
  each = one_more false rects n r lower mid new have l at lowers second (one_more true rects n r left pairs mid have l at lefts first so.each);
  all = λ upright i j h f. elim (cases_lt i n) [
    | inl g ↦ second.kept _ (first.kept _ (so.all upright i j g f))
    | inr g ↦ let e : i ≡ n = omega arith in
        subst (λ k. Contains new (min k j, max k j)) (sym e) (found upright j (subst (λ k. Follows upright rects k j) e f))
  ];
} where
  found : (upright : Bool) (j : ℕ) → Follows upright rects n j → Contains new (min n j, max n j)
  found true j f = second.kept _ (one_found true rects n j r left pairs mid at lefts first f)
  found false j f = one_found false rects n j r lower mid new at lowers second f

pub joins_all : (rects : List Corners) (n : ℕ) (pairs new : List (ℕ × ℕ)) → All HasCell rects
    → AllPairs AreApart rects → length rects ≤ n → HasJoinsOf rects n pairs → AllPairs IsFirst new
    → ((p : ℕ × ℕ) → Contains new p ↔ Contains pairs p) → AreJoins rects new
joins_all rects n pairs new have apart whole so up same = record {
  each = λ k d l. so.each (get_or new k d) ((same (get_or new k d)).0 (All-contains_itself new k d l));
  all = λ i j join. (same (i, j)).1 (found i j join);
  ordered = up;
} where
  found : (i j : ℕ) → IsJoin rects i j → Contains pairs (i, j)
  found i j join =
      let h = join.rising in let m = join.within in
      let e : min i j ≡ i = omega arith in let f : max i j ≡ j = omega arith in
      let e' : min j i ≡ i = omega arith in let f' : max j i ≡ j = omega arith in
      let (upright, way) = join_follows rects i j have apart join in
      elim way [
        | inl w ↦ rw (e, f) at (so.all upright i j (omega arith) w)
        | inr w ↦ rw (e', f') at (so.all upright j i (omega arith) w)
      ]

-- ---- pairs in order, each once

abbrev pub pair_cmp : ℕ × ℕ → ℕ × ℕ → Ordering
pair_cmp p q = ordering_then (nat_cmp p.0 q.0) (nat_cmp p.1 q.1)

first_by : (p q : ℕ × ℕ) (r s : Ordering) → MatchOrdering r (p.0 < q.0) (p.0 ≡ q.0) (q.0 < p.0)
    → MatchOrdering s (p.1 < q.1) (p.1 ≡ q.1) (q.1 < p.1) → ordering_then r s ≡ Less → IsFirst p q
first_by p q Less s h g e = inl h
first_by p q Equal Less h g e = inr (h, g)
first_by p q Equal Equal h g e = absurd (cc)
first_by p q Equal Greater h g e = absurd (cc)
first_by p q Greater s h g e = absurd (cc)

pub strictly_first : (pairs : List (ℕ × ℕ)) → IsStrictlySortedBy pair_cmp pairs → AllPairs IsFirst pairs
strictly_first [] s = λ i j d h l. absurd (omega arith)
strictly_first (p ∷ ps) s = AllPairs-cons IsFirst p ps
    (λ k d l. let q : ℕ × ℕ = get_or ps k d in
    first_by p q (nat_cmp p.0 q.0) (nat_cmp p.1 q.1) (ranked p.0 q.0 (nat_cmp p.0 q.0) refl) (ranked p.1 q.1 (nat_cmp p.1 q.1) refl)
    (All-after_first pair_cmp p ps s k d l))
    (strictly_first ps (sorted_tail pair_cmp p ps s))

pair_total : IsTotalOrder pair_cmp
pair_total = then_total (on_total (λ (p : ℕ × ℕ). p.0) nat_cmp_total) (on_total (λ (p : ℕ × ℕ). p.1) nat_cmp_total)

abbrev pub pair_eq : ℕ × ℕ → ℕ × ℕ → Bool
pair_eq p q = nat_eq p.0 q.0 && nat_eq p.1 q.1

pair_ties : (p q : ℕ × ℕ) → pair_eq p q ≡ eq_by_cmp pair_cmp p q
pair_ties p q = ap (λ b. b && nat_eq p.1 q.1) (unsigned_ties p.0 q.0) ∙ ap (λ b. eq_by_cmp nat_cmp p.0 q.0 && b) (unsigned_ties p.1 q.1)
    ∙ tied_then (nat_cmp p.0 q.0) (nat_cmp p.1 q.1)

pair_same : (p q : ℕ × ℕ) → pair_eq p q ≡ true → p ≡ q
pair_same p q e = let (f, g) = and_parts (nat_eq p.0 q.0) (nat_eq p.1 q.1) e in
    let h : p.0 ≡ q.0 = grind (arith, nat_tests) in let k : p.1 ≡ q.1 = grind (arith, nat_tests) in
    let F : ℕ → ℕ × ℕ = λ x. (x, p.1) in let G : ℕ → ℕ × ℕ = λ y. (q.0, y) in ap F h ∙ ap G k

pair_equiv : IsEquivalence pair_eq
pair_equiv = record {
  refl = λ p. pair_ties p p ∙ by.refl p;
  symm = λ p q. pair_ties p q ∙ by.symm p q ∙ sym (pair_ties q p);
  congr = λ p q r e. pair_ties p r ∙ by.congr p q r (sym (pair_ties p q) ∙ e) ∙ sym (pair_ties q r);
} where
  by : IsEquivalence (eq_by_cmp pair_cmp)
  by = eq_by_cmp_equiv pair_total

-- sorted pairs are in order once each is kept once
pub first_once : (pairs : List (ℕ × ℕ)) → IsSorted pair_cmp pairs → AllPairs IsFirst (dedup pair_eq pairs)
first_once pairs up = strictly_first (dedup pair_eq pairs) (IsStrictlySortedBy-dedup pair_total pair_ties pairs up)

pub kept_once : (pairs sorted : List (ℕ × ℕ)) → IsPermutation pairs sorted → (p : ℕ × ℕ) → Contains (dedup pair_eq sorted) p ↔ Contains pairs p
kept_once pairs sorted moved p = (
  (λ h. Contains-permutation sorted pairs p (IsPermutation-sym pairs sorted moved) (Contains-from_dedup pair_eq sorted p h)),
  (λ h. Contains-dedup pair_equiv pair_same sorted p (Contains-permutation pairs sorted p moved h)),
)
