-- The corners of primitives, and the columns that change at a row.
use Rattle.std.proofs.Common.{arith, ◌≡◌, ◌∙◌, ℕ, ◌+◌, ◌-◌, ◌<◌, ◌≤◌, ℤ, ◌<ℤ◌, ◌≤ℤ◌, List, length, get_or, take, drop}
use Rattle.std.proofs.Common.{All, AllPairs, Any, Contains, subst, refl, sym, ap, inl, inr, [], ◌∷◌, ◌++◌, true, false}
use Rattle.std.proofs.Common.{int_lt, int_le}
use Rattle.std.proofs.Common.{Ordering, Less, Equal, Greater}
use Rattle.std.specs.Ordering.{int_cmp, is_lt, ordering_then, MatchOrdering}
use Rattle.std.specs.Cmp.{int_ranks, IsTotalOrder}
use Rattle.std.proofs.lemmas.Cmp.{int_cmp_total, then_total, on_total}
use Rattle.std.specs.List.Sorted.{IsPermutation, IsPartitionedBy, IsPartitionPoint, IsSortedBy}
use Rattle.std.proofs.lemmas.Bool.{cases_lt}
use Rattle.std.proofs.lemmas.Int.{ints}
use Rattle.std.proofs.lemmas.List.{take_all, get_or-take, get_or-drop, length-take, length-drop, drop_more, drop_all}
use Rattle.std.proofs.lemmas.List.Elements.{All-more, All-weaker, Contains-append_cases, Contains-append_left, Contains-append_right, Contains-push_cases}
use Rattle.std.proofs.lemmas.List.Sorted.{Contains-permutation, IsPermutation-sym, sorted_far, ranks_by}
use Rattle.dpl_cell.specs.declared.rect.Rect.{Rect}
use Rattle.dpl_cell.specs.Ranges.{IsInRange}
use Rattle.dpl_cell.specs.declared.point.Point.{Point}
use Rattle.dpl_cell.specs.declared.layout.Primitive.{Primitive}
use Rattle.dpl_cell.specs.declared.layout.Primitive.TheVariants as prim
use Rattle.dpl_tiles.specs.declared.corners.Corner.{Corner}
use Rattle.dpl_list.specs.Order.{Ascends}
use Rattle.dpl_tiles.specs.Corners.{IsCornerOf, SpansSide, IsEndOf, HasSide, HasSides, HasCornersOf, AreInRange, AreWithin}
use Rattle.dpl_tiles.specs.Corners.{AddsCorners, AddsSide, AreBetween, AreCornersAt, ComesBefore}
use Rattle.dpl_tiles.specs.Clusters.{IsCluster}
use Rattle.dpl_cell.proofs.BoxLemmas.{equal_z}
use Rattle.dpl_list.proofs.Integers.{signed}
use Rattle.dpl_list.proofs.Lists.{any_right, any_contains}

-- ---- a longer list has what the shorter one has

any_kept : (P : Corner → Type 0) (old new : List Corner) → AreWithin old new → Any P old → Any P new
any_kept P old new w (k, c, l, e, h) = any_contains P new c (w c (k, l, e)) h

side_kept : (p q : Point) (old new : List Corner) → AreWithin old new → HasSide old p q → HasSide new p q
side_kept p q old new w (g, h) = (any_kept (IsEndOf p q p.y) old new w g, any_kept (IsEndOf p q q.y) old new w h)

sides_kept : (p : Point) (ps : List Point) (last : Point) (old new : List Corner) → AreWithin old new → HasSides old p ps last → HasSides new p ps last
sides_kept p [] last old new w h = side_kept p last old new w h
sides_kept p (q ∷ qs) last old new w (g, h) = (side_kept p q old new w g, sides_kept q qs last old new w h)

corners_kept : (old new : List Corner) → AreWithin old new → (p : Primitive) → HasCornersOf old p → HasCornersOf new p
corners_kept old new w (prim.Box r) (g, h) = (any_kept (IsCornerOf r.y1 r.x1 r.x2) old new w g, any_kept (IsCornerOf r.y2 r.x1 r.x2) old new w h)
corners_kept old new w (prim.Poly []) h = tt
corners_kept old new w (prim.Poly (p ∷ ps)) h = sides_kept p ps p old new w h

all_within : (xs : List Corner) → AreWithin xs xs
all_within xs c h = h

grown : (old new : List Corner) (c : Corner) → new ≡ old ++ c ∷ [] → AreWithin old new
grown old new c e d m = rw e (Contains-append_left old (c ∷ []) d m)

newest : (P : Corner → Type 0) (old new : List Corner) (c : Corner) → new ≡ old ++ c ∷ [] → P c → Any P new
newest P old new c e h = rw e (any_right P old (c ∷ []) (0, c, omega arith, refl, h))

-- ---- all corners of a primitive

-- corners in range

pub none_in_range : (corners : List Corner) → corners ≡ [] → AreInRange corners
none_in_range corners e = rw e (λ c (k, l, f). absurd (omega arith))

range_pushed : (old new : List Corner) (c : Corner) → new ≡ old ++ c ∷ [] → IsInRange c.y → AreInRange old → AreInRange new
range_pushed old new c e h a = rw e (λ d m. elim (Contains-push_cases old c d m) [
  | inl g ↦ a d g
  | inr f ↦ subst (λ (x : Corner). IsInRange x.y) f h
])

-- where each of two lists grew
both_in_range : (xs ys zs ws : List Corner) → (AreInRange xs → AreInRange zs) → (AreInRange ys → AreInRange ws)
    → AreInRange (xs ++ ys) → AreInRange (zs ++ ws)
both_in_range xs ys zs ws f g a c h = elim (Contains-append_cases zs ws c h) [
  | inl m ↦ f (λ d n. a d (Contains-append_left xs ys d n)) c m
  | inr m ↦ g (λ d n. a d (Contains-append_right xs ys d n)) c m
]

left_of : (xs ys : List Corner) → AreWithin xs (xs ++ ys)
left_of xs ys c h = Contains-append_left xs ys c h

right_of : (xs ys : List Corner) → AreWithin ys (xs ++ ys)
right_of xs ys c h = Contains-append_right xs ys c h

-- two lists that have what two others have
both_within : (xs ys zs ws : List Corner) → AreWithin xs zs → AreWithin ys ws → AreWithin (xs ++ ys) (zs ++ ws)
both_within xs ys zs ws f g c h = elim (Contains-append_cases xs ys c h) [
  | inl a ↦ left_of zs ws c (f c a)
  | inr b ↦ right_of zs ws c (g c b)
]

pub sides_added : (r : Rect) (lower upper lower' upper' : List Corner) (c d : Corner) → lower' ≡ lower ++ c ∷ []
    → upper' ≡ upper ++ d ∷ [] → IsCornerOf r.y1 r.x1 r.x2 c → IsCornerOf r.y2 r.x1 r.x2 d
    → AddsCorners (prim.Box r) (lower ++ upper) (lower' ++ upper')
sides_added r lower upper lower' upper' c d e f a b = record {
  kept = both_within lower upper lower' upper' (grown lower lower' c e) (grown upper upper' d f);
  has = (
    any_kept (IsCornerOf r.y1 r.x1 r.x2) lower' (lower' ++ upper') (left_of lower' upper') (newest (IsCornerOf r.y1 r.x1 r.x2) lower lower' c e a),
    any_kept (IsCornerOf r.y2 r.x1 r.x2) upper' (lower' ++ upper') (right_of lower' upper') (newest (IsCornerOf r.y2 r.x1 r.x2) upper upper' d f b),
  );
  range = both_in_range lower upper lower' upper'
      (range_pushed lower lower' c e (record { low = let h = a.y in omega (signed, h, r.below); high = let h = a.y in omega (signed, h, r.above, r.high) }))
      (range_pushed upper upper' d f (record { low = let h = b.y in omega (signed, h, r.below, r.high); high = let h = b.y in omega (signed, h, r.above) }));
}

-- what was added to the second list was added to both
pub others_added : (p : Primitive) (lower old new : List Corner) → AddsCorners p old new → AddsCorners p (lower ++ old) (lower ++ new)
others_added p lower old new a = record {
  kept = both_within lower old lower new (all_within lower) a.kept;
  has = corners_kept new (lower ++ new) (right_of lower new) p a.has;
  range = both_in_range lower old lower new (λ h. h) a.range;
}

end_of : (p q : Point) (z left right : ℤ) (c : Corner) → SpansSide left right p q → IsCornerOf z left right c → IsEndOf p q z c
end_of p q z left right c s k = record { y = k.y; spans = rw (k.left, k.right) s }

pub side_added : (p q : Point) (left right : ℤ) (old mid new : List Corner) (c d : Corner)
    → SpansSide left right p q → mid ≡ old ++ c ∷ [] → new ≡ mid ++ d ∷ [] → IsCornerOf p.y left right c
    → IsCornerOf q.y left right d → AddsSide p q old new
side_added p q left right old mid new c d s e f a b = record {
  kept = λ x h. grown mid new d f x (grown old mid c e x h);
  has = (
    any_kept (IsEndOf p q p.y) mid new (grown mid new d f) (newest (IsEndOf p q p.y) old mid c e (end_of p q p.y left right c s a)),
    newest (IsEndOf p q q.y) mid new d f (end_of p q q.y left right d s b),
  );
  range = λ h. range_pushed mid new d f (in_range q d.y b.y) (range_pushed old mid c e (in_range p c.y a.y) h);
}
  where
    in_range : (t : Point) (z : ℤ) → z ≡ t.y → IsInRange z
    in_range t z i = rw i (record { low = t.below; high = t.above })

-- the list grew by the sides up to the i-th point behind the first: with those to go, it has all
pub record AddsSides (first : Point) (rest : List Point) (i : ℕ) (before : Point) (old new : List Corner) : Type 0 where
  pub kept : AreWithin old new
  pub has : (all : List Corner) → AreWithin new all → HasSides all before (drop i rest) first → HasSides all first rest first
  pub range : AreInRange old → AreInRange new

pub round_none : (first : Point) (rest : List Point) (old : List Corner) → AddsSides first rest 0 first old old
round_none first rest old = record { kept = all_within old; has = λ all w h. h; range = λ h. h }

pub round_more : (first : Point) (rest : List Point) (i : ℕ) (before p : Point) (old mid new : List Corner)
    → i < length rest → p ≡ get_or rest i p → AddsSides first rest i before old mid
    → AddsSide before p mid new → AddsSides first rest (i + 1) p old new
round_more first rest i before p old mid new within is a s = record {
  kept = λ c h. s.kept c (a.kept c h);
  has = λ all w h. a.has all (λ c m. w c (s.kept c m)) (go all (side_kept before p new all w s.has) h);
  range = λ h. s.range (a.range h);
} where
  go : (all : List Corner) → HasSide all before p → HasSides all p (drop (i + 1) rest) first → HasSides all before (drop i rest) first
  go all g h =
      let both : HasSides all before (p ∷ drop (i + 1) rest) first = (g, h) in
      rw (drop_more rest i p within, ← is) both

pub round_all : (first : Point) (rest : List Point) (i : ℕ) (before : Point) (old mid new : List Corner)
    → length rest ≤ i → AddsSides first rest i before old mid → AddsSide before first mid new
    → AddsCorners (prim.Poly (first ∷ rest)) old new
round_all first rest i before old mid new whole a s = record {
  kept = λ c h. s.kept c (a.kept c h);
  has = a.has new s.kept (rw (drop_all i rest whole) s.has);
  range = λ h. s.range (a.range h);
}

pub no_points : (old : List Corner) → AddsCorners (prim.Poly []) old old
no_points old = record { kept = all_within old; has = tt; range = λ h. h }

-- ---- all primitives

pub corners_more : (prims : List Primitive) (i : ℕ) (p : Primitive) (old new : List Corner) → i < length prims
    → p ≡ get_or prims i p → AddsCorners p old new → All (HasCornersOf old) (take i prims)
    → All (HasCornersOf new) (take (i + 1) prims)
corners_more prims i p old new within is a h = All-more (HasCornersOf new) prims i p within
    (All-weaker (HasCornersOf old) (HasCornersOf new) (λ q g. corners_kept old new a.kept q g) (take i prims) h)
    (subst (HasCornersOf new) is a.has)

pub corners_all : (prims : List Primitive) (i : ℕ) (corners : List Corner) → length prims ≤ i
    → All (HasCornersOf corners) (take i prims) → All (HasCornersOf corners) prims
corners_all prims i corners whole h = rw (take_all i prims whole) at h

moved : (old new : List Corner) → IsPermutation old new → AreWithin old new
moved old new p c m = Contains-permutation old new c p m

-- two lists that are sorted, and then both in one
pub corners_moved : (prims : List Primitive) (lower upper lower' upper' new : List Corner) → IsPermutation lower lower'
    → IsPermutation upper upper' → IsPermutation (lower' ++ upper') new → All (HasCornersOf (lower ++ upper)) prims
    → All (HasCornersOf new) prims
corners_moved prims lower upper lower' upper' new p q r h = All-weaker (HasCornersOf (lower ++ upper)) (HasCornersOf new)
    (λ x g. corners_kept (lower ++ upper) new
    (λ c m. moved (lower' ++ upper') new r c (both_within lower upper lower' upper' (moved lower lower' p) (moved upper upper' q) c m)) x g) prims h

pub range_moved : (lower upper lower' upper' new : List Corner) → IsPermutation lower lower' → IsPermutation upper upper'
    → IsPermutation (lower' ++ upper') new → AreInRange (lower ++ upper) → AreInRange new
range_moved lower upper lower' upper' new p q r a c h =
    both_in_range lower upper lower' upper' (back lower lower' p) (back upper upper' q) a c
    (moved new (lower' ++ upper') (IsPermutation-sym (lower' ++ upper') new r) c h)
  where
    back : (old new : List Corner) → IsPermutation old new → AreInRange old → AreInRange new
    back old new s b d m = b d (moved new old (IsPermutation-sym old new s) d m)

-- ---- the corners at a row

pub parted_below : (corners : List Corner) (z : ℤ) → Ascends (λ c. c.y) corners → IsPartitionedBy (λ c. int_lt c.y z) corners
parted_below corners z up i j d le l e = less _ _ (up i j d le l) e where
  less : (a b : ℤ) → a ≤ℤ b → int_lt b z ≡ true → int_lt a z ≡ true
  less a b h e = grind (arith, ints)

pub parted_up_to : (corners : List Corner) (z : ℤ) → Ascends (λ c. c.y) corners → IsPartitionedBy (λ c. int_le c.y z) corners
parted_up_to corners z up i j d le l e = less _ _ (up i j d le l) e where
  less : (a b : ℤ) → a ≤ℤ b → int_le b z ≡ true → int_le a z ≡ true
  less a b h e = grind (arith, ints)

some_of : (corners : List Corner) (k : ℕ) → k < length corners → Corner
some_of [] k l = absurd (omega arith)
some_of (c ∷ cs) k l = c

pub first_between : (corners : List Corner) (z : ℤ) (from to : ℕ) → from ≤ length corners → to ≤ length corners
    → IsPartitionPoint (λ c. c.y <ℤ z) (λ c. z ≤ℤ c.y) corners from
    → IsPartitionPoint (λ c. c.y ≤ℤ z) (λ c. z <ℤ c.y) corners to → AreBetween corners z from to
first_between corners z from to h g first past =
    record {
      order = order;
      from_within = h;
      to_within = g;
      below = below;
      on =
          λ k d i j. equal_z _ z (past.0 k d (omega arith) j) (first.1 k d i (omega arith));
      above = past.1;
    } where
      below : (k : ℕ) (d : Corner) → k < from → (get_or corners k d).y <ℤ z
      below k d i = first.0 k d (omega arith) i

      order : from ≤ to
      order = elim (cases_lt to from) [
        | inr i ↦ i
        | inl i ↦
            let l : to < length corners = omega arith in
            let d = some_of corners to l in
            absurd (both _ (below to d i) (past.1 to d (omega arith) l))
      ] where
        both : (y : ℤ) → y <ℤ z → z <ℤ y → ⊥
        both y a b = omega signed

-- ---- the corners at a row, from the left

pub rising_rows : (corners : List Corner) → AllPairs ComesBefore corners → Ascends (λ c. c.y) corners
rising_rows corners up i j d h l = elim (cases_lt i j) [
  | inl g ↦ elim (up i j d g l) [ inl f ↦ lower _ _ f | inr (e, f) ↦ level _ _ e ]
  | inr g ↦ let e : i ≡ j = omega arith in rw e (level _ _ refl)
] where
  lower : (a b : ℤ) → a <ℤ b → a ≤ℤ b
  lower a b f = omega signed

  level : (a b : ℤ) → a ≡ b → a ≤ℤ b
  level a b e = omega signed

-- the order of a sort by the row and the left end
by_place : Corner → Corner → Ordering
by_place a b = ordering_then (int_cmp a.y b.y) (int_cmp a.left b.left)

by_place_total : IsTotalOrder by_place
unfolding by_place
by_place_total = then_total (on_total (λ (c : Corner). c.y) int_cmp_total) (on_total (λ (c : Corner). c.left) int_cmp_total)

in_place : (a b : Corner) (r s : Ordering) → MatchOrdering r (b.y <ℤ a.y) (b.y ≡ a.y) (a.y <ℤ b.y)
    → MatchOrdering s (b.left <ℤ a.left) (b.left ≡ a.left) (a.left <ℤ b.left)
    → is_lt (ordering_then r s) ≡ false → ComesBefore a b
in_place a b Less s m n e = cc
in_place a b Equal Less m n e = cc
in_place a b Equal Equal m n e = inr (sym m, omega signed)
in_place a b Equal Greater m n e = inr (sym m, omega signed)
in_place a b Greater s m n e = inl m

pub in_order : (corners : List Corner)
    → IsSortedBy (λ a b. is_lt (ordering_then (int_cmp a.y b.y) (int_cmp a.left b.left))) corners
    → AllPairs ComesBefore corners
unfolding by_place
in_order corners s i j d h l =
    let a = get_or corners i d in let b = get_or corners j d in
    in_place a b _ _ (int_ranks b.y a.y) (int_ranks b.left a.left)
    (sorted_far (λ a b. is_lt (by_place a b)) (ranks_by by_place_total (λ (c : Corner). c)) corners s i j d
    (omega arith) l)

module _ (corners : List Corner) (z : ℤ) (from to : ℕ) (up : AllPairs ComesBefore corners) (b : AreBetween corners z from to) where
  row_length : length (take (to - from) (drop from corners)) ≡ to - from
  row_length = let n = length-take (to - from) (drop from corners) in let o = length-drop from corners in let g = b.order in let h = b.to_within in omega arith

  row_at : (k : ℕ) (d : Corner) → k < to - from → get_or (take (to - from) (drop from corners)) k d ≡ get_or corners (from + k) d
  row_at k d h = get_or-take (to - from) (drop from corners) k d h ∙ get_or-drop from corners k d

  pub row_of : AreCornersAt corners z (take (to - from) (drop from corners))
  row_of = record {
    ordered = λ i j d h l. rw (
      row_at i d (let n = row_length in omega arith),
      row_at j d (let n = row_length in omega arith),
    )
        (rising (from + i) (from + j) d (omega arith) (omega arith)
        (let n = row_length in let g = b.to_within in omega arith) (let n = row_length in omega arith));
    all = λ c (k, l, e) is. here c k l e is;
  } where
    rising : (i j : ℕ) (d : Corner) → from ≤ i → i ≤ j → j < length corners → j < to → (get_or corners i d).left ≤ℤ (get_or corners j d).left
    rising i j d f h l g = elim (cases_lt i j) [
      | inl n ↦ elim (up i j d n l) [
        | inl a ↦ absurd (both _ _ (b.on i d f (omega arith)) (b.on j d (omega arith) g) a)
        | inr (e, a) ↦ a
      ]
      | inr n ↦ let e : i ≡ j = omega arith in rw e (itself _)
    ] where
      both : (x y : ℤ) → x ≡ z → y ≡ z → x <ℤ y → ⊥
      both x y e f a = omega signed

      itself : (x : ℤ) → x ≤ℤ x
      itself x = omega signed

    here : (c : Corner) (k : ℕ) → k < length corners → get_or corners k c ≡ c → c.y ≡ z → Contains (take (to - from) (drop from corners)) c
    here c k l e is = elim (cases_lt k from) [
      | inl h ↦ absurd (lower _ (ap (λ (q : Corner). q.y) e ∙ is) (b.below k c h))
      | inr h ↦ elim (cases_lt k to) [
        | inr g ↦ absurd (higher _ (ap (λ (q : Corner). q.y) e ∙ is) (b.above k c g l))
        | inl g ↦
            let i : k - from < to - from = omega arith in
            let j : from + (k - from) ≡ k = omega arith in
            (k - from, rw row_length i, row_at (k - from) c i ∙ ap (λ n. get_or corners n c) j ∙ e)
      ]
    ] where
      lower : (y : ℤ) → y ≡ z → y <ℤ z → ⊥
      lower y e a = omega signed

      higher : (y : ℤ) → y ≡ z → z <ℤ y → ⊥
      higher y e a = omega signed

-- ---- corners that are gathered

-- the corners from one place up to another have columns from d1 to d2
pub record AreGathered (row : List Corner) (at to : ℕ) (d1 d2 : ℤ) : Type 0 where
  pub more : at < to
  pub within : to ≤ length row
  pub left : (d : Corner) → (get_or row at d).left ≡ d1
  pub right : (k : ℕ) (d : Corner) → at ≤ k → k < to → (get_or row k d).right ≤ℤ d2

pub one_gathered : (row : List Corner) (at : ℕ) (d1 d2 : ℤ) → at < length row
    → ((d : Corner) → (get_or row at d).left ≡ d1) → ((d : Corner) → (get_or row at d).right ≤ℤ d2)
    → AreGathered row at (at + 1) d1 d2
one_gathered row at d1 d2 l left right = record {
  more = omega arith;
  within = omega arith;
  left = left;
  right = λ k d h g. let e : k ≡ at = omega arith in rw e (right d);
}

pub more_gathered : (row : List Corner) (at to : ℕ) (d1 d1' d2 d2' : ℤ) → AreGathered row at to d1 d2
    → to < length row → d1' ≡ d1 → d2 ≤ℤ d2' → ((d : Corner) → (get_or row to d).right ≤ℤ d2')
    → AreGathered row at (to + 1) d1' d2'
more_gathered row at to d1 d1' d2 d2' a l same h right = record {
  more = let m = a.more in omega arith;
  within = omega arith;
  left = λ d. a.left d ∙ sym same;
  right = λ k d f g. elim (cases_lt k to) [
    | inl i ↦ chain _ (a.right k d f i)
    | inr i ↦ let e : k ≡ to = omega arith in rw e (right d)
  ];
} where
  chain : (x : ℤ) → x ≤ℤ d2 → x ≤ℤ d2'
  chain x i = omega signed

pub whole_cluster : (row : List Corner) (at to : ℕ) (d1 d2 : ℤ) (near : List Rect)
    → AreGathered row at to d1 d2
    → ((d : Corner) → to < length row → (d2 <ℤ (get_or row to d).left) × All (λ r. r.x2 <ℤ (get_or row to d).left) near)
    → IsCluster row at to d1 d2 near
whole_cluster row at to d1 d2 near a apart = record { more = a.more; within = a.within; left = a.left; right = a.right; apart = apart }
