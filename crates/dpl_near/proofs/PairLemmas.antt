-- Pairs of rectangles that stand around each other, and the rows of what stands around each.
use Rattle.std.proofs.Common.{arith, ◌≡◌, ℕ, ◌+◌, ◌*◌, ◌<◌, ◌≤◌, ℤ, List, length, get_or, map, Contains}
use Rattle.std.proofs.Common.{inl, inr, refl, sym, ap, subst, ◌∙◌, ◌∷◌, [], ◌++◌}
use Rattle.std.proofs.lemmas.Bool.{cases_lt, cases_eq}
use Rattle.std.proofs.lemmas.Int.{ints}
use Rattle.std.proofs.lemmas.List.{get_or_default, length-append, length-map}
use Rattle.std.proofs.lemmas.List.Elements.{All-push, Contains-push, Contains-append_left}
use Rattle.dpl_cell.specs.declared.rect.Rect.{Rect}
use Rattle.dpl_cell.specs.Places.{corners_of}
use Rattle.dpl_cell.specs.Gaps.{between, cell_gap2, AreClose}
use Rattle.dpl_index.specs.Kinds.{Kinded, IsOrder}
use Rattle.dpl_list.specs.Rows.{of_key, rows_by}
use Rattle.dpl_list.proofs.Grouping.{of_key_yes, of_key_no, keyed_none, keyed_push, rows_by_length, rows_by_at}
use Rattle.dpl_near.specs.Around.{Shaped, within, AreAround}
use Rattle.dpl_near.specs.Bounds.{bounds_of}
use Rattle.dpl_near.specs.Near.{Search, IsNear}
use Rattle.dpl_near.specs.Pairs.{AreRows, IsWanted, ArePairs, ArePaired, AddsPair, AddsPairs, ArePairedBefore}

-- ---- what is near is near the other way too

gap_back : (x y x' y' : ℤ) (n : ℕ) → cell_gap2 x y x' y' < n → cell_gap2 x' y' x y < n
gap_back x y x' y' n h =
    let a : between x x' ≡ between x' x = omega (arith, ints) in
    let b : between y y' ≡ between y' y = omega (arith, ints) in
    rw (← a, ← b) h

close_back : (one other : ℤ → ℤ → Type 0) (reach : ℕ) → AreClose one other reach → AreClose other one reach
close_back one other reach c = record {
  x = c.x';
  y = c.y';
  x' = c.x;
  y' = c.y;
  cells = record { first = c.cells.second; second = c.cells.first };
  near = gap_back c.x c.y c.x' c.y' (reach * reach) c.near;
}

pub near_back : (s : Search) (i j : ℕ) → i < length s.rects → IsNear s i j → IsNear s j i
near_back s i j l n = record { within = l; other = λ e. n.other (sym e); close = λ d. close_back _ _ s.reach (n.close d) }

pub wanted_back : (s : Shaped) (i j : ℕ) → i < length s.rects → IsWanted s i j → IsWanted s j i
wanted_back s i j l w = record {
  near = near_back (within s s.reach) i j l w.near;
  why = elim w.why [ inl other ↦ inl (λ e. other (sym e)) | inr touch ↦ inr (near_back (within s 1) i j l touch) ];
}

paired_back : (keys others : List ℕ) (i j : ℕ) → ArePaired keys others i j → ArePaired keys others j i
paired_back keys others i j p = record { first = p.second; second = p.first }

-- ---- a pair more

pub pairs_none : (s : Search) → ArePairs s [] []
pairs_none s = record { keyed = keyed_none (length s.rects); near = λ i k d l. absurd (omega arith) }

-- one of its two ways
one_way : (s : Search) (i j : ℕ) (keys others : List ℕ) → i < length s.rects → IsNear s i j → ArePairs s keys others
    → ArePairs s (keys ++ i ∷ []) (others ++ j ∷ [])
one_way s i j keys others l n p = record {
  keyed = keyed_push (length s.rects) i j keys others l p.keyed;
  near = λ x. elim (cases_eq i x) [
    | inl e ↦ rw (of_key_yes x i j keys others p.keyed.sizes e) (All-push (IsNear s x) _ j (p.near x) (rw e at n))
    | inr e ↦ rw (of_key_no x i j keys others p.keyed.sizes e) (p.near x)
  ];
}

-- what was there stays
still : (x i j y : ℕ) (keys others : List ℕ) → length keys ≡ length others → Contains (of_key x keys others) y
    → Contains (of_key x (keys ++ i ∷ []) (others ++ j ∷ [])) y
still x i j y keys others e c = elim (cases_eq i x) [
  | inl f ↦ rw (of_key_yes x i j keys others e f) (Contains-append_left (of_key x keys others) (j ∷ []) y c)
  | inr f ↦ rw (of_key_no x i j keys others e f) c
]

-- and what comes is there
comes : (i j : ℕ) (keys others : List ℕ) → length keys ≡ length others → Contains (of_key i (keys ++ i ∷ []) (others ++ j ∷ [])) j
comes i j keys others e = rw (of_key_yes i i j keys others e refl) (Contains-push (of_key i keys others) j)

longer : (i j : ℕ) (keys others : List ℕ) → length keys ≡ length others → length (keys ++ i ∷ []) ≡ length (others ++ j ∷ [])
longer i j keys others e = omega (arith, e, length-append keys (i ∷ []), length-append others (j ∷ []))

both_ways : (s : Search) (i j : ℕ) (keys others : List ℕ) → i < length s.rects → IsNear s i j → ArePairs s keys others
    → ArePairs s (keys ++ i ∷ [] ++ j ∷ []) (others ++ j ∷ [] ++ i ∷ [])
both_ways s i j keys others l n p = one_way s j i (keys ++ i ∷ []) (others ++ j ∷ []) n.within (near_back s i j l n) (one_way s i j keys others l n p)

both_still : (i j : ℕ) (keys others : List ℕ) → length keys ≡ length others → (x y : ℕ) → ArePaired keys others x y
    → ArePaired (keys ++ i ∷ [] ++ j ∷ []) (others ++ j ∷ [] ++ i ∷ []) x y
both_still i j keys others e x y p = record { first = go x y p.first; second = go y x p.second } where
  go : (x y : ℕ) → Contains (of_key x keys others) y → Contains (of_key x (keys ++ i ∷ [] ++ j ∷ []) (others ++ j ∷ [] ++ i ∷ [])) y
  go x y c = still x j i y (keys ++ i ∷ []) (others ++ j ∷ []) (longer i j keys others e) (still x i j y keys others e c)

both_come : (i j : ℕ) (keys others : List ℕ) → length keys ≡ length others → ArePaired (keys ++ i ∷ [] ++ j ∷ []) (others ++ j ∷ [] ++ i ∷ []) i j
both_come i j keys others e = record {
  first = still i j i j (keys ++ i ∷ []) (others ++ j ∷ []) (longer i j keys others e) (comes i j keys others e);
  second = comes j i (keys ++ i ∷ []) (others ++ j ∷ []) (longer i j keys others e);
}

-- ---- the pairs of one with some

-- those at the places before t are looked at
pub record PairedWith (s : Search) (i : ℕ) (found : List ℕ) (t : ℕ) (keys others keys' others' : List ℕ) : Type 0 where
  pub pairs : ArePairs s keys' others'
  pub kept : (x y : ℕ) → ArePaired keys others x y → ArePaired keys' others' x y
  pub all : (k : ℕ) → k < t → IsNear s i (get_or found k 0) → ArePaired keys' others' i (get_or found k 0)

pub with_none : (s : Search) (i : ℕ) (found keys others : List ℕ) → ArePairs s keys others → PairedWith s i found 0 keys others keys others
with_none s i found keys others p = record { pairs = p; kept = λ x y h. h; all = λ k l. absurd (omega arith) }

pub with_more : (s : Search) (i : ℕ) (found : List ℕ) (t : ℕ) (keys others keys' others' keys'' others'' : List ℕ)
    → i < length s.rects → AddsPair s i (get_or found t 0) keys' others' keys'' others''
    → PairedWith s i found t keys others keys' others' → PairedWith s i found (t + 1) keys others keys'' others''
with_more s i found t keys others keys' others' keys'' others'' l (inl (n, e, f)) p = rw (e, f) (record {
  pairs = both_ways s i (get_or found t 0) keys' others' l n p.pairs;
  kept = λ x y h. both_still i (get_or found t 0) keys' others' p.pairs.keyed.sizes x y (p.kept x y h);
  all = λ k h m. elim (cases_lt k t) [
    | inl g ↦ both_still i (get_or found t 0) keys' others' p.pairs.keyed.sizes _ _ (p.all k g m)
    | inr g ↦ let is : k ≡ t = omega arith in rw is (both_come i (get_or found t 0) keys' others' p.pairs.keyed.sizes)
  ];
})
with_more s i found t keys others keys' others' keys'' others'' l (inr (none, e, f)) p = rw (e, f) (record {
  pairs = p.pairs;
  kept = p.kept;
  all = λ k h m. elim (cases_lt k t) [
    | inl g ↦ p.all k g m
    | inr g ↦ let is : k ≡ t = omega arith in let n : IsNear s i (get_or found t 0) = rw is at m in absurd (none n)
  ];
})

pub with_all : (s : Search) (i : ℕ) (found : List ℕ) (t : ℕ) (keys others keys' others' : List ℕ) → length found ≤ t
    → PairedWith s i found t keys others keys' others' → AddsPairs s i found keys others keys' others'
with_all s i found t keys others keys' others' whole p = record { pairs = p.pairs; kept = p.kept; all = λ j c n. go j c n } where
  go : (j : ℕ) → Contains found j → IsNear s i j → ArePaired keys' others' i j
  go j (k, l, e) n =
      let f : get_or found k 0 ≡ j = get_or_default found k 0 j l ∙ e in
      let P : ℕ → Type 0 = IsNear s i in
      let Q : ℕ → Type 0 = ArePaired keys' others' i in
      subst Q f (p.all k (omega arith) (subst P (sym f) n))

-- ---- the pairs of all, place by place

pub before_none : (s : Shaped) (order : List ℕ) → ArePairedBefore s order 0 [] []
before_none s order = record { pairs = pairs_none (within s s.reach); all = λ k m l. absurd (omega arith) }

pub before_more : (s : Shaped) (order : List ℕ) (place i : ℕ) (found keys others keys' others' : List ℕ)
    → i ≡ get_or order place 0
    → ((m : ℕ) → place < m → m < length order → IsWanted s i (get_or order m 0) → Contains found (get_or order m 0))
    → AddsPairs (within s s.reach) i found keys others keys' others' → ArePairedBefore s order place keys others
    → ArePairedBefore s order (place + 1) keys' others'
before_more s order place i found keys others keys' others' is wanted adds p = record {
  pairs = adds.pairs;
  all = λ k m l h n w. elim (cases_lt k place) [
    | inl g ↦ adds.kept _ _ (p.all k m g h n w)
    | inr g ↦ let e : k ≡ place = omega arith in go k m (is ∙ ap (λ z. get_or order z 0) (sym e)) (omega arith) n w
  ];
} where
  go : (k m : ℕ) → i ≡ get_or order k 0 → place < m → m < length order → IsWanted s (get_or order k 0) (get_or order m 0)
      → ArePaired keys' others' (get_or order k 0) (get_or order m 0)
  go k m e l n w =
      let P : ℕ → Type 0 = λ x. IsWanted s x (get_or order m 0) in
      let Q : ℕ → Type 0 = λ x. ArePaired keys' others' x (get_or order m 0) in
      let here : IsWanted s i (get_or order m 0) = subst P (sym e) w in
      subst Q e (adds.all _ (wanted m l n here) here.near)

-- ---- a row for each

-- the order of rectangles in an index of their bounds
pub order_of_rects : (rects : List Rect) (shape : List ℕ) (x : Kinded) (order : List ℕ)
    → x ≡ record { items = map (λ q. bounds_of (corners_of q)) rects; kinds = shape }
    → IsOrder (length x.items) order → IsOrder (length (map corners_of rects)) order
order_of_rects rects shape x order e o =
    let f : length x.items ≡ length (map corners_of rects) = ap (λ (y : Kinded). length y.items) e ∙
    length-map rects (λ q. bounds_of (corners_of q)) ∙ sym (length-map rects corners_of) in
    let P : ℕ → Type 0 = λ n. IsOrder n order in
    subst P f o

pub rows_of_pairs : (s : Shaped) (order : List ℕ) (place n : ℕ) (keys others : List ℕ) → n ≡ length s.rects
    → IsOrder (length s.rects) order → length order ≤ place → ArePairedBefore s order place keys others
    → AreRows s (rows_by keys others n)
rows_of_pairs s order place n keys others size o whole p = record {
  long = rows_by_length keys others n ∙ size;
  each = λ i l. rw (rows_by_at keys others n i (omega (arith, size))) (row i l);
} where
  at_places : (i j : ℕ) → IsWanted s i j → (k : ℕ) → k < length order → get_or order k 0 ≡ i
      → (m : ℕ) → m < length order → get_or order m 0 ≡ j → i < length s.rects → ArePaired keys others i j
  at_places i j w k l e m h f inside = elim (cases_lt k m) [
    | inl g ↦ rw (← e, ← f) (p.all k m (omega arith) g h (rw (← e, ← f) at w))
    | inr g ↦ elim (cases_eq k m) [
      | inl same ↦ absurd (w.near.other (sym f ∙ ap (λ z. get_or order z 0) (sym same) ∙ e))
      | inr not ↦ paired_back keys others j i (rw (← e, ← f) (p.all m k (omega arith) (omega arith) l (rw (← e, ← f) at (wanted_back s i j inside w))))
    ]
  ]

  paired : (i j : ℕ) → i < length s.rects → IsWanted s i j → ArePaired keys others i j
  paired i j l w = go (o.all i l) (o.all j w.near.within) where
    go : Contains order i → Contains order j → ArePaired keys others i j
    go (k, a, e) (m, b, f) = at_places i j w k a (get_or_default order k 0 i a ∙ e) m b (get_or_default order m 0 j b ∙ f) l

  row : (i : ℕ) → i < length s.rects → AreAround s i (of_key i keys others)
  row i l = record {
    each = p.pairs.near i;
    others = λ j n other. (paired i j l (record { near = n; why = inl other })).first;
    touching = λ j n touch. (paired i j l (record { near = n; why = inr touch })).first;
  }
