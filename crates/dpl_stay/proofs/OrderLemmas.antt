-- The orders are strict, and what stands in order is found at one place.
use Rattle.std.proofs.Common.{arith, ◌≡◌, ℕ, [], ◌∷◌, ◌<◌, ◌⊎◌, inl, inr, Bool, true, false, List}
use Rattle.std.proofs.Common.{length, sym, ap, subst, ◌∙◌, slice_index_or}
use Rattle.std.specs.Prelude.{AllPairs}
use Rattle.std.proofs.lemmas.Int.{ints}
use Rattle.std.proofs.lemmas.Bool.{cases_lt, both_ways}
use Rattle.std.proofs.lemmas.List.{get_or-map}
use Rattle.std.specs.List.Sorted.{IsPartitionedBy, IsPartitionPoint}
use Rattle.dpl_cell.specs.declared.rect.Rect.{Rect}
use Rattle.dpl_cell.specs.Places.{Corners, corners_of}
use Rattle.dpl_cell.specs.Tiles.{IsBefore}
use Rattle.dpl_cell.proofs.BoxLemmas.{never_before}
use Rattle.dpl_cell.proofs.OrderLemmas.{before_once}
use Rattle.dpl_cuts.specs.Positions.{nowhere}
use Rattle.dpl_sign.specs.declared.edges.Edge.{Edge}
use Rattle.dpl_sign.specs.Walks.{no_edge}
use Rattle.dpl_stay.specs.declared.finding.Key.{Key}
use Rattle.dpl_stay.specs.Order.{rect_before, key_before, key_of, AreRectsInOrder, AreEdgesInOrder}
use Rattle.dpl_stay.specs.Same.{corners_at}

-- ---- what stands in order is parted by a place, and only what stands there can be met

module _ {A : Type 0} (p : A → Bool) (R : A → A → Type 0) (xs : List A) (up : AllPairs R xs) where
  pub parted : ((x y : A) → R x y → p y ≡ true → p x ≡ true) → IsPartitionedBy p xs
  parted down i j d le l t = elim (cases_lt i j) [
    | inl low ↦ down _ _ (up i j d low l) t
    | inr not ↦ let e : i ≡ j = omega (arith, not) in subst (λ k. p (slice_index_or xs k d) ≡ true) (sym e) t
  ]

  pub lone_place : (i w : ℕ) (d : A) → IsPartitionPoint (λ y. p y ≡ true) (λ y. p y ≡ false) xs i → w < length xs → p (slice_index_or xs w d) ≡ false
      → ((y : A) → R y (slice_index_or xs w d) → p y ≡ true) → w ≡ i
  lone_place i w d point l f before = elim (cases_lt w i) [
    | inl low ↦ absurd (both_ways _ f (point.0 w d (omega arith) low))
    | inr high ↦ elim (cases_lt i w) [
      | inl low ↦ absurd (both_ways _ (point.1 i d (omega arith) (omega arith)) (before _ (up i w d low l)))
      | inr same ↦ omega (arith, high, same)
    ]
  ]

-- ---- rectangles

pub before_from : (a b : Corners) → IsBefore a b → rect_before a b ≡ true
before_from a b h = grind (arith, ints)

pub before_self : (a : Corners) → rect_before a a ≡ false
before_self a = grind (arith, ints)

pub before_down : (a b c : Corners) → IsBefore a b → rect_before b c ≡ true → rect_before a c ≡ true
before_down a b c h t = grind (arith, ints)

pub corners_are : (rects : List Rect) (w : ℕ) (d : Rect) → w < length rects → corners_at rects w ≡ corners_of (slice_index_or rects w d)
corners_are rects w d l = get_or-map corners_of rects w d nowhere l

-- ---- keys

pub key_self : (k : Key) → key_before k k ≡ false
key_self k = grind arith

-- the same as a fact about numbers
abbrev pub KeyBefore : Key → Key → Type 0
KeyBefore j k = (j.rank < k.rank) ⊎ ((j.rank ≡ k.rank) × ((j.a < k.a) ⊎ ((j.a ≡ k.a) × (j.b < k.b))))

pub key_from : (j k : Key) → key_before j k ≡ true → KeyBefore j k
key_from j k t = grind arith

pub key_to : (j k : Key) → KeyBefore j k → key_before j k ≡ true
key_to j k t = grind arith

key_chain : (j k l : Key) → KeyBefore j k → KeyBefore k l → KeyBefore j l
key_chain j k l s t = grind arith

pub key_down : (j k l : Key) → key_before j k ≡ true → key_before k l ≡ true → key_before j l ≡ true
key_down j k l s t = key_to j l (key_chain j k l (key_from j k s) (key_from k l t))

pub parted_rects : (rects : List Rect) (r : Corners) → AreRectsInOrder rects → IsPartitionedBy (λ (s : Rect). rect_before (corners_of s) r) rects
parted_rects rects r up = parted (λ (s : Rect). rect_before (corners_of s) r) (λ (a b : Rect). IsBefore (corners_of a) (corners_of b)) rects up
    (λ x y h t. before_down (corners_of x) (corners_of y) r h t)

-- a node with these corners stands at the place where a search ends
pub lone_node : (rects : List Rect) (r : Corners) (i w : ℕ) → AreRectsInOrder rects
    → IsPartitionPoint (λ (s : Rect). rect_before (corners_of s) r ≡ true) (λ (s : Rect). rect_before (corners_of s) r ≡ false) rects i
    → w < length rects → corners_at rects w ≡ r → w ≡ i
lone_node [] r i w up point l e = absurd (omega (arith, l))
lone_node (q ∷ qs) r i w up point l e =
    let rects = q ∷ qs in
    let here : corners_of (slice_index_or rects w q) ≡ r = sym (corners_are rects w q l) ∙ e in
    lone_place (λ (s : Rect). rect_before (corners_of s) r) (λ (a b : Rect). IsBefore (corners_of a) (corners_of b)) rects up i w q point l
    (ap (λ c. rect_before c r) here ∙ before_self r)
    (λ y h. before_from (corners_of y) r (subst (IsBefore (corners_of y)) here h))

pub parted_edges : (edges : List Edge) (k : Key) → AreEdgesInOrder edges → IsPartitionedBy (λ (e : Edge). key_before (key_of e) k) edges
parted_edges edges k up = parted (λ (e : Edge). key_before (key_of e) k) (λ (e f : Edge). key_before (key_of e) (key_of f) ≡ true) edges up
    (λ x y h t. key_down (key_of x) (key_of y) k h t)

-- an edge with this key stands at the place where a search ends
pub lone_edge : (edges : List Edge) (k : Key) (i d : ℕ) → AreEdgesInOrder edges
    → IsPartitionPoint (λ (e : Edge). key_before (key_of e) k ≡ true) (λ (e : Edge). key_before (key_of e) k ≡ false) edges i
    → d < length edges → key_of (slice_index_or edges d no_edge) ≡ k → d ≡ i
lone_edge edges k i d up point l here =
    lone_place (λ (e : Edge). key_before (key_of e) k) (λ (e f : Edge). key_before (key_of e) (key_of f) ≡ true) edges up i d no_edge point l
    (ap (λ c. key_before c k) here ∙ key_self k)
    (λ y h. subst (λ c. key_before (key_of y) c ≡ true) here h)

-- ---- rectangles that stand in order are different

pub rects_rise : (rects : List Rect) (v w : ℕ) → AreRectsInOrder rects → v < w → w < length rects → IsBefore (corners_at rects v) (corners_at rects w)
rects_rise [] v w up l m = absurd (omega (arith, m))
rects_rise (q ∷ qs) v w up l m =
    let rects = q ∷ qs in
    let a = corners_are rects v q (omega (arith, l, m)) in
    let b = corners_are rects w q m in
    subst (λ c. IsBefore c (corners_at rects w)) (sym a) (subst (λ c. IsBefore (corners_of (slice_index_or rects v q)) c) (sym b) (up v w q l m))

pub one_node : (rects : List Rect) → AreRectsInOrder rects → (v w : ℕ) → v < length rects → w < length rects → corners_at rects v ≡ corners_at rects w → v ≡ w
one_node rects up v w l m e = elim (cases_lt v w) [
  | inl low ↦ absurd (never_before _ _ e (rects_rise rects v w up low m))
  | inr a ↦ elim (cases_lt w v) [
    | inl low ↦ absurd (never_before _ _ (sym e) (rects_rise rects w v up low l))
    | inr b ↦ omega (arith, a, b)
  ]
]

-- the same rectangles stand in the same order in both lists
pub same_order : (f g : List Rect) → AreRectsInOrder f → AreRectsInOrder g → (v v' w w' : ℕ) → v < length f → v' < length f → w < length g → w' < length g
    → corners_at g w ≡ corners_at f v → corners_at g w' ≡ corners_at f v' → v < v' → w < w'
same_order f g uf ug v v' w w' lv lv' lw lw' e e' low = elim (cases_lt w w') [
  | inl less ↦ less
  | inr a ↦ elim (cases_lt w' w) [
    | inl more ↦ absurd (before_once (corners_at f v) (corners_at f v') (rects_rise f v v' uf low lv')
        (subst (λ c. IsBefore c (corners_at f v)) e' (subst (λ c. IsBefore (corners_at g w') c) e (rects_rise g w' w ug more lw))))
    | inr b ↦
        let same : w ≡ w' = omega (arith, a, b) in
        absurd (never_before _ _ (sym e ∙ ap (corners_at g) same ∙ e') (rects_rise f v v' uf low lv'))
  ]
]
