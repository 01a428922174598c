-- The positions of a tile that any tiles block, and those that are found so far.
use Rattle.std.proofs.Common.{arith, ◌≡◌, ◌≢◌, ℕ, ◌<◌, ◌≤◌, ◌-◌, ℤ, pos, ◌-ℤ◌, ◌<ℤ◌, ◌≤ℤ◌, List, length, get_or}
use Rattle.std.proofs.Common.{◌∙◌, All, Contains, refl, sym, ap, subst, inl, inr, ◌⊎◌, ◌++◌, Bool, true, false, not}
use Rattle.std.proofs.Common.{◌&&◌, ◌||◌, cond, Option, Some, None, take, drop, ◌+◌, [], ◌∷◌}
use Rattle.std.proofs.lemmas.Bool.{cases_lt, or_left, or_right, or_cases}
use Rattle.std.proofs.lemmas.List.{get_or_default, get_or_append_left, get_or-append-add, length-append, take-append-drop}
use Rattle.std.proofs.lemmas.List.Folds.{list_any-append, Any-from_list_any}
use Rattle.dpl_list.specs.Order.{Ascends}
use Rattle.dpl_list.proofs.Integers.{signed}
use Rattle.dpl_list.proofs.Lists.{any_contains}
use Rattle.dpl_list.proofs.Naturals.{they_differ}
use Rattle.dpl_cell.specs.Places.{Corners}
use Rattle.dpl_cell.specs.Cells.{IsWithin, IsIn}
use Rattle.dpl_cell.specs.Gaps.{between, cell_gap2}
use Rattle.dpl_cell.specs.Layers.{is_within}
use Rattle.dpl_cell.specs.declared.stretch.Stretch.{Stretch}
use Rattle.dpl_cell.specs.Stretches.{AreSeparate, is_in_stretches}
use Rattle.dpl_cell.proofs.BoxLemmas.{test_within, within_test, ends_inside}
use Rattle.dpl_near.specs.Around.{AreAround, HasOthers}
use Rattle.dpl_cuts.specs.Positions.{lies_along_x, first_of, last_of, position_of, part_of, nowhere, rect_at}
use Rattle.dpl_cuts.specs.Stretches.{is_in_option, IsPartOf, Marks}
use Rattle.dpl_cuts.specs.Blocks.{IsTouchedAt, IsBlocking, are_other, AreBlocked, AreShut, AreShutSoFar, AddsShut, IsShut}
use Rattle.dpl_cuts.proofs.BlockLemmas.{first_x, last_x, is_other, is_touching, not_in, step_down, step_up}

truth : (b : Bool) → (b ≡ true) ⊎ (b ≡ false)
truth true = inl refl
truth false = inr refl

-- a tile that touches the tile i from below or above is around it
touched_near : (tiles : List Corners) (label near : List ℕ) (space i k : ℕ) (p : ℤ)
    → AreAround (record { rects = tiles; shape = label; reach = space }) i near → i < length tiles
    → k < length tiles → 1 ≤ space → (rect_at tiles i).y1 <ℤ (rect_at tiles i).y2
    → IsWithin (first_of (rect_at tiles i)) (last_of (rect_at tiles i)) p
    → IsTouchedAt (rect_at tiles i) (rect_at tiles k) p → Contains near k
touched_near tiles label near space i k p a l n some high w t = elim t.cell [
  | inl c ↦ beside (rect_at tiles i).y1 ((rect_at tiles i).y1 -ℤ pos 1) lowest (inl (omega signed)) (step_down (rect_at tiles i).y1) c
  | inr c ↦ beside ((rect_at tiles i).y2 -ℤ pos 1) (rect_at tiles i).y2 highest (inr (omega signed)) (step_up (rect_at tiles i).y2) c
] where
  column : IsWithin (rect_at tiles i).x1 (rect_at tiles i).x2 p
  column = rw (first_x (rect_at tiles i) t.along, last_x (rect_at tiles i) t.along) at w

  lowest : IsIn (rect_at tiles i) p (rect_at tiles i).y1
  lowest = record { column = column; row = record { from = omega signed; to = high } }

  highest : IsIn (rect_at tiles i) p ((rect_at tiles i).y2 -ℤ pos 1)
  highest = record { column = column; row = record { from = omega signed; to = omega signed } }

  itself : (x : ℤ) → between x x ≡ 0
  itself x = omega signed

  beside : (y y' : ℤ) → IsIn (rect_at tiles i) p y → (y' <ℤ (rect_at tiles i).y1) ⊎ ((rect_at tiles i).y2 ≤ℤ y')
      → between y y' ≡ 0 → IsIn (rect_at tiles k) p y' → Contains near k
  beside y y' own past e c =
      let other : k ≢ i = λ m. not_in (rect_at tiles i) p y' past (rw m at c) in
      let gap : cell_gap2 p y p y' ≡ 0 = rw (itself p, e) refl in
      is_touching tiles label near space i k p y p y' a l n other some own c gap

-- what the tiles around a tile block is all that is blocked
pub shut_by_near : (tiles : List Corners) (label near : List ℕ) (space i : ℕ) (found : List Stretch)
    → AreAround (record { rects = tiles; shape = label; reach = space }) i near → i < length tiles → 1 ≤ space
    → (rect_at tiles i).y1 <ℤ (rect_at tiles i).y2 → AreBlocked tiles label space i near found
    → AreShut tiles label space i found
shut_by_near tiles label near space i found a l some high b p w = (
  (λ t. let (m, k, n, e, h) = (b p w).0 t in (k, rw e at (a.each m k n).within, h)),
  (λ (k, n, h). (b p w).1 (any_contains _ near k (around k n h) h)),
) where
  around : (k : ℕ) → k < length tiles → IsBlocking (rect_at tiles i) (rect_at tiles k) (are_other label i k) space p → Contains near k
  around k n (inl h) = let c = h.1 in
      is_other tiles label near space i k c.x c.y c.x' c.y' a l n (they_differ _ _ h.0) c.first c.second c.near
  around k n (inr t) = touched_near tiles label near space i k p a l n some high w t

-- what tiles block, among them all that touch the tile i
pub shut_so_far : (tiles : List Corners) (label near : List ℕ) (reach space i : ℕ) (found : List Stretch)
    → AreAround (record { rects = tiles; shape = label; reach = reach }) i near → i < length tiles → 1 ≤ reach
    → (rect_at tiles i).y1 <ℤ (rect_at tiles i).y2 → AreBlocked tiles label space i near found
    → AreShutSoFar tiles label space i found
shut_so_far tiles label near reach space i found a l some high b = record {
  each = λ p w t. let (m, k, n, e, h) = (b p w).0 t in (k, rw e at (a.each m k n).within, h);
  touched = λ p k w n t. (b p w).1 (any_contains _ near k (touched_near tiles label near reach i k p a l n some high w t) (inr t));
}

-- ---- a lane, what is blocked of it, what is free, and what is not free

pub record AreLeft (lane : Stretch) (old free before : List Stretch) : Type 0 where
  pub rest : (p : ℤ) → is_in_stretches free p ≡ (is_within lane.from lane.to p && not (is_in_stretches old p))
  pub back : (p : ℤ) → is_in_stretches before p ≡ (is_within lane.from lane.to p && not (is_in_stretches free p))

not_both : (a b : Bool) → a ≡ true → (a && not (a && not b)) ≡ b
not_both true true e = refl
not_both true false e = refl
not_both false b e = absurd (cc)

left_free : (a b : Bool) → a ≡ true → b ≡ false → (a && not b) ≡ true
left_free true false e f = refl
left_free false b e f = absurd (cc)
left_free a true e f = absurd (cc)

was : (lane : Stretch) (old free before : List Stretch) (p : ℤ) → AreLeft lane old free before
    → IsWithin lane.from lane.to p → is_in_stretches before p ≡ is_in_stretches old p
was lane old free before p a w =
    a.back p ∙ ap (λ b. is_within lane.from lane.to p && not b) (a.rest p) ∙
    not_both (is_within lane.from lane.to p) (is_in_stretches old p) (within_test lane.from lane.to p w)

in_both : (xs ys : List Stretch) (p : ℤ) → is_in_stretches (xs ++ ys) p ≡ (is_in_stretches xs p || is_in_stretches ys p)
in_both xs ys p = list_any-append (λ s. is_within s.from s.to p) xs ys

-- what is not free of a lane is what was blocked of it
pub back_so_far : (tiles : List Corners) (label : List ℕ) (space i : ℕ) (lane : Stretch) (old free before : List Stretch)
    → lane.from ≡ first_of (rect_at tiles i) → lane.to ≡ last_of (rect_at tiles i)
    → AreLeft lane old free before → AreShutSoFar tiles label space i old → AreShutSoFar tiles label space i before
back_so_far tiles label space i lane old free before f g a s = record {
  each = λ p w t. s.each p w (sym (was lane old free before p a (rw (f, g) w)) ∙ t);
  touched = λ p k w n t. was lane old free before p a (rw (f, g) w) ∙ s.touched p k w n t;
}

-- ---- what is found beside the free positions is added

-- what some rectangles block is added
pub more_so_far : (tiles : List Corners) (label near : List ℕ) (space i : ℕ) (old found : List Stretch)
    → AreShutSoFar tiles label space i old → All (λ k. k < length tiles) near
    → AreBlocked tiles label space i near found → AreShutSoFar tiles label space i (old ++ found)
more_so_far tiles label near space i old found s inside b = record {
  each = λ p w t. elim (or_cases _ _ (sym (in_both old found p) ∙ t)) [
    | inl u ↦ s.each p w u
    | inr u ↦ let (m, k, n, e, h) = (b p w).0 u in (k, rw e at (inside m k n), h)
  ];
  touched = λ p k w n t. in_both old found p ∙ or_left _ _ (s.touched p k w n t);
}

part_by : (tile : Corners) (a b x y p : ℤ) (along : Bool) → lies_along_x tile ≡ along → IsIn tile x y
    → position_of tile x y ≡ p → IsWithin a b p → IsIn (part_of tile a b) x y
part_by tile a b x y p true e h at w =
    let q : x ≡ p = sym (ap (λ z. cond z x y) e) ∙ at in
    let c : Corners = record { x1 = a; y1 = tile.y1; x2 = b; y2 = tile.y2 } in
    let d : Corners = record { x1 = tile.x1; y1 = a; x2 = tile.x2; y2 = b } in
    let same : part_of tile a b ≡ c = ap (λ z. cond z c d) e in
    let in_c : IsIn c x y = record { column = rw q w; row = h.row } in
    subst (λ (r : Corners). IsIn r x y) (sym same) in_c
part_by tile a b x y p false e h at w =
    let q : y ≡ p = sym (ap (λ z. cond z x y) e) ∙ at in
    let c : Corners = record { x1 = a; y1 = tile.y1; x2 = b; y2 = tile.y2 } in
    let d : Corners = record { x1 = tile.x1; y1 = a; x2 = tile.x2; y2 = b } in
    let same : part_of tile a b ≡ d = ap (λ z. cond z c d) e in
    let in_d : IsIn d x y = record { column = h.column; row = rw q w } in
    subst (λ (r : Corners). IsIn r x y) (sym same) in_d

-- no position of a lane is in the stretches
pub adds_none : (tiles : List Corners) (label : List ℕ) (space i reach : ℕ) (lane : Stretch) (free old : List Stretch)
    → lane.from ≡ first_of (rect_at tiles i) → lane.to ≡ last_of (rect_at tiles i)
    → AreShutSoFar tiles label space i old
    → ((p : ℤ) → IsWithin lane.from lane.to p → is_in_stretches free p ≡ true → false ≡ true)
    → AddsShut tiles label space i reach free old old
adds_none tiles label space i reach lane free old f g s none = record {
  so_far = s;
  kept = λ p t. t;
  all = λ e p w t h. let lane_has : IsWithin lane.from lane.to p = rw (f, g) w in let q = none p lane_has t in absurd (cc);
}

-- what lies beside them within the spacing blocks all that is blocked of them
pub adds_beside : (tiles : List Corners) (label near : List ℕ) (most space i reach own : ℕ) (lane : Stretch) (from to : ℤ)
    → (part : Corners) (free old found : List Stretch) → lane.from ≡ first_of (rect_at tiles i)
    → lane.to ≡ last_of (rect_at tiles i) → AreShutSoFar tiles label space i old
    → ((p : ℤ) → IsWithin lane.from lane.to p → is_in_stretches free p ≡ true → is_within from to p ≡ true)
    → part ≡ part_of (rect_at tiles i) from to → own ≡ get_or label i 0
    → HasOthers (record { rects = tiles; shape = label; reach = most }) reach part own near
    → AreBlocked tiles label space i near found → AddsShut tiles label space i reach free old (old ++ found)
adds_beside tiles label near most space i reach own lane from to part free old found f g s span is_part is_own o b = record {
  so_far = more_so_far tiles label near space i old found s o.each b;
  kept = λ p t. in_both old found p ∙ or_left _ _ t;
  all = λ e p w t (k, n, h). new e p w t k n h;
} where
  new : reach ≡ space → (p : ℤ) → IsWithin (first_of (rect_at tiles i)) (last_of (rect_at tiles i)) p
      → is_in_stretches free p ≡ true → (k : ℕ) → k < length tiles
      → IsBlocking (rect_at tiles i) (rect_at tiles k) (are_other label i k) space p → is_in_stretches (old ++ found) p ≡ true
  new e p w t k n (inr touch) = in_both old found p ∙ or_left _ _ (s.touched p k w n touch)
  new e p w t k n (inl h) =
      let c = h.1 in
      let lane_has : IsWithin lane.from lane.to p = rw (f, g) w in
      let at : IsIn part c.x c.y = subst (λ (r : Corners). IsIn r c.x c.y) (sym is_part)
      (part_by (rect_at tiles i) from to c.x c.y p (lies_along_x (rect_at tiles i)) refl c.first c.at
      (test_within from to p (span p lane_has t))) in
      let other : get_or label k 0 ≢ own = λ q. they_differ _ _ h.0 (q ∙ is_own) in
      let m : Contains near k = o.all k n other (λ d. record {
        x = c.x;
        y = c.y;
        x' = c.x';
        y' = c.y';
        cells = record { first = at; second = rw (get_or_default tiles k d nowhere n) c.second };
        near = rw e c.near;
      }) in
      in_both old found p ∙ or_right _ _ ((b p w).1 (any_contains _ near k m (inl h)))

-- ---- group by group

-- what is blocked in the stretches is added, but for those of the rest
pub record AddsShutBut (tiles : List Corners) (label : List ℕ) (space i reach : ℕ) (free rest old new : List Stretch) : Type 0 where
  pub separate : AreSeparate rest
  pub so_far : AreShutSoFar tiles label space i new
  pub kept : (p : ℤ) → is_in_stretches old p ≡ true → is_in_stretches new p ≡ true
  pub all : reach ≡ space → (p : ℤ) → IsWithin (first_of (rect_at tiles i)) (last_of (rect_at tiles i)) p →
      is_in_stretches free p ≡ true → IsShut tiles label space i p → (is_in_stretches rest p ≡ true) ⊎ (is_in_stretches new p ≡ true)

pub adds_first : (tiles : List Corners) (label : List ℕ) (space i reach : ℕ) (free old : List Stretch) → AreSeparate free
    → AreShutSoFar tiles label space i old → AddsShutBut tiles label space i reach free free old old
adds_first tiles label space i reach free old a s = record {
  separate = a;
  so_far = s;
  kept = λ p t. t;
  all = λ e p w t h. inl t;
}

separate_left : (xs ys : List Stretch) → AreSeparate (xs ++ ys) → AreSeparate xs
separate_left xs ys a i j d h l = let n = length-append xs ys in
    rw (get_or_append_left xs ys d i (omega arith), get_or_append_left xs ys d j l) at (a i j d h (omega arith))

separate_right : (xs ys : List Stretch) → AreSeparate (xs ++ ys) → AreSeparate ys
separate_right xs ys a i j d h l = let n = length-append xs ys in
    rw (get_or-append-add xs ys i d, get_or-append-add xs ys j d) at (a (length xs + i) (length xs + j) d (omega arith) (omega arith))

-- the first of some stretches that lie separate
pub separate_front : (n : ℕ) (rest : List Stretch) → AreSeparate rest → AreSeparate (take n rest)
separate_front n rest a = separate_left (take n rest) (drop n rest) (rw take-append-drop a)

pub adds_next : (tiles : List Corners) (label : List ℕ) (space i reach n : ℕ) (free rest old now new : List Stretch)
    → AddsShut tiles label space i reach (take n rest) now new
    → AddsShutBut tiles label space i reach free rest old now
    → AddsShutBut tiles label space i reach free (drop n rest) old new
adds_next tiles label space i reach n free rest old now new a b = record {
  separate = separate_right (take n rest) (drop n rest) (rw take-append-drop b.separate);
  so_far = a.so_far;
  kept = λ p t. a.kept p (b.kept p t);
  all = λ e p w t h. elim (b.all e p w t h) [
    | inl u ↦ elim (or_cases _ _ (sym (in_both (take n rest) (drop n rest) p) ∙ ap (λ l. is_in_stretches l p) (take-append-drop n rest) ∙ u)) [
      | inl v ↦ inr (a.all e p w v h)
      | inr v ↦ inl v
    ]
    | inr u ↦ inr (a.kept p u)
  ];
}

pub adds_last : (tiles : List Corners) (label : List ℕ) (space i reach : ℕ) (free rest old new : List Stretch) → length rest ≤ 0
    → AddsShutBut tiles label space i reach free rest old new → AddsShut tiles label space i reach free old new
adds_last tiles label space i reach free [] old new e b = record {
  so_far = b.so_far;
  kept = b.kept;
  all = λ e p w t h. elim (b.all e p w t h) [ inl u ↦ absurd (cc) | inr u ↦ u ];
}
adds_last tiles label space i reach free (s ∷ rest) old new e b = absurd (omega arith)

-- where all that is blocked of what is free is added, all is found
pub adds_all : (tiles : List Corners) (label : List ℕ) (space i : ℕ) (lane : Stretch) (old free before new : List Stretch)
    → lane.from ≡ first_of (rect_at tiles i) → lane.to ≡ last_of (rect_at tiles i)
    → AreLeft lane old free before → AddsShut tiles label space i space free before new → AreShut tiles label space i new
adds_all tiles label space i lane old free before new f g a b p w = (
  b.so_far.each p w,
  (λ h. elim (truth (is_in_stretches old p)) [
    | inl e ↦ b.kept p (was lane old free before p a (rw (f, g) w) ∙ e)
    | inr e ↦ let lane_has : IsWithin lane.from lane.to p = rw (f, g) w in
        b.all refl p w (a.rest p ∙ left_free _ _ (within_test lane.from lane.to p lane_has) e) h
  ]),
)

-- ---- stretches that lie separate lie between the start of the first and the end of the last

pub between_ends : (ss : List Stretch) (first last : Stretch) (p : ℤ) → AreSeparate ss
    → first ≡ get_or ss 0 first → last ≡ get_or ss (length ss - 1) last
    → is_in_stretches ss p ≡ true → IsWithin first.from last.to p
between_ends ss first last p a e f t =
    let (k, s, n, g, h) = Any-from_list_any (λ (s : Stretch). is_within s.from s.to p) ss t in
    let w : IsWithin s.from s.to p = test_within s.from s.to p h in
    record { from = low k s n g w; to = high k s n g w } where
      low : (k : ℕ) (s : Stretch) → k < length ss → get_or ss k s ≡ s → IsWithin s.from s.to p → first.from ≤ℤ p
      low k s n g w = elim (cases_lt 0 k) [
        | inl h ↦ let b : first.to <ℤ s.from = rw (← e, get_or_default ss k first s n ∙ g) at (a 0 k first h n) in
            let c = first.wide in let d = w.from in omega signed
        | inr h ↦ let z : k ≡ 0 = omega arith in
            let q : first ≡ s = e ∙ get_or_default ss 0 first s (omega (arith, n)) ∙ sym (ap (λ m. get_or ss m s) z) ∙ g in
            rw q w.from
      ]

      high : (k : ℕ) (s : Stretch) → k < length ss → get_or ss k s ≡ s → IsWithin s.from s.to p → p <ℤ last.to
      high k s n g w = elim (cases_lt k (length ss - 1)) [
        | inl h ↦ let b : s.to <ℤ last.from = rw (get_or_default ss k last s n ∙ g, ← f) at (a k (length ss - 1) last h (omega (arith, n))) in
            let c = last.wide in let d = w.to in omega signed
        | inr h ↦ let z : k ≡ length ss - 1 = omega (arith, n) in
            let q : last ≡ s = f ∙ get_or_default ss (length ss - 1) last s (omega (arith, n)) ∙ sym (ap (λ m. get_or ss m s) z) ∙ g in
            rw q w.to
      ]

-- what a stretch marks of a lane lies in the lane
pub marked_part : (lane : Stretch) (has : ℤ → Type 0) (r : Option Stretch) → Marks has lane.from lane.to r → IsPartOf lane r
marked_part lane has None m = tt
marked_part lane has (Some s) m = ends_inside s.from s.to lane.from lane.to s.wide (λ x w. ((m x).0 w).0)

-- and all that it marks lies in the stretch
pub marked_all : (lane : Stretch) (has : ℤ → Type 0) (r : Option Stretch) (p : ℤ) → Marks has lane.from lane.to r
    → IsWithin lane.from lane.to p → has p → is_in_option r p ≡ true
marked_all lane has None p m w h = absurd (m p w h)
marked_all lane has (Some s) p m w h = within_test s.from s.to p ((m p).1 w h)

-- stretches that lie separate begin one after another
pub separate_ascends : (ss : List Stretch) → AreSeparate ss → Ascends (λ (s : Stretch). s.from) ss
separate_ascends ss a i j d h l = elim (cases_lt i j) [
  | inl m ↦ let b = a i j d m l in let c = (get_or ss i d).wide in omega signed
  | inr m ↦ let e : i ≡ j = omega (arith, h) in rw e (omega signed)
]

-- what is found so far stands in any order
pub moved_so_far : (tiles : List Corners) (label : List ℕ) (space i : ℕ) (old new : List Stretch)
    → ((p : ℤ) → is_in_stretches new p ≡ is_in_stretches old p) → AreShutSoFar tiles label space i old
    → AreShutSoFar tiles label space i new
moved_so_far tiles label space i old new e s = record {
  each = λ p w t. s.each p w (sym (e p) ∙ t);
  touched = λ p k w n t. e p ∙ s.touched p k w n t;
}
