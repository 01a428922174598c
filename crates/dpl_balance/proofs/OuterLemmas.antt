-- A mask has its fragments, and besides the halves of zones that lie in the other fragments: no two of these share a
-- cell, so the cells of a mask are as many as their sizes sum to.
use Rattle.std.proofs.Common.{arith, ◌≡◌, ◌↔◌, ◌+◌, ◌/◌, ◌<◌, ◌≤◌, ◌⊎◌, inl, inr, ℕ, zero, suc, ℤ, ◌<ℤ◌, ◌≤ℤ◌, Bool}
use Rattle.std.proofs.Common.{true, false, cond, List, [], ◌∷◌, ◌++◌, length, map, refl, sym, ap, subst, ◌∙◌, All}
use Rattle.std.proofs.Common.{AllPairs, get_or}
use Rattle.std.specs.Prelude.{sum_by, not, ◌&&◌, if◌then◌else◌}
use Rattle.std.proofs.lemmas.Bool.{true≢false, false≢true}
use Rattle.std.proofs.lemmas.List.{length-map, map-append}
use Rattle.std.proofs.lemmas.List.Sums.{sum_by-cons, sum_by-append}
use Rattle.std.proofs.lemmas.List.Kept.{AllPairs-cons}
use Rattle.std.proofs.lemmas.List.Elements.{All-nil, All-cons, All-append, All-map, All-weaker, All-head, All-tail}
use Rattle.dpl_list.proofs.Integers.{signed}
use Rattle.dpl_list.proofs.Lists.{pairs_head, pairs_tail, any_head, any_tail, any_left, any_right, all_pairs_append, any_split}
use Rattle.dpl_cycle.specs.Sums.{sum_on}
use Rattle.dpl_cycle.proofs.SumLemmas.{sum_same}
use Rattle.dpl_cell.specs.declared.rect.Rect.{Rect}
use Rattle.dpl_cell.specs.Places.{Corners, corners_of}
use Rattle.dpl_cell.specs.Cells.{IsIn, SharesCell, AreApart}
use Rattle.dpl_sign.specs.Colourings.{agree, colour_of}
use Rattle.dpl_cuts.specs.declared.types.Cut.{Cut}
use Rattle.dpl_cuts.specs.declared.types.Fragments.{Fragments}
use Rattle.dpl_cuts.specs.Positions.{nowhere, rect_at}
use Rattle.dpl_cuts.specs.Fragments.{AreFragments, CameFromCut}
use Rattle.dpl_cuts.proofs.AssembleLemmas.{came_apart}
use Rattle.dpl_good.specs.MaskRects.{where_same, fragments_on, is_zone, zones_of, mask_of}
use Rattle.dpl_balance.specs.Areas.{area_of, area_at, fragments_area, half_zone, zones_area, all_fragments, mask_area}
use Rattle.dpl_balance.specs.Cells.{HoldCell, HasCells}
use Rattle.dpl_balance.proofs.ListedLemmas.{IsProper, apart_cells, same_cells}
use Rattle.dpl_balance.proofs.ZoneHalves.{rects_of, half_of, owner, IsCutOf, IsHere, here, AreHere, half_in_fragment}
use Rattle.dpl_balance.proofs.ZoneHalves.{half_in_zone, zone_in_halves, half_of_area, half_proper, halves_apart}
use Rattle.dpl_balance.proofs.ZoneHalves.{numbers_apart, owner_within}

-- ---- the fragments of a mask

own_rects : Bool → List Rect → List Bool → List Corners
own_rects on_b rects colours = map corners_of (fragments_on on_b rects colours)

all_kept : (P : Corners → Type 0) (on_b : Bool) (rects : List Rect) (colours : List Bool) → All P (map corners_of rects) → All P (own_rects on_b rects colours)
unfolding own_rects
all_kept P on_b [] colours a = All-nil P
all_kept P on_b (r ∷ rs) [] a = All-nil P
all_kept P on_b (r ∷ rs) (c ∷ cs) a = by_test (agree c on_b) (all_kept P on_b rs cs (All-tail P (corners_of r) (map corners_of rs) a)) where
  by_test : (t : Bool) → All P (own_rects on_b rs cs) → All P (map corners_of (where_same t r (fragments_on on_b rs cs)))
  by_test true others = All-cons P (corners_of r) (own_rects on_b rs cs) (All-head P (corners_of r) (map corners_of rs) a) others
  by_test false others = others

own_apart : (on_b : Bool) (rects : List Rect) (colours : List Bool) → AllPairs AreApart (map corners_of rects)
    → AllPairs AreApart (own_rects on_b rects colours)
unfolding own_rects
own_apart on_b [] colours a = λ i j d l m. absurd (omega (arith, m))
own_apart on_b (r ∷ rs) [] a = λ i j d l m. absurd (omega (arith, m))
own_apart on_b (r ∷ rs) (c ∷ cs) a = by_test (agree c on_b) (own_apart on_b rs cs (pairs_tail AreApart (corners_of r) (map corners_of rs) a)) where
  by_test : (t : Bool) → AllPairs AreApart (own_rects on_b rs cs) → AllPairs AreApart (map corners_of (where_same t r (fragments_on on_b rs cs)))
  by_test true others = AllPairs-cons AreApart (corners_of r) (own_rects on_b rs cs)
      (all_kept (AreApart (corners_of r)) on_b rs cs (pairs_head AreApart (corners_of r) (map corners_of rs) a)) others
  by_test false others = others

-- a rectangle of the mask is a fragment of its colour
record IsOwn (on_b : Bool) (rects : List Rect) (colours : List Bool) (r : Corners) : Type 0 where
  number : ℕ
  within : number < length rects
  colour : agree (colour_of colours number) on_b ≡ true
  is : r ≡ rect_at (map corners_of rects) number

later_own : (on_b : Bool) (r : Rect) (rs : List Rect) (c : Bool) (cs : List Bool) (s : Corners) → IsOwn on_b rs cs s → IsOwn on_b (r ∷ rs) (c ∷ cs) s
later_own on_b r rs c cs s o = let w = o.within in record { number = suc o.number; within = omega arith; colour = o.colour; is = o.is }

own_are : (on_b : Bool) (rects : List Rect) (colours : List Bool) → All (IsOwn on_b rects colours) (own_rects on_b rects colours)
unfolding own_rects
own_are on_b [] colours = All-nil (IsOwn on_b [] colours)
own_are on_b (r ∷ rs) [] = All-nil (IsOwn on_b (r ∷ rs) [])
own_are on_b (r ∷ rs) (c ∷ cs) = by_test (agree c on_b) refl
    (All-weaker (IsOwn on_b rs cs) (IsOwn on_b (r ∷ rs) (c ∷ cs)) (later_own on_b r rs c cs) (own_rects on_b rs cs)
    (own_are on_b rs cs)) where
      by_test : (t : Bool) → agree c on_b ≡ t → All (IsOwn on_b (r ∷ rs) (c ∷ cs)) (own_rects on_b rs cs) →
          All (IsOwn on_b (r ∷ rs) (c ∷ cs)) (map corners_of (where_same t r (fragments_on on_b rs cs)))
      by_test true e others = All-cons (IsOwn on_b (r ∷ rs) (c ∷ cs)) (corners_of r) (own_rects on_b rs cs)
          (record { number = 0; within = omega arith; colour = e; is = refl }) others
      by_test false e others = others

-- a cell of a fragment of this colour is on the mask
own_held : (on_b : Bool) (rects : List Rect) (colours : List Bool) (i : ℕ) (x y : ℤ)
    → length colours ≡ length rects → i < length rects → agree (colour_of colours i) on_b ≡ true
    → IsIn (rect_at (map corners_of rects) i) x y → HoldCell (own_rects on_b rects colours) x y
unfolding own_rects
own_held on_b [] colours i x y n l o h = absurd (omega (arith, l))
own_held on_b (r ∷ rs) [] i x y n l o h = absurd (omega (arith, n))
own_held on_b (r ∷ rs) (c ∷ cs) zero x y n l o h = by_test (agree c on_b) o where
  by_test : (t : Bool) → t ≡ true → HoldCell (map corners_of (where_same t r (fragments_on on_b rs cs))) x y
  by_test true e = any_head (λ r. IsIn r x y) (corners_of r) (own_rects on_b rs cs) h
  by_test false e = absurd (false≢true e)
own_held on_b (r ∷ rs) (c ∷ cs) (suc i) x y n l o h = by_test (agree c on_b) (own_held on_b rs cs i x y (omega (arith, n)) (omega (arith, l)) o h) where
  by_test : (t : Bool) → HoldCell (own_rects on_b rs cs) x y → HoldCell (map corners_of (where_same t r (fragments_on on_b rs cs))) x y
  by_test true others = any_tail (λ r. IsIn r x y) (corners_of r) (own_rects on_b rs cs) others
  by_test false others = others

-- ---- their sizes

sum_first : (n : ℕ) (p : ℕ → Bool) (w : ℕ → ℕ) → sum_on p w (suc n) ≡ cond {A = ℕ} (p 0) (w 0) 0 + sum_on (λ v. p (suc v)) (λ v. w (suc v)) n
sum_first zero p w = omega arith
sum_first (suc n) p w = omega (arith, sum_first n p w)

own_area : (on_b : Bool) (rects : List Rect) (colours : List Bool) → length colours ≡ length rects
    → sum_by area_of (own_rects on_b rects colours) ≡ fragments_area rects all_fragments on_b colours
unfolding own_rects
own_area on_b [] colours n = refl
own_area on_b (r ∷ rs) [] n = absurd (omega (arith, n))
own_area on_b (r ∷ rs) (c ∷ cs) n = by_test (own_area on_b rs cs (omega (arith, n))) (agree c on_b) refl ∙
    sym (sum_first (length rs) (λ v. agree (colour_of (c ∷ cs) v) on_b) (area_at (r ∷ rs))) where
      by_test : sum_by area_of (own_rects on_b rs cs) ≡ fragments_area rs all_fragments on_b cs → (t : Bool) →
          agree c on_b ≡ t → sum_by area_of (map corners_of (where_same t r (fragments_on on_b rs cs))) ≡ cond {A = ℕ}
          (agree c on_b) (area_of (corners_of r)) 0 + fragments_area rs all_fragments on_b cs
      by_test rest true e = sum_by-cons area_of (corners_of r) (own_rects on_b rs cs) ∙
          omega (arith, rest, ap (λ b. cond {A = ℕ} b (area_of (corners_of r)) 0) e)
      by_test rest false e = omega (arith, rest, ap (λ b. cond {A = ℕ} b (area_of (corners_of r)) 0) e)

-- ---- the halves in other fragments

-- the half of the zone that lies in the fragment of the other colour: behind the cut where the first is on this mask
outer : ℕ → List Corners → Fragments → Bool → List Bool → Cut → Corners
outer over tiles f on_b colours c = half_of over tiles f c (agree (colour_of colours c.a) on_b)

put_where : Bool → Corners → List Corners → List Corners
put_where t r rs = if t then r ∷ rs else rs

outers : ℕ → List Corners → Fragments → Bool → List Bool → List Cut → List Corners
outers over tiles f on_b colours [] = []
outers over tiles f on_b colours (c ∷ cs) = put_where (is_zone colours c) (outer over tiles f on_b colours c) (outers over tiles f on_b colours cs)

outer_colour : (c : Cut) (colours : List Bool) (on_b : Bool) → is_zone colours c ≡ true
    → agree (colour_of colours (owner c (agree (colour_of colours c.a) on_b))) on_b ≡ false
outer_colour c colours on_b e = by_colours (colour_of colours c.a) refl (colour_of colours c.b) refl on_b e where
  by_colours : (a : Bool) → colour_of colours c.a ≡ a → (b : Bool) → colour_of colours c.b ≡ b → (on_b : Bool) →
      not (agree a b) ≡ true → agree (colour_of colours (owner c (agree a on_b))) on_b ≡ false
  by_colours true f true g on_b e = absurd (false≢true e)
  by_colours false f false g on_b e = absurd (false≢true e)
  by_colours true f false g true e = ap (λ z. agree z true) g
  by_colours true f false g false e = ap (λ z. agree z false) f
  by_colours false f true g true e = ap (λ z. agree z true) f
  by_colours false f true g false e = ap (λ z. agree z false) g

inner_colour : (c : Cut) (colours : List Bool) (on_b : Bool) → is_zone colours c ≡ true
    → agree (colour_of colours (owner c (not (agree (colour_of colours c.a) on_b)))) on_b ≡ true
inner_colour c colours on_b e = by_colours (colour_of colours c.a) refl (colour_of colours c.b) refl on_b e where
  by_colours : (a : Bool) → colour_of colours c.a ≡ a → (b : Bool) → colour_of colours c.b ≡ b → (on_b : Bool) →
      not (agree a b) ≡ true → agree (colour_of colours (owner c (not (agree a on_b)))) on_b ≡ true
  by_colours true f true g on_b e = absurd (false≢true e)
  by_colours false f false g on_b e = absurd (false≢true e)
  by_colours true f false g true e = ap (λ z. agree z true) f
  by_colours true f false g false e = ap (λ z. agree z false) g
  by_colours false f true g true e = ap (λ z. agree z true) g
  by_colours false f true g false e = ap (λ z. agree z false) f

-- an outer half lies in a fragment of the other colour
record IsOuter (f : Fragments) (on_b : Bool) (colours : List Bool) (q : Corners) : Type 0 where
  number : ℕ
  within : number < length (rects_of f)
  colour : agree (colour_of colours number) on_b ≡ false
  inside : (x y : ℤ) → IsIn q x y → IsIn (rect_at (rects_of f) number) x y

outer_is : (keep : List Corners) (space over : ℕ) (tiles : List Corners) (f : Fragments) (on_b : Bool) (colours : List Bool) (c : Cut)
    → AreHere keep space over tiles f → IsCutOf over tiles f c → is_zone colours c ≡ true
    → IsOuter f on_b colours (outer over tiles f on_b colours c)
unfolding outer
outer_is keep space over tiles f on_b colours c a i e = record {
  number = owner c (agree (colour_of colours c.a) on_b);
  within = owner_within over tiles f c i (agree (colour_of colours c.a) on_b);
  colour = outer_colour c colours on_b e;
  inside = half_in_fragment keep space over tiles f c (a.cut c i) (agree (colour_of colours c.a) on_b);
}

-- a property of the outer half at each broken cut holds of all outer halves
all_outers : (P : Corners → Type 0) (over : ℕ) (tiles : List Corners) (f : Fragments) (on_b : Bool) (colours : List Bool) (cuts : List Cut)
    → All (λ (c : Cut). is_zone colours c ≡ true → P (outer over tiles f on_b colours c)) cuts → All P (outers over tiles f on_b colours cuts)
unfolding outers put_where
all_outers P over tiles f on_b colours [] a = All-nil P
all_outers P over tiles f on_b colours (c ∷ cs) a =
    by_test (all_outers P over tiles f on_b colours cs
    (All-tail (λ (c : Cut). is_zone colours c ≡ true → P (outer over tiles f on_b colours c)) c cs a))
    (is_zone colours c) refl where
      by_test : All P (outers over tiles f on_b colours cs) → (t : Bool) → is_zone colours c ≡ t →
          All P (put_where t (outer over tiles f on_b colours c) (outers over tiles f on_b colours cs))
      by_test others true e = All-cons P (outer over tiles f on_b colours c) (outers over tiles f on_b colours cs)
          (All-head (λ (c : Cut). is_zone colours c ≡ true → P (outer over tiles f on_b colours c)) c cs a e) others
      by_test others false e = others

outers_apart : (keep : List Corners) (space over : ℕ) (tiles : List Corners) (f : Fragments) (on_b : Bool) (colours : List Bool) (cuts : List Cut)
    → AreHere keep space over tiles f → All (IsCutOf over tiles f) cuts
    → AllPairs (λ (c d : Cut). c.a < d.a) cuts → AllPairs AreApart (outers over tiles f on_b colours cuts)
unfolding outers put_where outer
outers_apart keep space over tiles f on_b colours [] a all ordered = λ i j d l m. absurd (omega (arith, m))
outers_apart keep space over tiles f on_b colours (c ∷ cs) a all ordered =
    by_test (outers_apart keep space over tiles f on_b colours cs a (All-tail (IsCutOf over tiles f) c cs all)
    (pairs_tail (λ (c d : Cut). c.a < d.a) c cs ordered)) (is_zone colours c) where
      here_apart : All (AreApart (outer over tiles f on_b colours c)) (outers over tiles f on_b colours cs)
      here_apart = all_outers (AreApart (outer over tiles f on_b colours c)) over tiles f on_b colours cs
          (λ k d l e. halves_apart keep space over tiles f a c (get_or cs k d)
          (All-head (IsCutOf over tiles f) c cs all) (All-tail (IsCutOf over tiles f) c cs all k d l)
          (pairs_head (λ (c d : Cut). c.a < d.a) c cs ordered k d l) (agree (colour_of colours c.a) on_b)
          (agree (colour_of colours (get_or cs k d).a) on_b))

      by_test : AllPairs AreApart (outers over tiles f on_b colours cs) → (t : Bool) →
          AllPairs AreApart (put_where t (outer over tiles f on_b colours c) (outers over tiles f on_b colours cs))
      by_test others true = AllPairs-cons AreApart (outer over tiles f on_b colours c) (outers over tiles f on_b colours cs) here_apart others
      by_test others false = others

outers_area : (over : ℕ) (tiles : List Corners) (f : Fragments) (on_b : Bool) (colours : List Bool) (cuts : List Cut)
    → All (IsCutOf over tiles f) cuts
    → sum_by area_of (outers over tiles f on_b colours cuts) ≡ zones_area cuts all_fragments colours
unfolding outers put_where outer
outers_area over tiles f on_b colours [] all = refl
outers_area over tiles f on_b colours (c ∷ cs) all =
    by_test (outers_area over tiles f on_b colours cs (All-tail (IsCutOf over tiles f) c cs all)) (is_zone colours c)
    refl ∙ sym (sum_by-cons (half_zone all_fragments colours) c cs) where
      size : area_of (outer over tiles f on_b colours c) ≡ area_of (corners_of c.zone) / 2
      size = half_of_area over tiles f c (All-head (IsCutOf over tiles f) c cs all) (agree (colour_of colours c.a) on_b)

      by_test : sum_by area_of (outers over tiles f on_b colours cs) ≡ zones_area cs all_fragments colours →
          (t : Bool) → is_zone colours c ≡ t → sum_by area_of
          (put_where t (outer over tiles f on_b colours c) (outers over tiles f on_b colours cs)) ≡ half_zone
          all_fragments colours c + zones_area cs all_fragments colours
      by_test rest true e = sum_by-cons area_of (outer over tiles f on_b colours c)
          (outers over tiles f on_b colours cs) ∙ omega
          (arith, rest, size, ap (λ b. cond {A = ℕ} b (area_of (corners_of c.zone) / 2) 0) e)
      by_test rest false e = omega (arith, rest, ap (λ b. cond {A = ℕ} b (area_of (corners_of c.zone) / 2) 0) e)

-- ---- the cells of the zones

zone_rects : List Bool → List Cut → List Corners
zone_rects colours cuts = map corners_of (zones_of colours cuts)

outers_on_zones : (over : ℕ) (tiles : List Corners) (f : Fragments) (on_b : Bool) (colours : List Bool) (cuts : List Cut)
    → All (IsCutOf over tiles f) cuts → (x y : ℤ) → HoldCell (outers over tiles f on_b colours cuts) x y
    → HoldCell (zone_rects colours cuts) x y
unfolding outers put_where outer zone_rects
outers_on_zones over tiles f on_b colours [] all x y (k, s, l, e, i) = absurd (omega (arith, l))
outers_on_zones over tiles f on_b colours (c ∷ cs) all x y h =
    by_test (outers_on_zones over tiles f on_b colours cs (All-tail (IsCutOf over tiles f) c cs all) x y)
    (is_zone colours c) h where
      either : (HoldCell (outers over tiles f on_b colours cs) x y → HoldCell (zone_rects colours cs) x y) →
          HoldCell (outer over tiles f on_b colours c ∷ outers over tiles f on_b colours cs) x y →
          HoldCell (corners_of c.zone ∷ zone_rects colours cs) x y
      either others (zero, s, l, e, i) =
          let P : Corners → Type 0 = λ s. IsIn s x y in
          any_head (λ r. IsIn r x y) (corners_of c.zone) (zone_rects colours cs)
          (half_in_zone over tiles f c (All-head (IsCutOf over tiles f) c cs all) (agree (colour_of colours c.a) on_b) x
          y (subst P (sym e) i))
      either others (suc k, s, l, e, i) = any_tail (λ r. IsIn r x y) (corners_of c.zone) (zone_rects colours cs) (others (k, s, omega (arith, l), e, i))

      by_test : (HoldCell (outers over tiles f on_b colours cs) x y → HoldCell (zone_rects colours cs) x y) → (t : Bool) →
          HoldCell (put_where t (outer over tiles f on_b colours c) (outers over tiles f on_b colours cs)) x y →
          HoldCell (map corners_of (where_same t c.zone (zones_of colours cs))) x y
      by_test others true h = either others h
      by_test others false h = others h

zones_on_mask : (keep : List Corners) (space over : ℕ) (tiles : List Corners) (f : Fragments) (on_b : Bool) (colours : List Bool) (cuts : List Cut)
    → length colours ≡ length f.rects → AreHere keep space over tiles f → All (IsCutOf over tiles f) cuts
    → (x y : ℤ) → HoldCell (zone_rects colours cuts) x y
    → HoldCell (own_rects on_b f.rects colours) x y ⊎ HoldCell (outers over tiles f on_b colours cuts) x y
unfolding outers put_where outer zone_rects
zones_on_mask keep space over tiles f on_b colours [] n a all x y (k, s, l, e, i) = absurd (omega (arith, l))
zones_on_mask keep space over tiles f on_b colours (c ∷ cs) n a all x y h =
    by_test (zones_on_mask keep space over tiles f on_b colours cs n a (All-tail (IsCutOf over tiles f) c cs all) x y)
    (is_zone colours c) refl h where
      Later : Type 0
      Later = HoldCell (zone_rects colours cs) x y → HoldCell (own_rects on_b f.rects colours) x y ⊎ HoldCell (outers over tiles f on_b colours cs) x y

      cut : IsCutOf over tiles f c
      cut = All-head (IsCutOf over tiles f) c cs all

      -- the half in the fragment of this mask, or the other one
      by_half : is_zone colours c ≡ true → (b own : Bool) → agree (colour_of colours c.a) on_b ≡ own →
          IsIn (half_of over tiles f c b) x y → HoldCell (own_rects on_b f.rects colours) x y ⊎
          HoldCell (outer over tiles f on_b colours c ∷ outers over tiles f on_b colours cs) x y
      by_half e b own g i = elim (same_or_not b own) [
        | inl s ↦ inr (any_head (λ r. IsIn r x y) (outer over tiles f on_b colours c) (outers over tiles f on_b colours cs)
            (let P : Bool → Type 0 = λ z. IsIn (half_of over tiles f c z) x y in subst P (s ∙ sym g) i))
        | inr s ↦
            let P : Bool → Type 0 = λ z. agree (colour_of colours (owner c z)) on_b ≡ true in
            let colour : agree (colour_of colours (owner c b)) on_b ≡ true = subst P (ap not g ∙ sym s) (inner_colour c colours on_b e) in
            let m = owner_within over tiles f c cut b in
            inl (own_held on_b f.rects colours (owner c b) x y n (let k = length-map f.rects corners_of in omega arith)
            colour (half_in_fragment keep space over tiles f c (a.cut c cut) b x y i))
      ] where
        same_or_not : (b own : Bool) → (b ≡ own) ⊎ (b ≡ not own)
        same_or_not true true = inl refl
        same_or_not true false = inr refl
        same_or_not false true = inr refl
        same_or_not false false = inl refl

      either : Later → is_zone colours c ≡ true → HoldCell (corners_of c.zone ∷ zone_rects colours cs) x y →
          HoldCell (own_rects on_b f.rects colours) x y ⊎ HoldCell
          (outer over tiles f on_b colours c ∷ outers over tiles f on_b colours cs) x y
      either others e (zero, s, l, g, i) =
          let P : Corners → Type 0 = λ s. IsIn s x y in
          elim (zone_in_halves over tiles f c cut x y (subst P (sym g) i)) [
            | inl j ↦ by_half e false (agree (colour_of colours c.a) on_b) refl j
            | inr j ↦ by_half e true (agree (colour_of colours c.a) on_b) refl j
          ]
      either others e (suc k, s, l, g, i) = elim (others (k, s, omega (arith, l), g, i)) [
        | inl o ↦ inl o
        | inr o ↦ inr (any_tail (λ r. IsIn r x y) (outer over tiles f on_b colours c) (outers over tiles f on_b colours cs) o)
      ]

      by_test : Later → (t : Bool) → is_zone colours c ≡ t →
          HoldCell (map corners_of (where_same t c.zone (zones_of colours cs))) x y →
          HoldCell (own_rects on_b f.rects colours) x y ⊎ HoldCell
          (put_where t (outer over tiles f on_b colours c) (outers over tiles f on_b colours cs)) x y
      by_test others true e h = either others e h
      by_test others false e h = others h

-- ---- the mask

rect_proper : (r : Rect) → IsProper (corners_of r)
rect_proper r = let w = r.wide in let h = r.high in record { wide = omega signed; high = omega signed }

rects_proper : (f : Fragments) → All IsProper (rects_of f)
rects_proper f = All-map IsProper corners_of f.rects (λ k d l. rect_proper (get_or f.rects k d))

colours_differ : (a on_b : Bool) → agree a on_b ≡ true → agree a on_b ≡ false → ⊥
colours_differ a on_b e g = true≢false (sym e ∙ g)

-- the fragments of the mask and the outer halves
mask_parts : ℕ → List Corners → Fragments → Bool → List Bool → List Corners
mask_parts over tiles f on_b colours = own_rects on_b f.rects colours ++ outers over tiles f on_b colours f.cuts

parts_proper : (keep : List Corners) (space over : ℕ) (tiles : List Corners) (f : Fragments) (on_b : Bool) (colours : List Bool)
    → AreHere keep space over tiles f → All (IsCutOf over tiles f) f.cuts
    → All IsProper (mask_parts over tiles f on_b colours)
unfolding mask_parts outer
parts_proper keep space over tiles f on_b colours a all = All-append IsProper (own_rects on_b f.rects colours) (outers over tiles f on_b colours f.cuts)
    (all_kept IsProper on_b f.rects colours (rects_proper f))
    (all_outers IsProper over tiles f on_b colours f.cuts (λ k d l e.
    let c = get_or f.cuts k d in
    let i : IsCutOf over tiles f c = all k d l in
    let m : c.a < length (rects_of f) = let r = i.rising in let w = i.within in omega arith in
    half_proper keep space over tiles f c (a.cut c i) (rects_proper f c.a nowhere m) (agree (colour_of colours c.a) on_b)))

parts_apart : (keep : List Corners) (space over : ℕ) (tiles : List Corners) (f : Fragments) (on_b : Bool) (colours : List Bool)
    → AreHere keep space over tiles f → All (IsCutOf over tiles f) f.cuts
    → AllPairs (λ (c d : Cut). c.a < d.a) f.cuts → AllPairs AreApart (mask_parts over tiles f on_b colours)
unfolding mask_parts
parts_apart keep space over tiles f on_b colours a all ordered =
    all_pairs_append AreApart (own_rects on_b f.rects colours) (outers over tiles f on_b colours f.cuts)
    (own_apart on_b f.rects colours a.apart) (outers_apart keep space over tiles f on_b colours f.cuts a all ordered)
    (λ i j d l m shared.
    let own = own_are on_b f.rects colours i d l in
    let other = outers_are j d m in
    let n : own.number < length (rects_of f) = let k = length-map f.rects corners_of in let w = own.within in omega arith in
    let P : Corners → Type 0 = λ r. IsIn r shared.x shared.y in
    numbers_apart f a.apart own.number other.number n other.within
    (λ e. colours_differ (colour_of colours own.number) on_b own.colour
    (ap (λ k. agree (colour_of colours k) on_b) e ∙ other.colour)) shared.x shared.y
    (subst P own.is shared.first) (other.inside shared.x shared.y shared.second)) where
      outers_are : All (IsOuter f on_b colours) (outers over tiles f on_b colours f.cuts)
      outers_are = all_outers (IsOuter f on_b colours) over tiles f on_b colours f.cuts
          (λ k d l e. outer_is keep space over tiles f on_b colours (get_or f.cuts k d) a (all k d l) e)

parts_area : (over : ℕ) (tiles : List Corners) (f : Fragments) (on_b : Bool) (colours : List Bool)
    → length colours ≡ length f.rects → All (IsCutOf over tiles f) f.cuts
    → sum_by area_of (mask_parts over tiles f on_b colours) ≡ mask_area f on_b colours
unfolding mask_parts
parts_area over tiles f on_b colours n all = sum_by-append area_of (own_rects on_b f.rects colours) (outers over tiles f on_b colours f.cuts)
    ∙ omega (arith, own_area on_b f.rects colours n, outers_area over tiles f on_b colours f.cuts all)

mask_is : (f : Fragments) (on_b : Bool) (colours : List Bool)
    → map corners_of (mask_of on_b f colours) ≡ own_rects on_b f.rects colours ++ zone_rects colours f.cuts
unfolding own_rects zone_rects
mask_is f on_b colours = map-append corners_of (fragments_on on_b f.rects colours) (zones_of colours f.cuts)

parts_same : (keep : List Corners) (space over : ℕ) (tiles : List Corners) (f : Fragments) (on_b : Bool) (colours : List Bool)
    → length colours ≡ length f.rects → AreHere keep space over tiles f → All (IsCutOf over tiles f) f.cuts
    → (x y : ℤ)
    → HoldCell (mask_parts over tiles f on_b colours) x y ↔ HoldCell (map corners_of (mask_of on_b f colours)) x y
unfolding mask_parts
parts_same keep space over tiles f on_b colours n a all x y =
    let C : Corners → Type 0 = λ r. IsIn r x y in
    let own = own_rects on_b f.rects colours in
    let outside = outers over tiles f on_b colours f.cuts in
    let zones = zone_rects colours f.cuts in
    let P : List Corners → Type 0 = λ rs. HoldCell rs x y in (
      λ h. subst P (sym (mask_is f on_b colours)) (elim (any_split C own outside h) [
        | inl o ↦ any_left C own zones o
        | inr o ↦ any_right C own zones (outers_on_zones over tiles f on_b colours f.cuts all x y o)
      ]),
      λ h. elim (any_split C own zones (subst P (mask_is f on_b colours) h)) [
        | inl o ↦ any_left C own outside o
        | inr z ↦ elim (zones_on_mask keep space over tiles f on_b colours f.cuts n a all x y z) [
          | inl o ↦ any_left C own outside o
          | inr o ↦ any_right C own outside o
        ]
      ],
    )

-- a mask of fragments that came from tiles has as many cells as its area says
pub mask_cells : (space : ℕ) (f : Fragments) (on_b : Bool) (colours : List Bool)
    → length colours ≡ length f.rects → CameFromCut space f
    → HasCells (HoldCell (map corners_of (mask_of on_b f colours))) (mask_area f on_b colours)
mask_cells space f on_b colours n came =
    let a : AreHere came.keep space came.over came.tiles f =
    record {
      wide = came.lengths.wide;
      apart = came_apart space f came;
      cut =
          λ c i. here came.keep space came.over came.tiles came.label f c came.lengths.wide came.fragments i;
    } in
    let all = came.fragments.cuts.each in
    let parts = mask_parts came.over came.tiles f on_b colours in
    let counted = apart_cells parts (parts_proper came.keep space came.over came.tiles f on_b colours a all)
    (parts_apart came.keep space came.over came.tiles f on_b colours a all came.fragments.cuts.ordered) in
    let H : ℕ → Type 0 = HasCells (HoldCell parts) in
    same_cells (HoldCell parts) (HoldCell (map corners_of (mask_of on_b f colours))) (mask_area f on_b colours)
    (parts_same came.keep space came.over came.tiles f on_b colours n a all)
    (subst H (parts_area came.over came.tiles f on_b colours n all) counted)
