-- Tiles with their shapes have one list of fragments with their cuts.
use Rattle.std.proofs.Common.{arith, ◌≡◌, ◌<◌, ◌≤◌, inl, inr, ℕ, zero, suc, List, [], ◌∷◌, length, map, sym, ap, ◌∙◌, subst, AllPairs, Contains, get_or}
use Rattle.std.proofs.lemmas.Bool.{cases_lt}
use Rattle.std.proofs.lemmas.List.{get_or_default, length-map}
use Rattle.std.proofs.lemmas.List.Elements.{All-contains}
use Rattle.dpl_cell.specs.Places.{Corners, corners_of}
use Rattle.dpl_cell.specs.Tiles.{IsBefore}
use Rattle.dpl_cell.proofs.Same.{same_corners}
use Rattle.dpl_cuts.specs.declared.types.Cut.{Cut}
use Rattle.dpl_cuts.specs.declared.types.Fragments.{Fragments}
use Rattle.dpl_cuts.specs.Positions.{nowhere, rect_at, end_of}
use Rattle.dpl_cuts.specs.Cuts.{zone_at}
use Rattle.dpl_cuts.specs.Fragments.{IsFragmentOf, AreParts, IsCut, AreCuts, AreFragments, HasMoreFragments}
use Rattle.dpl_list.proofs.Ordered.{maps_same, ordered_same, lists_same}
use Rattle.dpl_cell.proofs.OrderLemmas.{before_once}
use Rattle.dpl_list.proofs.Lists.{no_more}

-- ---- fragments

-- the first list of fragments has each of the second
found : (keep : List Corners) (space over : ℕ) (tiles : List Corners) (label l : List ℕ) (a b : List Corners) (tile shape t s : List ℕ)
    → AreParts keep space over tiles label a tile shape → AreParts keep space over tiles l b t s
    → (z : Corners) → Contains a z → Contains b z
found keep space over tiles label l a b tile shape t s p q z c =
    let i = get_or tile c.0 0 in
    let own : rect_at a c.0 ≡ z = get_or_default a c.0 _ z c.1 ∙ c.2 in
    let part : IsFragmentOf keep space over tiles i z = subst (λ w. IsFragmentOf keep space over tiles i w) own (p.each c.0 c.1) in
    let k = q.all i z part in
    (k.0, k.1.within, get_or_default b k.0 z _ k.1.within ∙ k.1.is)

-- tiles have one list of fragments
pub parts_same : (keep : List Corners) (space over : ℕ) (tiles : List Corners) (label l : List ℕ) (a b : List Corners) (tile shape t s : List ℕ)
    → AreParts keep space over tiles label a tile shape → AreParts keep space over tiles l b t s → a ≡ b
parts_same keep space over tiles label l a b tile shape t s p q = ordered_same IsBefore before_once a b p.ordered q.ordered
    (λ z c. found keep space over tiles label l a b tile shape t s p q z c)
    (λ z c. found keep space over tiles l label b a t s tile shape q p z c)

-- no two places of an ordered list hold one rectangle
one_place : (rects : List Corners) (i j : ℕ) → AllPairs IsBefore rects → i < length rects → j < length rects → rect_at rects i ≡ rect_at rects j → i ≡ j
one_place rects i j up h l e = elim (cases_lt i j) [
  | inl a ↦ absurd (never (rect_at rects i) (rect_at rects j) e (up i j nowhere a l))
  | inr a ↦ elim (cases_lt j i) [
    | inl b ↦ absurd (never (rect_at rects j) (rect_at rects i) (sym e) (up j i nowhere b h))
    | inr b ↦ omega arith
  ]
] where
  never : (r s : Corners) → r ≡ s → IsBefore r s → ⊥
  never r s f b = let P : Corners → Type 0 = λ c. IsBefore r c in let Q : Corners → Type 0 = λ c. IsBefore c r in
      before_once r r (subst P (sym f) b) (subst P (sym f) b)

pub tile_same : (keep : List Corners) (space over : ℕ) (tiles : List Corners) (label l : List ℕ) (rects : List Corners) (tile shape t s : List ℕ)
    → AreParts keep space over tiles label rects tile shape → AreParts keep space over tiles l rects t s
    → tile ≡ t
tile_same keep space over tiles label l rects tile shape t s p q = lists_same tile t 0 (p.tile_long ∙ sym q.tile_long)
    (λ k h.
    let w : k < length rects = let e = p.tile_long in omega arith in
    let (m, n) = q.all (get_or tile k 0) (rect_at rects k) (p.each k w) in
    let e : m ≡ k = one_place rects m k p.ordered n.within w n.is in
    sym n.own ∙ ap (λ i. get_or t i 0) e)

pub shape_same : (keep : List Corners) (space over : ℕ) (tiles : List Corners) (label : List ℕ) (rects : List Corners) (tile shape s : List ℕ)
    → AreParts keep space over tiles label rects tile shape
    → AreParts keep space over tiles label rects tile s → shape ≡ s
shape_same keep space over tiles label rects tile shape s p q = lists_same shape s 0 (p.shape_long ∙ sym q.shape_long)
    (λ k h. let w : k < length rects = let e = p.shape_long in omega arith in p.shapes k w ∙ sym (q.shapes k w))

-- cuts with the same fragments and the same zone are the same
pub cut_same : (c d : Cut) → c.a ≡ d.a → c.b ≡ d.b → corners_of c.zone ≡ corners_of d.zone → c ≡ d
cut_same c d e f g =
    let h : c.zone ≡ d.zone = same_corners c.zone d.zone g in
    let r : ◌≡◌ {A = Cut} (record { a = c.a; b = c.b; zone = c.zone }) (record { a = d.a; b = d.b; zone = d.zone }) = cc in r

cut_found : (over : ℕ) (tiles rects : List Corners) (tile : List ℕ) (a b : List Cut)
    → AreCuts over tiles rects tile a → AreCuts over tiles rects tile b → (c : Cut) → Contains a c
    → Contains b c
cut_found over tiles rects tile a b s t c m =
    let x = All-contains (λ (c : Cut). IsCut over tiles rects tile c.a c.b (corners_of c.zone)) a c s.each m in
    let (k, d, l, e, (f, g)) = t.all c.a c.b (corners_of c.zone) x in
    let y : IsCut over tiles rects tile d.a d.b (corners_of d.zone) = let P : Cut → Type 0 =
    λ c. IsCut over tiles rects tile c.a c.b (corners_of c.zone) in subst P e (t.each k d l) in
    let h : corners_of d.zone ≡ corners_of c.zone = y.overlap ∙ ap (zone_of over tiles rects tile) f ∙ sym x.overlap in
    let r : d ≡ c = cut_same d c f g h in
    (k, l, get_or_default b k c d l ∙ e ∙ r) where
      zone_of : ℕ → List Corners → List Corners → List ℕ → ℕ → Corners
      zone_of over tiles rects tile i = zone_at over (rect_at tiles (get_or tile i 0)) (end_of (rect_at tiles (get_or tile i 0)) (rect_at rects i))

pub cuts_same : (over : ℕ) (tiles rects : List Corners) (tile : List ℕ) (a b : List Cut)
    → AreCuts over tiles rects tile a → AreCuts over tiles rects tile b → a ≡ b
cuts_same over tiles rects tile a b s t = ordered_same (λ (c : Cut) d. c.a < d.a) (λ x y h l. omega (arith, h, l)) a b s.ordered t.ordered
    (cut_found over tiles rects tile a b s t) (cut_found over tiles rects tile b a t s)

lists_joined : (f g : Fragments) → f.rects ≡ g.rects → f.tile ≡ g.tile → f.shape ≡ g.shape → f.cuts ≡ g.cuts → f ≡ g
lists_joined f g d e h i = let r : ◌≡◌ {A = Fragments}
    (record { rects = f.rects; tile = f.tile; shape = f.shape; cuts = f.cuts })
    (record { rects = g.rects; tile = g.tile; shape = g.shape; cuts = g.cuts }) = cc in r

-- tiles with their shapes have one list of fragments with their cuts
pub fragments_same : (keep : List Corners) (space over : ℕ) (tiles : List Corners) (label : List ℕ) (f g : Fragments)
    → AreFragments keep space over tiles label f → AreFragments keep space over tiles label g → f ≡ g
fragments_same keep space over tiles label f g a b =
    let c : map corners_of f.rects ≡ map corners_of g.rects =
    parts_same keep space over tiles label label (map corners_of f.rects) (map corners_of g.rects) f.tile f.shape
    g.tile g.shape a.parts b.parts in
    let r : f.rects ≡ g.rects = maps_same corners_of same_corners f.rects g.rects c in
    let P : List Corners → Type 0 = λ z. AreParts keep space over tiles label z g.tile g.shape in
    let p : AreParts keep space over tiles label (map corners_of f.rects) g.tile g.shape = subst P (sym c) b.parts in
    let t : f.tile ≡ g.tile = tile_same keep space over tiles label label (map corners_of f.rects) f.tile f.shape g.tile g.shape a.parts p in
    let Q : List ℕ → Type 0 = λ z. AreParts keep space over tiles label (map corners_of f.rects) z g.shape in
    let q : AreParts keep space over tiles label (map corners_of f.rects) f.tile g.shape = subst Q (sym t) p in
    let s : f.shape ≡ g.shape = shape_same keep space over tiles label (map corners_of f.rects) f.tile f.shape g.shape a.parts q in
    let R : List Corners → Type 0 = λ z. AreCuts over tiles z g.tile g.cuts in
    let S : List ℕ → Type 0 = λ z. AreCuts over tiles (map corners_of f.rects) z g.cuts in
    let d : f.cuts ≡ g.cuts = cuts_same over tiles (map corners_of f.rects) f.tile f.cuts g.cuts a.cuts (subst S (sym t) (subst R (sym c) b.cuts)) in
    lists_joined f g r t s d

-- ---- how many

-- the tiles of fragments, each with its rectangle
abbrev zipped : List ℕ → List Corners → List (ℕ × Corners)
zipped [] rects = []
zipped (i ∷ is) [] = []
zipped (i ∷ is) (r ∷ rs) = (i, r) ∷ zipped is rs

zipped_long : (is : List ℕ) (rs : List Corners) → length (zipped is rs) ≤ length rs
zipped_long [] rs = omega arith
zipped_long (i ∷ is) [] = omega arith
zipped_long (i ∷ is) (r ∷ rs) = let h = zipped_long is rs in omega arith

in_zipped : (is : List ℕ) (rs : List Corners) (k : ℕ) (p : ℕ × Corners) → k < length is → k < length rs
    → get_or is k 0 ≡ p.0 → rect_at rs k ≡ p.1 → Contains (zipped is rs) p
in_zipped [] rs k p l m e f = absurd (omega arith)
in_zipped (i ∷ is) [] k p l m e f = absurd (omega arith)
in_zipped (i ∷ is) (r ∷ rs) zero p l m e f = let g : ◌≡◌ {A = ℕ × Corners} (i, r) (p.0, p.1) = cc in (0, omega arith, g)
in_zipped (i ∷ is) (r ∷ rs) (suc k) p l m e f = let c = in_zipped is rs k p (omega arith) (omega arith) e f in let h = c.1 in (suc c.0, omega (arith, h), c.2)

-- where there are no more than n fragments, no list of different ones is longer
pub no_more_fragments : (keep : List Corners) (space over : ℕ) (tiles : List Corners) (label : List ℕ) (f : Fragments) (n : ℕ)
    → AreFragments keep space over tiles label f → length f.rects ≤ n
    → ¬ HasMoreFragments keep space over tiles n
no_more_fragments keep space over tiles label f n a few more =
    let rects = map corners_of f.rects in
    let long : length rects ≡ length f.rects = length-map f.rects corners_of in
    let m = more.many in
    let h : length more.list ≤ length (zipped f.tile rects) = no_more more.list (zipped f.tile rects) more.different
    (λ k d l.
    let p = get_or more.list k d in
    let (i, x) = a.parts.all p.0 p.1 (more.each k d l) in
    let t = a.parts.tile_long in let w = x.within in
    in_zipped f.tile rects i p (omega arith) w x.own x.is) in
    let o = zipped_long f.tile rects in
    omega arith
