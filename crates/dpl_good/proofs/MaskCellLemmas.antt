-- The masks of a good report are the layer, overlap in the zones of its cut lines, and tell what is too close.
use Rattle.std.proofs.Common.{arith, ◌≡◌, ◌≤◌, ◌<◌, ◌*◌, ◌%◌, ◌⊎◌, inl, inr, ℕ, zero, suc, ℤ, Bool, true, false}
use Rattle.std.proofs.Common.{List, [], ◌∷◌, ◌++◌, length, map, refl, sym, ap, subst, ◌∙◌, All, Any, AllPairs, Contains}
use Rattle.std.proofs.Common.{append_assoc, IsTrue, None}
use Rattle.std.specs.Prelude.{◌&&◌, ◌||◌, if◌then◌else◌}
use Rattle.std.proofs.lemmas.Bool.{cases_lt, and_parts, or_left, or_right, or_cases, and_from}
use Rattle.std.proofs.lemmas.List.{map-append, get_or_default, length-map}
use Rattle.std.proofs.lemmas.List.Folds.{list_any-append}
use Rattle.std.proofs.lemmas.List.Elements.{All-nil, All-cons, All-head, All-tail, All-weaker}
use Rattle.dpl_cell.specs.declared.rect.Rect.{Rect}
use Rattle.dpl_cell.specs.Places.{Corners, corners_of}
use Rattle.dpl_cell.specs.Cells.{IsIn, AreApart}
use Rattle.dpl_cell.specs.Layers.{is_in_box}
use Rattle.dpl_classes.specs.Chains.{IsChain}
use Rattle.dpl_near.proofs.WalkLemmas.{joined_back}
use Rattle.dpl_sign.specs.declared.edges.Kind.{Kind}
use Rattle.dpl_sign.specs.declared.edges.Kind.TheVariants.{Bond, Clash}
use Rattle.dpl_sign.specs.declared.edges.Edge.{Edge}
use Rattle.dpl_sign.specs.declared.nets.Net.{Net}
use Rattle.dpl_sign.specs.Walks.{edge_at, no_edge}
use Rattle.dpl_sign.specs.Colourings.{agree, breaks, colour_of, is_broken}
use Rattle.dpl_cuts.specs.declared.types.Cut.{Cut}
use Rattle.dpl_cuts.specs.declared.types.Fragments.{Fragments}
use Rattle.dpl_cuts.specs.Positions.{layer_of, rect_at, nowhere}
use Rattle.dpl_cuts.specs.Fragments.{IsCut, AreCuts}
use Rattle.dpl_cuts.specs.Zones.{IsGoodZone, HoldLayer}
use Rattle.dpl_cuts.proofs.AssembleLemmas.{parts_apart}
use Rattle.dpl_cuts.proofs.ZoneLemmas.{good_zones, hold_layer}
use Rattle.dpl_links.specs.Links.{piece_of}
use Rattle.dpl_links.specs.Nets.{Tie, tie_of, bond_tie, stitch_tie, clash_tie, IsNet}
use Rattle.dpl_links.specs.Spacing.{AreTooClose, IsClashOf, AreAllClashes}
use Rattle.dpl_links.proofs.NetLemmas.{net_ties}
use Rattle.dpl_links.proofs.LawLemmas.{net_clashes, turned_gap}
use Rattle.dpl_boxes.specs.Drawings.{is_in_boxes, DrawsMasks}
use Rattle.dpl_report.specs.declared.marks.Broken.{Broken}
use Rattle.dpl_options.specs.Options.{PlainOptions, AreOptions}
use Rattle.dpl_report.specs.Plain.{PlainZone, PlainReport}
use Rattle.dpl_report.specs.ReportLines.{report_text}
use Rattle.dpl_report.specs.Valid.{IsReport, CutFits, ClashFits}
use Rattle.dpl_good.specs.Verdicts.{refusal_of}
use Rattle.dpl_good.specs.Truths.{SaysTrue}
use Rattle.dpl_good.specs.Conditions.{cuts_from}
use Rattle.dpl_good.specs.MaskRects.{where_same, fragments_on, is_zone, zones_of, mask_of}
use Rattle.dpl_good.specs.MaskCells.{AreCutFrom, HoldTogether, OverlapInZones, IsBrokenEdge, NamesBroken}
use Rattle.dpl_good.specs.MaskCells.{NameAllBroken, AreOnOneMask, HoldsCell, JoinsPieces, AreToldClose}
use Rattle.dpl_good.specs.MaskCells.{AreMasksOf, AreOnTheirMasks}
use Rattle.dpl_good.proofs.TrueLemmas.{agree_none, AgreesAt, good_is_true}
use Rattle.dpl_good.proofs.BrokenLemmas.{TakeCuts, net_takes, zones_are, zones_hold, fit_rises, first_tie, clashes_are_named, stitches_are_named}
use Rattle.dpl_report.proofs.DrawnLemmas.{report_is_drawn}
use Rattle.std.proofs.Math.Path.{fun_ext}
use Rattle.dpl_cell.proofs.BoxLemmas.{true_is, box_in, in_box, is_true}
use Rattle.dpl_good.proofs.GoodLemmas.{agree_same}
use Rattle.std.specs.Cmp.{both_ways}

-- ---- tests

-- ---- the cells of a mask

-- a fragment of this colour holds the cell
pub record IsOnFragment (rects : List Rect) (colours : List Bool) (on_b : Bool) (x y : ℤ) : Type 0 where
  pub i : ℕ
  pub within : i < length rects
  pub own : colour_of colours i ≡ on_b
  pub holds : IsIn (rect_at (map corners_of rects) i) x y

-- the zone of a broken cut holds the cell
abbrev HoldsZone : List Bool → ℤ → ℤ → Cut → Type 0
HoldsZone colours x y c = (is_zone colours c ≡ true) × IsIn (corners_of c.zone) x y

abbrev IsOnZone : List Bool → List Cut → ℤ → ℤ → Type 0
IsOnZone colours cuts x y = Any (HoldsZone colours x y) cuts

fragments_hold : (on_b : Bool) (rects : List Rect) (colours : List Bool) (x y : ℤ)
    → length colours ≡ length rects
    → is_in_boxes (map corners_of (fragments_on on_b rects colours)) x y ≡ true
    → IsOnFragment rects colours on_b x y
fragments_hold on_b [] colours x y l e = absurd (cc)
fragments_hold on_b (r ∷ rs) [] x y l e = absurd (omega (arith, l))
fragments_hold on_b (r ∷ rs) (d ∷ ds) x y l e = by_test (agree d on_b) refl (fragments_hold on_b rs ds x y (omega (arith, l))) e where
  later : IsOnFragment rs ds on_b x y → IsOnFragment (r ∷ rs) (d ∷ ds) on_b x y
  later h = let w = h.within in record { i = suc h.i; within = omega arith; own = h.own; holds = h.holds }

  here : agree d on_b ≡ true → is_in_box (corners_of r) x y ≡ true → IsOnFragment (r ∷ rs) (d ∷ ds) on_b x y
  here f g = record { i = 0; within = omega arith; own = agree_none d on_b f; holds = in_box (corners_of r) x y g }

  either : agree d on_b ≡ true → (is_in_boxes (map corners_of (fragments_on on_b rs ds)) x y ≡ true →
      IsOnFragment rs ds on_b x y) → (is_in_box (corners_of r) x y ≡ true) ⊎
      (is_in_boxes (map corners_of (fragments_on on_b rs ds)) x y ≡ true) → IsOnFragment (r ∷ rs) (d ∷ ds) on_b x y
  either f others (inl g) = here f g
  either f others (inr g) = later (others g)

  by_test : (t : Bool) → agree d on_b ≡ t → (is_in_boxes (map corners_of (fragments_on on_b rs ds)) x y ≡ true →
      IsOnFragment rs ds on_b x y) → is_in_boxes (map corners_of (where_same t r (fragments_on on_b rs ds))) x
      y ≡ true → IsOnFragment (r ∷ rs) (d ∷ ds) on_b x y
  by_test false f others g = later (others g)
  by_test true f others g = either f others (or_cases (is_in_box (corners_of r) x y) (is_in_boxes (map corners_of (fragments_on on_b rs ds)) x y) g)

with_rect : (t : Bool) (r : Rect) (rs : List Rect) (x y : ℤ) → is_in_boxes (map corners_of rs) x y ≡ true
    → is_in_boxes (map corners_of (where_same t r rs)) x y ≡ true
with_rect true r rs x y e = or_right (is_in_box (corners_of r) x y) (is_in_boxes (map corners_of rs) x y) e
with_rect false r rs x y e = e

first_rect : (t : Bool) (r : Rect) (rs : List Rect) (x y : ℤ) → t ≡ true → IsIn (corners_of r) x y → is_in_boxes (map corners_of (where_same t r rs)) x y ≡ true
first_rect true r rs x y e h = or_left (is_in_box (corners_of r) x y) (is_in_boxes (map corners_of rs) x y) (box_in (corners_of r) x y h)
first_rect false r rs x y e h = absurd (cc)

fragments_held : (on_b : Bool) (rects : List Rect) (colours : List Bool) (x y : ℤ) (i : ℕ) → i < length rects
    → length colours ≡ length rects → colour_of colours i ≡ on_b → IsIn (rect_at (map corners_of rects) i) x y
    → is_in_boxes (map corners_of (fragments_on on_b rects colours)) x y ≡ true
fragments_held on_b [] colours x y i l w o h = absurd (omega (arith, l))
fragments_held on_b (r ∷ rs) [] x y i l w o h = absurd (omega (arith, w))
fragments_held on_b (r ∷ rs) (d ∷ ds) x y zero l w o h =
    first_rect (agree d on_b) r (fragments_on on_b rs ds) x y (ap (λ b. agree b on_b) o ∙ agree_same on_b) h
fragments_held on_b (r ∷ rs) (d ∷ ds) x y (suc i) l w o h =
    with_rect (agree d on_b) r (fragments_on on_b rs ds) x y
    (fragments_held on_b rs ds x y i (omega (arith, l)) (omega (arith, w)) o h)

zones_held : (colours : List Bool) (cuts : List Cut) (x y : ℤ) → IsOnZone colours cuts x y → is_in_boxes (map corners_of (zones_of colours cuts)) x y ≡ true
zones_held colours [] x y (k, c, l, e, p) = absurd (omega (arith, l))
zones_held colours (d ∷ ds) x y (zero, c, l, e, p) =
    let q : HoldsZone colours x y d = subst (HoldsZone colours x y) (sym e) p in
    first_rect (is_zone colours d) d.zone (zones_of colours ds) x y q.0 q.1
zones_held colours (d ∷ ds) x y (suc k, c, l, e, p) = with_rect (is_zone colours d) d.zone (zones_of colours ds) x y
    (zones_held colours ds x y (k, c, omega (arith, l), e, p))

zones_in : (colours : List Bool) (cuts : List Cut) (x y : ℤ) → is_in_boxes (map corners_of (zones_of colours cuts)) x y ≡ true → IsOnZone colours cuts x y
zones_in colours [] x y e = absurd (cc)
zones_in colours (d ∷ ds) x y e = by_test (is_zone colours d) refl (zones_in colours ds x y) e where
  later : IsOnZone colours ds x y → IsOnZone colours (d ∷ ds) x y
  later (k, c, l, f, p) = (suc k, c, omega arith, f, p)

  either : is_zone colours d ≡ true → (is_in_boxes (map corners_of (zones_of colours ds)) x y ≡ true →
      IsOnZone colours ds x y) → (is_in_box (corners_of d.zone) x y ≡ true) ⊎
      (is_in_boxes (map corners_of (zones_of colours ds)) x y ≡ true) → IsOnZone colours (d ∷ ds) x y
  either f others (inl g) = (0, d, omega arith, refl, (f, in_box (corners_of d.zone) x y g))
  either f others (inr g) = later (others g)

  by_test : (t : Bool) → is_zone colours d ≡ t → (is_in_boxes (map corners_of (zones_of colours ds)) x y ≡ true →
      IsOnZone colours ds x y) → is_in_boxes (map corners_of (where_same t d.zone (zones_of colours ds))) x y ≡ true →
      IsOnZone colours (d ∷ ds) x y
  by_test false f others g = later (others g)
  by_test true f others g = either f others (or_cases (is_in_box (corners_of d.zone) x y) (is_in_boxes (map corners_of (zones_of colours ds)) x y) g)

in_append : (rs more : List Rect) (x y : ℤ)
    → is_in_boxes (map corners_of (rs ++ more)) x y ≡ (is_in_boxes (map corners_of rs) x y || is_in_boxes (map corners_of more) x y)
in_append rs more x y = ap (λ cs. is_in_boxes cs x y) (map-append corners_of rs more) ∙
    list_any-append (λ b. is_in_box b x y) (map corners_of rs) (map corners_of more)

mask_holds : (on_b : Bool) (f : Fragments) (colours : List Bool) (x y : ℤ) → length colours ≡ length f.rects
    → is_in_boxes (map corners_of (mask_of on_b f colours)) x y ≡ true
    → IsOnFragment f.rects colours on_b x y ⊎ IsOnZone colours f.cuts x y
mask_holds on_b f colours x y l e = elim (or_cases _ _ (sym (in_append (fragments_on on_b f.rects colours) (zones_of colours f.cuts) x y) ∙ e)) [
  | inl g ↦ inl (fragments_hold on_b f.rects colours x y l g)
  | inr g ↦ inr (zones_in colours f.cuts x y g)
]

fragment_on_mask : (on_b : Bool) (f : Fragments) (colours : List Bool) (x y : ℤ)
    → length colours ≡ length f.rects → IsOnFragment f.rects colours on_b x y
    → is_in_boxes (map corners_of (mask_of on_b f colours)) x y ≡ true
fragment_on_mask on_b f colours x y l h =
    in_append (fragments_on on_b f.rects colours) (zones_of colours f.cuts) x y ∙
    or_left _ (is_in_boxes (map corners_of (zones_of colours f.cuts)) x y)
    (fragments_held on_b f.rects colours x y h.i h.within l h.own h.holds)

zone_on_mask : (on_b : Bool) (f : Fragments) (colours : List Bool) (x y : ℤ) → IsOnZone colours f.cuts x y
    → is_in_boxes (map corners_of (mask_of on_b f colours)) x y ≡ true
zone_on_mask on_b f colours x y h =
    in_append (fragments_on on_b f.rects colours) (zones_of colours f.cuts) x y ∙
    or_right (is_in_boxes (map corners_of (fragments_on on_b f.rects colours)) x y) _
    (zones_held colours f.cuts x y h)

-- ---- pieces have one colour

pairs_agree : (colours : List Bool) (edges : List Edge) (bonds : List (ℕ × ℕ)) (rest : List Tie)
    → map tie_of edges ≡ map bond_tie bonds ++ rest → All (AgreesAt colours) edges
    → All (λ (p : ℕ × ℕ). colour_of colours p.0 ≡ colour_of colours p.1) bonds
pairs_agree colours edges [] rest e a = All-nil (λ (p : ℕ × ℕ). colour_of colours p.0 ≡ colour_of colours p.1)
pairs_agree colours [] (p ∷ bonds) rest e a = absurd (cc)
pairs_agree colours (edge ∷ edges) (p ∷ bonds) rest e a =
    let d = first_tie edge edges (bond_tie p) (map bond_tie bonds ++ rest) e in
    let kind : edge.kind ≡ Bond = ap (λ (t : Tie). t.kind) d.0 in
    let one : colour_of colours edge.a ≡ colour_of colours edge.b = All-head (AgreesAt colours) edge edges a (rw kind refl) in
    let own : colour_of colours p.0 ≡ colour_of colours p.1 = sym (ap (λ (t : Tie). colour_of colours t.a) d.0) ∙ one ∙
    ap (λ (t : Tie). colour_of colours t.b) d.0 in
    All-cons (λ (p : ℕ × ℕ). colour_of colours p.0 ≡ colour_of colours p.1) p bonds own
    (pairs_agree colours edges bonds rest d.1 (All-tail (AgreesAt colours) edge edges a))

pair_agrees : (colours : List Bool) (bonds : List (ℕ × ℕ)) (i j : ℕ)
    → All (λ (p : ℕ × ℕ). colour_of colours p.0 ≡ colour_of colours p.1) bonds → Contains bonds (i, j)
    → colour_of colours i ≡ colour_of colours j
pair_agrees colours bonds i j a (k, l, e) = let P : ℕ × ℕ → Type 0 = λ p. colour_of colours p.0 ≡ colour_of colours p.1 in subst P e (a k (i, j) l)

chain_agrees : (colours : List Bool) (bonds : List (ℕ × ℕ))
    → All (λ (p : ℕ × ℕ). colour_of colours p.0 ≡ colour_of colours p.1) bonds → (i : ℕ) (js : List ℕ) (k : ℕ)
    → IsChain bonds i js k → colour_of colours i ≡ colour_of colours k
chain_agrees colours bonds a i [] k e = ap (colour_of colours) e
chain_agrees colours bonds a i (j ∷ js) k (c, r) =
    let e : colour_of colours i ≡ colour_of colours j =
    elim c [ inl d ↦ pair_agrees colours bonds i j a d | inr d ↦ sym (pair_agrees colours bonds j i a d) ] in
    e ∙ chain_agrees colours bonds a j js k r

-- ---- what is known of a good report

record IsKnown (o : PlainOptions) (tiles : List Corners) (f : Fragments) (net : Net) (r : PlainReport) : Type 0 where
  keep : List Corners
  truth : SaysTrue o f net r
  valid : IsReport r
  long : length r.head.colours ≡ length f.rects
  hold : HoldLayer tiles (map corners_of f.rects)
  apart : AllPairs AreApart (map corners_of f.rects)
  zones : All (IsGoodZone keep (2 * o.space) (2 * o.overlap) tiles (map corners_of f.rects) f.tile) f.cuts
  cuts : AreCuts (2 * o.overlap) tiles (map corners_of f.rects) f.tile f.cuts
  take : TakeCuts net.graph.edges f.cuts
  clashes : AreAllClashes tiles (map corners_of f.rects) (2 * o.space) net.pieces net.graph.edges
  ends : All (λ (e : Edge). e.b < length f.rects) net.graph.edges
  alike : (i j : ℕ) → i < length f.rects → j < length f.rects → piece_of net.pieces i ≡ piece_of net.pieces j →
      colour_of r.head.colours i ≡ colour_of r.head.colours j

mask_boxes : PlainReport → Bool → List Corners
mask_boxes r on_b = if on_b then r.on_b else r.on_a

boxes_are : (o : PlainOptions) (f : Fragments) (net : Net) (r : PlainReport) (on_b : Bool)
    → SaysTrue o f net r → mask_boxes r on_b ≡ map corners_of (mask_of on_b f r.head.colours)
unfolding mask_boxes
boxes_are o f net r true t = t.on_b
boxes_are o f net r false t = t.on_a

on_mask : (o : PlainOptions) (tiles : List Corners) (f : Fragments) (net : Net) (r : PlainReport) (on_b : Bool) (x y : ℤ)
    → IsKnown o tiles f net r → is_in_boxes (mask_boxes r on_b) x y ≡ true
    → IsOnFragment f.rects r.head.colours on_b x y ⊎ IsOnZone r.head.colours f.cuts x y
on_mask o tiles f net r on_b x y k e = mask_holds on_b f r.head.colours x y k.long (sym (ap (λ bs. is_in_boxes bs x y) (boxes_are o f net r on_b k.truth)) ∙ e)

fragment_is_on : (o : PlainOptions) (tiles : List Corners) (f : Fragments) (net : Net) (r : PlainReport) (on_b : Bool) (x y : ℤ)
    → IsKnown o tiles f net r → IsOnFragment f.rects r.head.colours on_b x y
    → is_in_boxes (mask_boxes r on_b) x y ≡ true
fragment_is_on o tiles f net r on_b x y k h = ap (λ bs. is_in_boxes bs x y) (boxes_are o f net r on_b k.truth) ∙
    fragment_on_mask on_b f r.head.colours x y k.long h

zone_is_on : (o : PlainOptions) (tiles : List Corners) (f : Fragments) (net : Net) (r : PlainReport) (on_b : Bool) (x y : ℤ)
    → IsKnown o tiles f net r → IsOnZone r.head.colours f.cuts x y
    → is_in_boxes (mask_boxes r on_b) x y ≡ true
zone_is_on o tiles f net r on_b x y k h = ap (λ bs. is_in_boxes bs x y) (boxes_are o f net r on_b k.truth) ∙ zone_on_mask on_b f r.head.colours x y h

pub in_layer : (tiles : List Corners) (rects : List Rect) (i : ℕ) (x y : ℤ)
    → HoldLayer tiles (map corners_of rects) → i < length rects → IsIn (rect_at (map corners_of rects) i) x y
    → IsTrue (layer_of tiles x y)
in_layer tiles rects i x y h l g =
    let m : i < length (map corners_of rects) = let n = length-map rects corners_of in omega arith in
    (h x y).1 (i, rect_at (map corners_of rects) i, m, get_or_default (map corners_of rects) i _ nowhere m, g)

fragment_cell : (o : PlainOptions) (tiles : List Corners) (f : Fragments) (net : Net) (r : PlainReport) (on_b : Bool) (x y : ℤ)
    → IsKnown o tiles f net r → IsOnFragment f.rects r.head.colours on_b x y → IsTrue (layer_of tiles x y)
fragment_cell o tiles f net r on_b x y k h = in_layer tiles f.rects h.i x y k.hold h.within h.holds

-- what is known of the zone that holds a cell
record IsZoneHere (o : PlainOptions) (tiles : List Corners) (f : Fragments) (x y : ℤ) : Type 0 where
  cut : Cut
  keep : List Corners
  good : IsGoodZone keep (2 * o.space) (2 * o.overlap) tiles (map corners_of f.rects) f.tile cut
  is : IsCut (2 * o.overlap) tiles (map corners_of f.rects) f.tile cut.a cut.b (corners_of cut.zone)
  holds : IsIn (corners_of cut.zone) x y

zone_here : (o : PlainOptions) (tiles : List Corners) (f : Fragments) (net : Net) (r : PlainReport) (x y : ℤ)
    → IsKnown o tiles f net r → IsOnZone r.head.colours f.cuts x y → IsZoneHere o tiles f x y
zone_here o tiles f net r x y k (i, c, l, e, p) = record {
  cut = c;
  keep = k.keep;
  good = subst (IsGoodZone k.keep (2 * o.space) (2 * o.overlap) tiles (map corners_of f.rects) f.tile) e (k.zones i c l);
  is = let P : Cut → Type 0 = λ d. IsCut (2 * o.overlap) tiles (map corners_of f.rects) f.tile d.a d.b (corners_of d.zone) in subst P e (k.cuts.each i c l);
  holds = p.1;
}

zone_cell : (o : PlainOptions) (tiles : List Corners) (f : Fragments) (net : Net) (r : PlainReport) (x y : ℤ)
    → IsKnown o tiles f net r → IsOnZone r.head.colours f.cuts x y → IsTrue (layer_of tiles x y)
zone_cell o tiles f net r x y k h =
    let z = zone_here o tiles f net r x y k h in
    let n = length-map f.rects corners_of in
    let b : z.cut.b < length f.rects = let l = z.is.within in omega arith in
    let a : z.cut.a < length f.rects = let m = z.is.rising in omega arith in
    elim (z.good.inside x y z.holds) [
      | inl g ↦ in_layer tiles f.rects z.cut.a x y k.hold a g
      | inr g ↦ in_layer tiles f.rects z.cut.b x y k.hold b g
    ]

mask_cell : (o : PlainOptions) (tiles : List Corners) (f : Fragments) (net : Net) (r : PlainReport) (on_b : Bool) (x y : ℤ)
    → IsKnown o tiles f net r → is_in_boxes (mask_boxes r on_b) x y ≡ true → layer_of tiles x y ≡ true
mask_cell o tiles f net r on_b x y k e = elim (on_mask o tiles f net r on_b x y k e) [
  | inl h ↦ true_is (layer_of tiles x y) (fragment_cell o tiles f net r on_b x y k h)
  | inr h ↦ true_is (layer_of tiles x y) (zone_cell o tiles f net r x y k h)
]

-- ---- together

pub cell_on_fragment : (tiles : List Corners) (rects : List Rect) (colours : List Bool) (x y : ℤ)
    → HoldLayer tiles (map corners_of rects) → IsTrue (layer_of tiles x y)
    → (on_b : Bool) × IsOnFragment rects colours on_b x y
cell_on_fragment tiles rects colours x y h c =
    let (i, q, l, e, g) = (h x y).0 c in
    let m : i < length rects = let n = length-map rects corners_of in omega arith in
    let g' : IsIn (rect_at (map corners_of rects) i) x y = let P : Corners → Type 0 = λ z. IsIn z x y in
    subst P (sym (get_or_default (map corners_of rects) i nowhere q l ∙ e)) g in
    (colour_of colours i, record { i = i; within = m; own = refl; holds = g' })

some_mask : (o : PlainOptions) (tiles : List Corners) (f : Fragments) (net : Net) (r : PlainReport) (x y : ℤ)
    → IsKnown o tiles f net r → (on_b : Bool) → IsOnFragment f.rects r.head.colours on_b x y
    → (is_in_boxes r.on_a x y || is_in_boxes r.on_b x y) ≡ true
unfolding mask_boxes
some_mask o tiles f net r x y k true h = or_right (is_in_boxes r.on_a x y) (is_in_boxes r.on_b x y) (fragment_is_on o tiles f net r true x y k h)
some_mask o tiles f net r x y k false h = or_left (is_in_boxes r.on_a x y) (is_in_boxes r.on_b x y) (fragment_is_on o tiles f net r false x y k h)

masks_together : (o : PlainOptions) (tiles : List Corners) (f : Fragments) (net : Net) (r : PlainReport)
    → IsKnown o tiles f net r → HoldTogether (layer_of tiles) r
unfolding mask_boxes
masks_together o tiles f net r k x y = both_ways (is_in_boxes r.on_a x y || is_in_boxes r.on_b x y) (layer_of tiles x y)
    (λ e. elim (or_cases (is_in_boxes r.on_a x y) (is_in_boxes r.on_b x y) e)
    [ inl g ↦ mask_cell o tiles f net r false x y k g | inr g ↦ mask_cell o tiles f net r true x y k g ])
    (λ e. let h = cell_on_fragment tiles f.rects r.head.colours x y k.hold (is_true e) in some_mask o tiles f net r x y k h.0 h.1)

-- ---- overlap

pub never_both : (rects : List Corners) (i j : ℕ) (x y : ℤ) → AllPairs AreApart rects → i < j → j < length rects
    → IsIn (rect_at rects i) x y → IsIn (rect_at rects j) x y → ⊥
never_both rects i j x y a l m f g = a i j nowhere l m (record { x = x; y = y; first = f; second = g })

not_on_both : (o : PlainOptions) (tiles : List Corners) (f : Fragments) (net : Net) (r : PlainReport) (x y : ℤ)
    → IsKnown o tiles f net r → IsOnFragment f.rects r.head.colours false x y
    → IsOnFragment f.rects r.head.colours true x y → ⊥
not_on_both o tiles f net r x y k g h =
    let n = length-map f.rects corners_of in
    let i : g.i < length (map corners_of f.rects) = let w = g.within in omega arith in
    let j : h.i < length (map corners_of f.rects) = let w = h.within in omega arith in
    elim (cases_lt g.i h.i) [
      | inl l ↦ never_both (map corners_of f.rects) g.i h.i x y k.apart l j g.holds h.holds
      | inr l ↦ elim (cases_lt h.i g.i) [
        | inl m ↦ never_both (map corners_of f.rects) h.i g.i x y k.apart m i h.holds g.holds
        | inr m ↦ let same : g.i ≡ h.i = omega arith in let bad = sym g.own ∙ ap (colour_of r.head.colours) same ∙ h.own in absurd (cc)
      ]
    ]

line_zones : (o : PlainOptions) (tiles : List Corners) (f : Fragments) (net : Net) (r : PlainReport)
    → IsKnown o tiles f net r
    → map (λ (z : PlainZone). z.corners) r.lists.cuts ≡ map corners_of (zones_of r.head.colours f.cuts)
line_zones o tiles f net r k = ap (map (λ (z : PlainZone). z.corners)) k.truth.cuts ∙ zones_are r.head.colours 0 net.graph.edges f.cuts k.take

on_zone : (o : PlainOptions) (tiles : List Corners) (f : Fragments) (net : Net) (r : PlainReport) (x y : ℤ)
    → IsKnown o tiles f net r → is_in_boxes r.on_a x y ≡ true → is_in_boxes r.on_b x y ≡ true
    → IsOnZone r.head.colours f.cuts x y
unfolding mask_boxes
on_zone o tiles f net r x y k a b = elim (on_mask o tiles f net r false x y k a) [
  | inr z ↦ z
  | inl g ↦ elim (on_mask o tiles f net r true x y k b) [
    | inr z ↦ z
    | inl h ↦ absurd (not_on_both o tiles f net r x y k g h)
  ]
]

masks_overlap : (o : PlainOptions) (tiles : List Corners) (f : Fragments) (net : Net) (r : PlainReport) → IsKnown o tiles f net r → OverlapInZones r
unfolding mask_boxes
masks_overlap o tiles f net r k x y =
    let same : is_in_boxes (map (λ (z : PlainZone). z.corners) r.lists.cuts) x y ≡ is_in_boxes
    (map corners_of (zones_of r.head.colours f.cuts)) x y =
    ap (λ bs. is_in_boxes bs x y) (line_zones o tiles f net r k) in
    both_ways (is_in_boxes r.on_a x y && is_in_boxes r.on_b x y) (is_in_boxes (map (λ (z : PlainZone). z.corners) r.lists.cuts) x y)
    (λ e. let d = and_parts (is_in_boxes r.on_a x y) (is_in_boxes r.on_b x y) e in same ∙
    zones_held r.head.colours f.cuts x y (on_zone o tiles f net r x y k d.0 d.1))
    (λ e. let z = zones_in r.head.colours f.cuts x y (sym same ∙ e) in
    and_from (is_in_boxes r.on_a x y) (is_in_boxes r.on_b x y) (zone_is_on o tiles f net r false x y k z)
    (zone_is_on o tiles f net r true x y k z))

-- each cut line shows the zone of its cut
lines_show : (o : PlainOptions) (tiles : List Corners) (f : Fragments) (net : Net) (r : PlainReport) → IsKnown o tiles f net r
    → All (λ (z : PlainZone). IsCut (2 * o.overlap) tiles (map corners_of f.rects) f.tile z.at.a z.at.b z.corners) r.lists.cuts
lines_show o tiles f net r k =
    let P : ℕ → ℕ → Corners → Type 0 = IsCut (2 * o.overlap) tiles (map corners_of f.rects) f.tile in
    let lines : All (λ (z : PlainZone). P z.at.a z.at.b z.corners) (cuts_from r.head.colours 0 net.graph.edges f.cuts) =
    zones_hold P r.head.colours 0 net.graph.edges f.cuts k.take k.cuts.each in
    subst (All (λ (z : PlainZone). P z.at.a z.at.b z.corners)) (sym k.truth.cuts) lines

-- ---- what is too close

-- a cell that is too close to another one lies in no zone
first_fragment : (o : PlainOptions) (tiles : List Corners) (f : Fragments) (net : Net) (r : PlainReport) (on_b : Bool) (x y x' y' : ℤ)
    → IsKnown o tiles f net r → AreTooClose (layer_of tiles) (2 * o.space) x y x' y'
    → is_in_boxes (mask_boxes r on_b) x y ≡ true → IsOnFragment f.rects r.head.colours on_b x y
first_fragment o tiles f net r on_b x y x' y' k c e = elim (on_mask o tiles f net r on_b x y k e) [
  | inl h ↦ h
  | inr h ↦ let z = zone_here o tiles f net r x y k h in absurd (c.other (z.good.clear x y z.holds x' y' c.second c.near))
]

second_fragment : (o : PlainOptions) (tiles : List Corners) (f : Fragments) (net : Net) (r : PlainReport) (on_b : Bool) (x y x' y' : ℤ)
    → IsKnown o tiles f net r → AreTooClose (layer_of tiles) (2 * o.space) x y x' y'
    → is_in_boxes (mask_boxes r on_b) x' y' ≡ true → IsOnFragment f.rects r.head.colours on_b x' y'
second_fragment o tiles f net r on_b x y x' y' k c e = elim (on_mask o tiles f net r on_b x' y' k e) [
  | inl h ↦ h
  | inr h ↦ let z = zone_here o tiles f net r x' y' k h in
      absurd (c.other (joined_back (layer_of tiles) x' y' x y
      (z.good.clear x' y' z.holds x y c.first (turned_gap x y x' y' (2 * o.space * (2 * o.space)) c.near))))
]

-- a clash whose pieces are those of two fragments of one colour is broken
clash_breaks : (o : PlainOptions) (tiles : List Corners) (f : Fragments) (net : Net) (r : PlainReport) (on_b : Bool) (i j n : ℕ) (e : Edge)
    → IsKnown o tiles f net r → i < length f.rects → j < length f.rects → colour_of r.head.colours i ≡ on_b
    → colour_of r.head.colours j ≡ on_b → n < length net.graph.edges → edge_at net.graph n ≡ e
    → IsClashOf net.pieces i j e → IsBrokenEdge net.graph r.head.colours Clash n
clash_breaks o tiles f net r on_b i j n e k l m ci cj w is c =
    let b : e.b < length f.rects = subst (λ (d : Edge). d.b < length f.rects) is (k.ends n no_edge w) in
    let a : e.a < length f.rects = let h = e.ordered in omega arith in
    let colours : (colour_of r.head.colours e.a ≡ on_b) × (colour_of r.head.colours e.b ≡ on_b) = elim c.ends [
      | inl p ↦ (k.alike e.a i a l p.0 ∙ ci, k.alike e.b j b m p.1 ∙ cj)
      | inr p ↦ (k.alike e.a j a m p.0 ∙ cj, k.alike e.b i b l p.1 ∙ ci)
    ] in
    let broken : breaks r.head.colours e ≡ true = rw (c.kind, colours.0, colours.1) (agree_same on_b) in
    record {
      within = w;
      is = ap (λ (d : Edge). d.kind) is ∙ c.kind;
      broken = ap (breaks r.head.colours) is ∙ broken;
    }

joins : (net : Net) (colours : List Bool) (i j n : ℕ) (e : Edge) (b : Broken) → edge_at net.graph n ≡ e
    → b.edge ≡ n → NamesBroken net.graph colours Clash b → IsClashOf net.pieces i j e
    → JoinsPieces net.pieces i j b
joins net colours i j n e b is same names c =
    let at : edge_at net.graph b.edge ≡ e = ap (edge_at net.graph) same ∙ is in
    let first : piece_of net.pieces b.a ≡ piece_of net.pieces e.a = ap (piece_of net.pieces) (names.first ∙ ap (λ (d : Edge). d.a) at) in
    let second : piece_of net.pieces b.b ≡ piece_of net.pieces e.b = ap (piece_of net.pieces) (names.second ∙ ap (λ (d : Edge). d.b) at) in
    elim c.ends [
      | inl p ↦ inl (first ∙ p.0, second ∙ p.1)
      | inr p ↦ inr (first ∙ p.0, second ∙ p.1)
    ]

told_on : (o : PlainOptions) (tiles : List Corners) (f : Fragments) (net : Net) (r : PlainReport) (on_b : Bool) (x y x' y' : ℤ)
    → IsKnown o tiles f net r → NameAllBroken net.graph r.head.colours Clash (λ b. b) r.lists.clashes
    → AreTooClose (layer_of tiles) (2 * o.space) x y x' y' → is_in_boxes (mask_boxes r on_b) x y ≡ true
    → is_in_boxes (mask_boxes r on_b) x' y' ≡ true → AreToldClose f net r x y x' y'
told_on o tiles f net r on_b x y x' y' k named c p q =
    let g = first_fragment o tiles f net r on_b x y x' y' k c p in
    let h = second_fragment o tiles f net r on_b x y x' y' k c q in
    let n = length-map f.rects corners_of in
    let i : g.i < length (map corners_of f.rects) = let w = g.within in omega arith in
    let j : h.i < length (map corners_of f.rects) = let w = h.within in omega arith in
    let (m, e, l, s, is) = k.clashes.all g.i h.i x y x' y' i j g.holds h.holds c in
    let at : edge_at net.graph m ≡ e = get_or_default net.graph.edges m no_edge e l ∙ s in
    let (v, b, w, t, same) = named.all m (clash_breaks o tiles f net r on_b g.i h.i m e k g.within h.within g.own h.own l at is) in
    let names : NamesBroken net.graph r.head.colours Clash b = subst (NamesBroken net.graph r.head.colours Clash) t (named.each v b w) in
    record {
      i = g.i;
      j = h.i;
      first = record { within = g.within; holds = g.holds };
      second = record { within = h.within; holds = h.holds };
      told = (v, b, w, t, joins net r.head.colours g.i h.i m e b at same names is);
    }

masks_told : (o : PlainOptions) (tiles : List Corners) (f : Fragments) (net : Net) (r : PlainReport)
    → IsKnown o tiles f net r → NameAllBroken net.graph r.head.colours Clash (λ b. b) r.lists.clashes
    → (x y x' y' : ℤ) → AreTooClose (layer_of tiles) (2 * o.space) x y x' y' → AreOnOneMask r x y x' y'
    → AreToldClose f net r x y x' y'
unfolding mask_boxes
masks_told o tiles f net r k named x y x' y' c m = elim m [
  | inl p ↦ told_on o tiles f net r false x y x' y' k named c (true_is _ p.0) (true_is _ p.1)
  | inr p ↦ told_on o tiles f net r true x y x' y' k named c (true_is _ p.0) (true_is _ p.1)
]

own_masks : (o : PlainOptions) (tiles : List Corners) (f : Fragments) (net : Net) (r : PlainReport)
    → IsKnown o tiles f net r → AreOnTheirMasks f r
unfolding mask_boxes
own_masks o tiles f net r k i x y h = is_true (fragment_is_on o tiles f net r (colour_of r.head.colours i) x y k
    (record { i = i; within = h.within; own = refl; holds = h.holds }))

-- ---- all of it

clash_numbers : (r : PlainReport) → IsReport r → AllPairs (λ (b c : Broken). b.edge < c.edge) r.lists.clashes
clash_numbers r v = fit_rises ClashFits (λ (b : Broken). b.edge) (λ s b h. h.0) 0 r.lists.clashes v.lists.clashes

cut_numbers : (r : PlainReport) → IsReport r → AllPairs (λ (y z : PlainZone). y.at.edge < z.at.edge) r.lists.cuts
cut_numbers r v = fit_rises CutFits (λ (z : PlainZone). z.at.edge) (λ s z h. h.0) 0 r.lists.cuts v.lists.cuts

known_masks : (o : PlainOptions) (tiles : List Corners) (f : Fragments) (net : Net) (r : PlainReport)
    → IsKnown o tiles f net r → AreMasksOf o (layer_of tiles) tiles f net r
known_masks o tiles f net r k =
    let named = clashes_are_named net.graph r.head.colours r.lists.clashes k.truth.clashes (clash_numbers r k.valid) in
    record {
      colouring = k.truth.colouring;
      own = own_masks o tiles f net r k;
      together = masks_together o tiles f net r k;
      overlap = masks_overlap o tiles f net r k;
      zones = lines_show o tiles f net r k;
      stitches = stitches_are_named net.graph r.head.colours f.cuts r.lists.cuts k.take k.truth.cuts (cut_numbers r k.valid);
      clashes = named;
      told = masks_told o tiles f net r k named;
      drawn = subst (λ (n : List ℕ). DrawsMasks n r.on_a r.on_b (report_text r)) k.truth.params.layer (report_is_drawn r k.valid);
    }

pub wide : (n : ℕ) → 1 ≤ n → 2 ≤ 2 * n
wide n l = omega arith

even : (n : ℕ) → 2 * n % 2 ≡ 0
even n = omega arith

-- the masks of a report that fails nowhere are those of the layer from which its fragments are cut
pub masks_of_layer : (o : PlainOptions) (cells : ℤ → ℤ → Bool) (tiles : List Corners) (f : Fragments) (net : Net) (r : PlainReport)
    → AreOptions o → IsReport r → refusal_of o f net r ≡ None → IsNet f o.weights (2 * o.space) net
    → AreCutFrom o cells tiles f → AreMasksOf o cells tiles f net r
masks_of_layer o cells tiles f net r ranges v good n c =
    let t = good_is_true o f net r ranges v good in
    let a = c.fragments in
    let w = wide o.overlap ranges.some_overlap in
    let bonds = pairs_agree r.head.colours net.graph.edges n.bonds
    (map (stitch_tie o.weights.stitch) f.cuts ++ map (clash_tie o.weights) n.links)
    (net_ties f o.weights (2 * o.space) net n ∙ append_assoc (map bond_tie n.bonds) (map (stitch_tie o.weights.stitch) f.cuts)
    (map (clash_tie o.weights) n.links)) t.colouring.bonds in
    let k : IsKnown o tiles f net r = record {
      keep = c.keep;
      truth = t;
      valid = v;
      long = t.colouring.length ∙ n.nodes;
      hold = hold_layer c.keep (2 * o.space) (2 * o.overlap) tiles c.label (map corners_of f.rects) f.tile f.shape w a.parts;
      apart = parts_apart c.keep (2 * o.space) (2 * o.overlap) tiles c.label (map corners_of f.rects) f.tile f.shape w c.apart a.parts;
      zones = good_zones c.keep (2 * o.space) (2 * o.overlap) tiles c.label f w (even o.overlap) a;
      cuts = a.cuts;
      take = net_takes o.weights n.bonds f.cuts n.links net.graph.edges (net_ties f o.weights (2 * o.space) net n);
      clashes = net_clashes c.keep (2 * o.space) (2 * o.overlap) tiles c.label c.count f o.weights net w c.shapes a n;
      ends = subst (λ (m : ℕ). All (λ (e : Edge). e.b < m) net.graph.edges) n.nodes net.graph.inside;
      alike = λ i j l m e. let s = (n.are_pieces.same i j l m).0 e in chain_agrees r.head.colours n.bonds bonds i s.chain j s.is;
    } in
    subst (λ (z : ℤ → ℤ → Bool). AreMasksOf o z tiles f net r) (fun_ext (λ x. fun_ext (λ y. c.drawn x y))) (known_masks o tiles f net r k)
