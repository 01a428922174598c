-- What is said of the masks of a report leaves no choice but its letters.
use Rattle.std.proofs.Common.{◌≡◌, ◌*◌, ℕ, ℤ, Bool, true, false, List, map, refl, sym, ap, subst, ◌∙◌, Any, IsTrue}
use Rattle.std.specs.Prelude.{◌&&◌, ◌||◌, if◌then◌else◌, slice_index_or}
use Rattle.std.specs.Cmp.{both_ways}
use Rattle.std.proofs.lemmas.List.Folds.{Any-from_list_any, list_any-from_Any}
use Rattle.dpl_cell.proofs.LayerLemmas.{list_any-map}
use Rattle.dpl_cell.proofs.BoxLemmas.{is_true, true_is}
use Rattle.dpl_cell.specs.Places.{Corners, corners_of}
use Rattle.dpl_cell.specs.Layers.{is_in_box}
use Rattle.dpl_boxes.specs.Drawings.{is_in_boxes}
use Rattle.dpl_cuts.specs.declared.types.Fragments.{Fragments}
use Rattle.dpl_cuts.specs.Cuts.{zone_at}
use Rattle.dpl_cuts.specs.Fragments.{IsCut}
use Rattle.dpl_cuts.specs.Positions.{rect_at, end_of}
use Rattle.dpl_cuts.specs.Zones.{HoldLayer}
use Rattle.dpl_cuts.proofs.ZoneLemmas.{hold_layer}
use Rattle.dpl_sign.specs.declared.edges.Kind.TheVariants.{Stitch}
use Rattle.dpl_sign.specs.declared.graphs.Signed.{Signed}
use Rattle.dpl_sign.specs.declared.nets.Net.{Net}
use Rattle.dpl_sign.specs.Walks.{edge_at}
use Rattle.dpl_sign.specs.Colourings.{colour_of}
use Rattle.dpl_options.specs.Options.{PlainOptions, AreOptions}
use Rattle.dpl_report.specs.Plain.{PlainZone, PlainReport}
use Rattle.dpl_good.specs.MaskCells.{AreCutFrom, AreMasksOf, DrawSameMasks, HoldsCell, IsBrokenEdge, NamesBroken}
use Rattle.dpl_good.proofs.MaskCellLemmas.{cell_on_fragment, wide}

-- ---- the zones of the cut lines

-- a cell in the zones lies in that of a line
line_holding : (zones : List PlainZone) (x y : ℤ) → is_in_boxes (map (λ z. z.corners) zones) x y ≡ true
    → Any (λ (z : PlainZone). is_in_box z.corners x y ≡ true) zones
line_holding zones x y e = Any-from_list_any (λ (z : PlainZone). is_in_box z.corners x y) zones
    (sym (list_any-map (λ b. is_in_box b x y) (λ (z : PlainZone). z.corners) zones) ∙ e)

-- and the other way round
held_by_line : (zones : List PlainZone) (x y : ℤ) → Any (λ (z : PlainZone). is_in_box z.corners x y ≡ true) zones
    → is_in_boxes (map (λ z. z.corners) zones) x y ≡ true
held_by_line zones x y h = list_any-map (λ b. is_in_box b x y) (λ (z : PlainZone). z.corners) zones
    ∙ list_any-from_Any (λ (z : PlainZone). is_in_box z.corners x y) zones h

-- the line shows the zone of the cut between its two fragments
abbrev ShowsCutAt : ℕ → List Corners → Fragments → PlainZone → Type 0
ShowsCutAt over tiles f z = IsCut over tiles (map corners_of f.rects) f.tile z.at.a z.at.b z.corners

-- two lines at one edge show one zone
same_zone : (over : ℕ) (tiles : List Corners) (f : Fragments) (g : Signed) (one other : List Bool) (y z : PlainZone)
    → ShowsCutAt over tiles f y → ShowsCutAt over tiles f z → NamesBroken g one Stitch y.at → NamesBroken g other Stitch z.at
    → y.at.edge ≡ z.at.edge → y.corners ≡ z.corners
same_zone over tiles f g one other y z shown again named renamed e =
    let a : y.at.a ≡ z.at.a = named.first ∙ ap (λ n. (edge_at g n).a) e ∙ sym renamed.first in
    let zone : ℕ → Corners = λ n. zone_at over (rect_at tiles (slice_index_or f.tile n 0))
    (end_of (rect_at tiles (slice_index_or f.tile n 0)) (rect_at (map corners_of f.rects) n)) in
    shown.overlap ∙ ap zone a ∙ sym again.overlap

-- a cell in a zone of the one report lies in one of the other
zone_of_both : (o : PlainOptions) (cells : ℤ → ℤ → Bool) (tiles : List Corners) (f : Fragments) (net : Net) (r s : PlainReport)
    → AreMasksOf o cells tiles f net r → AreMasksOf o cells tiles f net s → r.head.colours ≡ s.head.colours → (x y : ℤ)
    → is_in_boxes (map (λ (z : PlainZone). z.corners) r.lists.cuts) x y ≡ true
    → is_in_boxes (map (λ (z : PlainZone). z.corners) s.lists.cuts) x y ≡ true
zone_of_both o cells tiles f net r s m n same x y e =
    let (i, y', l, is, holds) = line_holding r.lists.cuts x y e in
    let named : NamesBroken net.graph r.head.colours Stitch y'.at =
    subst (λ (z : PlainZone). NamesBroken net.graph r.head.colours Stitch z.at) is (m.stitches.each i y' l) in
    let shown : ShowsCutAt (2 * o.overlap) tiles f y' = subst (ShowsCutAt (2 * o.overlap) tiles f) is (m.zones i y' l) in
    let broken : IsBrokenEdge net.graph s.head.colours Stitch y'.at.edge =
    subst (λ cs. IsBrokenEdge net.graph cs Stitch y'.at.edge) same named.edge in
    let (j, z, k, there, at) = n.stitches.all y'.at.edge broken in
    let renamed : NamesBroken net.graph s.head.colours Stitch z.at =
    subst (λ (w : PlainZone). NamesBroken net.graph s.head.colours Stitch w.at) there (n.stitches.each j z k) in
    let again : ShowsCutAt (2 * o.overlap) tiles f z = subst (ShowsCutAt (2 * o.overlap) tiles f) there (n.zones j z k) in
    let corners : y'.corners ≡ z.corners =
    same_zone (2 * o.overlap) tiles f net.graph r.head.colours s.head.colours y' z shown again named renamed (sym at) in
    held_by_line s.lists.cuts x y (j, z, k, there, sym (ap (λ c. is_in_box c x y) corners) ∙ holds)

-- ---- the cells of the masks

neither : (a b : Bool) → (a || b) ≡ false → (a ≡ false) × (b ≡ false)
neither true b e = absurd (cc)
neither false b e = (refl, e)

with_true : (a : Bool) → (a && true) ≡ a
with_true true = refl
with_true false = refl

in_own_mask : (t : Bool) (on_a on_b : List Corners) (x y : ℤ) → IsTrue (is_in_boxes (if t then on_b else on_a) x y)
    → (if t then is_in_boxes on_b x y else is_in_boxes on_a x y) ≡ true
in_own_mask true on_a on_b x y h = true_is _ h
in_own_mask false on_a on_b x y h = true_is _ h

-- masks of which both hold the cell exactly in the same zones, and one of which is known to hold it
by_letter : (t : Bool) (a b a' b' zone : Bool) → (if t then b else a) ≡ true → (if t then b' else a') ≡ true
    → (a && b) ≡ zone → (a' && b') ≡ zone → (a ≡ a') × (b ≡ b')
by_letter true a b a' b' zone u v p q =
    let one : (a && true) ≡ zone = rw (sym u) p in
    let other : (a' && true) ≡ zone = rw (sym v) q in
    (sym (with_true a) ∙ one ∙ sym other ∙ with_true a', u ∙ sym v)
by_letter false a b a' b' zone u v p q =
    let one : (true && b) ≡ zone = subst (λ t. (t && b) ≡ zone) u p in
    let other : (true && b') ≡ zone = subst (λ t. (t && b') ≡ zone) v q in
    (u ∙ sym v, one ∙ sym other)

-- at one cell both masks are the same
same_cell : (o : PlainOptions) (cells : ℤ → ℤ → Bool) (tiles : List Corners) (f : Fragments) (net : Net) (r s : PlainReport)
    → AreOptions o → AreCutFrom o cells tiles f → AreMasksOf o cells tiles f net r → AreMasksOf o cells tiles f net s
    → r.head.colours ≡ s.head.colours → (x y : ℤ)
    → (is_in_boxes r.on_a x y ≡ is_in_boxes s.on_a x y) × (is_in_boxes r.on_b x y ≡ is_in_boxes s.on_b x y)
same_cell o cells tiles f net r s ranges c m n same x y = at (cells x y) refl where
  zones : is_in_boxes (map (λ (z : PlainZone). z.corners) r.lists.cuts) x y
      ≡ is_in_boxes (map (λ (z : PlainZone). z.corners) s.lists.cuts) x y
  zones = both_ways _ _ (zone_of_both o cells tiles f net r s m n same x y)
      (zone_of_both o cells tiles f net s r n m (sym same) x y)

  hold : HoldLayer tiles (map corners_of f.rects)
  hold = hold_layer c.keep (2 * o.space) (2 * o.overlap) tiles c.label (map corners_of f.rects) f.tile f.shape
      (wide o.overlap ranges.some_overlap) c.fragments.parts

  at : (t : Bool) → cells x y ≡ t
      → (is_in_boxes r.on_a x y ≡ is_in_boxes s.on_a x y) × (is_in_boxes r.on_b x y ≡ is_in_boxes s.on_b x y)
  at false e =
      let one = neither (is_in_boxes r.on_a x y) (is_in_boxes r.on_b x y) (m.together x y ∙ e) in
      let other = neither (is_in_boxes s.on_a x y) (is_in_boxes s.on_b x y) (n.together x y ∙ e) in
      (one.0 ∙ sym other.0, one.1 ∙ sym other.1)
  at true e =
      let h = (cell_on_fragment tiles f.rects r.head.colours x y hold (is_true (c.drawn x y ∙ e))).1 in
      let cell : HoldsCell f h.i x y = record { within = h.within; holds = h.holds } in
      let t = colour_of r.head.colours h.i in
      by_letter t (is_in_boxes r.on_a x y) (is_in_boxes r.on_b x y) (is_in_boxes s.on_a x y) (is_in_boxes s.on_b x y)
      (is_in_boxes (map (λ (z : PlainZone). z.corners) s.lists.cuts) x y)
      (in_own_mask t r.on_a r.on_b x y (m.own h.i x y cell))
      (in_own_mask t s.on_a s.on_b x y (subst (λ cs. IsTrue (is_in_boxes (if colour_of cs h.i then s.on_b else s.on_a) x y))
      (sym same) (n.own h.i x y cell)))
      (m.overlap x y ∙ zones) (n.overlap x y)

pub letters_leave_no_choice : (o : PlainOptions) (cells : ℤ → ℤ → Bool) (tiles : List Corners) (f : Fragments) (net : Net) (r s : PlainReport)
    → AreOptions o → AreCutFrom o cells tiles f → AreMasksOf o cells tiles f net r → AreMasksOf o cells tiles f net s
    → r.head.colours ≡ s.head.colours → DrawSameMasks r s
letters_leave_no_choice o cells tiles f net r s ranges c m n same = record {
  on_a = λ x y. (same_cell o cells tiles f net r s ranges c m n same x y).0;
  on_b = λ x y. (same_cell o cells tiles f net r s ranges c m n same x y).1;
}
