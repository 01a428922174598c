-- The masks of a good report, cell by cell (double patterning with stitches: Kahng, Park, Xu and Yao 2008). Together
-- they are the layer, both hold the zones of the broken stitches and nothing else, and where shapes are too close on
-- one mask a clash line says so.
use Rattle.std.specs.Prelude.{◌≡◌, ◌⊎◌, ◌<◌, ◌*◌, ◌&&◌, ◌||◌, ℕ, ℤ, pos, ◌+ℤ◌, Bool, true, List, length, slice_index_or, map, All, AllPairs, Any, IsTrue, if◌then◌else◌}
use Rattle.dpl_cell.specs.Places.{Corners, corners_of}
use Rattle.dpl_cell.specs.Cells.{IsIn, AreApart}
use Rattle.dpl_near.specs.Shapes.{AreShapes}
use Rattle.dpl_cuts.specs.declared.types.Fragments.{Fragments}
use Rattle.dpl_cuts.specs.Positions.{layer_of, rect_at, part_of}
use Rattle.dpl_cuts.specs.Fragments.{AreFragments, IsCut}
use Rattle.dpl_sign.specs.declared.edges.Kind.{Kind}
use Rattle.dpl_sign.specs.declared.edges.Kind.TheVariants.{Stitch, Clash}
use Rattle.dpl_sign.specs.declared.graphs.Signed.{Signed}
use Rattle.dpl_sign.specs.declared.nets.Net.{Net}
use Rattle.dpl_sign.specs.Walks.{edge_at}
use Rattle.dpl_sign.specs.Colourings.{IsColouring, breaks, colour_of}
use Rattle.dpl_links.specs.Links.{piece_of}
use Rattle.dpl_links.specs.Spacing.{AreTooClose}
use Rattle.dpl_boxes.specs.Drawings.{is_in_boxes, DrawsMasks}
use Rattle.dpl_report.specs.declared.marks.Broken.{Broken}
use Rattle.dpl_options.specs.Options.{PlainOptions}
use Rattle.dpl_report.specs.Plain.{PlainZone, PlainReport}
use Rattle.dpl_report.specs.ReportLines.{report_text}

-- Tiles that share out these cells, their shapes, rectangles that are kept whole, and the fragments at the lengths of the options. A hundredth of a
-- micron is two grid units.
pub record AreCutFrom (o : PlainOptions) (cells : ℤ → ℤ → Bool) (tiles : List Corners)
    (f : Fragments) : Type 0 where
  pub keep : List Corners
  pub label : List ℕ
  pub count : ℕ
  pub drawn : (x y : ℤ) → layer_of tiles x y ≡ cells x y
  pub apart : AllPairs AreApart tiles
  pub shapes : AreShapes tiles label count
  pub fragments : AreFragments keep (2 * o.space) (2 * o.overlap) tiles label f

-- together the masks hold the cells of the layer, and no other cells
abbrev pub HoldTogether : (ℤ → ℤ → Bool) → PlainReport → Type 0
HoldTogether cells r = (x y : ℤ) → (is_in_boxes r.on_a x y || is_in_boxes r.on_b x y) ≡ cells x y

-- a cell is on both masks exactly where it lies in the zone of a cut line
abbrev pub OverlapInZones : PlainReport → Type 0
OverlapInZones r = (x y : ℤ) →
    (is_in_boxes r.on_a x y && is_in_boxes r.on_b x y)
    ≡ is_in_boxes (map (λ z. z.corners) r.lists.cuts) x y

-- there is an edge with this number, of this kind, and the colouring breaks it
pub record IsBrokenEdge (g : Signed) (colours : List Bool) (kind : Kind) (e : ℕ) : Type 0 where
  pub within : e < length g.edges
  pub is : (edge_at g e).kind ≡ kind
  pub broken : breaks colours (edge_at g e) ≡ true

-- the line names a broken edge and its ends
pub record NamesBroken (g : Signed) (colours : List Bool) (kind : Kind) (b : Broken) : Type 0 where
  pub edge : IsBrokenEdge g colours kind b.edge
  pub first : b.a ≡ (edge_at g b.edge).a
  pub second : b.b ≡ (edge_at g b.edge).b

-- the lines, each of which is at an edge, name all broken edges of this kind, each once, in order
pub record NameAllBroken {X : Type 0} (g : Signed) (colours : List Bool) (kind : Kind)
    (at : X → Broken) (lines : List X) : Type 0 where
  pub each : All (λ x. NamesBroken g colours kind (at x)) lines
  pub all : (e : ℕ) → IsBrokenEdge g colours kind e → Any (λ x. (at x).edge ≡ e) lines
  pub ordered : AllPairs (λ x y. (at x).edge < (at y).edge) lines

-- one mask holds both cells
abbrev pub AreOnOneMask : PlainReport → ℤ → ℤ → ℤ → ℤ → Type 0
AreOnOneMask r x y x' y' =
    (IsTrue (is_in_boxes r.on_a x y) × IsTrue (is_in_boxes r.on_a x' y'))
    ⊎ (IsTrue (is_in_boxes r.on_b x y) × IsTrue (is_in_boxes r.on_b x' y'))

-- the fragment with this number holds the cell
pub record HoldsCell (f : Fragments) (i : ℕ) (x y : ℤ) : Type 0 where
  pub within : i < length f.rects
  pub holds : IsIn (rect_at (map corners_of f.rects) i) x y

-- the ends of the line are fragments of the pieces of the fragments i and j
abbrev pub JoinsPieces : List ℕ → ℕ → ℕ → Broken → Type 0
JoinsPieces pieces i j b =
    ((piece_of pieces b.a ≡ piece_of pieces i) × (piece_of pieces b.b ≡ piece_of pieces j))
    ⊎ ((piece_of pieces b.a ≡ piece_of pieces j) × (piece_of pieces b.b ≡ piece_of pieces i))

-- the cells lie in two fragments whose pieces are those of a clash line
pub record AreToldClose (f : Fragments) (net : Net) (r : PlainReport) (x y x' y' : ℤ) : Type 0 where
  pub i : ℕ
  pub j : ℕ
  pub first : HoldsCell f i x y
  pub second : HoldsCell f j x' y'
  pub told : Any (JoinsPieces net.pieces i j) r.lists.clashes

-- a cell is on the mask of the colour of its fragment
abbrev pub AreOnTheirMasks : Fragments → PlainReport → Type 0
AreOnTheirMasks f r = (i : ℕ) (x y : ℤ) → HoldsCell f i x y →
    IsTrue (is_in_boxes (if colour_of r.head.colours i then r.on_b else r.on_a) x y)

-- What the masks of a report are of the cells of a layer, of its fragments and of their net: each
-- fragment is on one mask, that of its colour, and both masks are on the zones of the cut lines
-- besides. The text, read again as CIF, breaks no rule and has exactly the boxes of the two masks.
pub record AreMasksOf (o : PlainOptions) (cells : ℤ → ℤ → Bool) (tiles : List Corners)
    (f : Fragments) (net : Net) (r : PlainReport) : Type 0 where
  pub colouring : IsColouring net.graph r.head.colours
  pub own : AreOnTheirMasks f r
  pub together : HoldTogether cells r
  pub overlap : OverlapInZones r
  pub zones : All (λ z. IsCut (2 * o.overlap) tiles (map corners_of f.rects) f.tile z.at.a z.at.b
      z.corners) r.lists.cuts
  pub stitches : NameAllBroken net.graph r.head.colours Stitch (λ z. z.at) r.lists.cuts
  pub clashes : NameAllBroken net.graph r.head.colours Clash (λ b. b) r.lists.clashes
  pub told : (x y x' y' : ℤ) →
      AreTooClose cells (2 * o.space) x y x' y' → AreOnOneMask r x y x' y' →
      AreToldClose f net r x y x' y'
  pub drawn : DrawsMasks o.layer r.on_a r.on_b (report_text r)

-- ---- what follows of the masks

-- The cut line shows the zone of the cut between its two fragments: a part of their tile that is as
-- long as the overlap and as wide as the tile.
pub record ShowsZone (over : ℕ) (tiles : List Corners) (f : Fragments)
    (z : PlainZone) : Type 0 where
  pub cut : IsCut over tiles (map corners_of f.rects) f.tile z.at.a z.at.b z.corners
  pub from : ℤ
  pub part : z.corners ≡ part_of (rect_at tiles (slice_index_or f.tile z.at.a 0)) from
      (from +ℤ pos over)

-- the two fragments of the line hold cells of two shapes that are too close and on one mask
pub record TellsClose (cells : ℤ → ℤ → Bool) (space : ℕ) (f : Fragments) (r : PlainReport)
    (b : Broken) : Type 0 where
  pub x : ℤ
  pub y : ℤ
  pub x' : ℤ
  pub y' : ℤ
  pub first : HoldsCell f b.a x y
  pub second : HoldsCell f b.b x' y'
  pub close : AreTooClose cells space x y x' y'
  pub mask : AreOnOneMask r x y x' y'

-- two reports draw the same masks, cell by cell
pub record DrawSameMasks (r s : PlainReport) : Type 0 where
  pub on_a : (x y : ℤ) → is_in_boxes r.on_a x y ≡ is_in_boxes s.on_a x y
  pub on_b : (x y : ℤ) → is_in_boxes r.on_b x y ≡ is_in_boxes s.on_b x y
