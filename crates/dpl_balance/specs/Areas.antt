-- How many cells the masks of a colouring hold. Both masks hold the zone of a broken stitch, half of which lies in
-- each of the two fragments at the cut: so each mask holds one half besides its own fragment.
use Rattle.std.specs.Prelude.{ℕ, ◌+◌, ◌*◌, ◌/◌, ◌&&◌, ◌-ℤ◌, Bool, true, List, length, map, sum_by, if◌then◌else◌}
use Rattle.std.specs.Int.RustNames.{unsigned_abs}
use Rattle.dpl_cycle.specs.Sums.{sum_on}
use Rattle.dpl_cell.specs.declared.rect.Rect.{Rect}
use Rattle.dpl_cell.specs.Places.{Corners, corners_of}
use Rattle.dpl_sign.specs.Colourings.{agree, colour_of}
use Rattle.dpl_cuts.specs.declared.types.Cut.{Cut}
use Rattle.dpl_cuts.specs.declared.types.Fragments.{Fragments}
use Rattle.dpl_cuts.specs.Positions.{rect_at}
use Rattle.dpl_good.specs.MaskRects.{is_zone}

-- the number of cells of a rectangle
abbrev pub area_of : Corners → ℕ
area_of r = unsigned_abs (r.x2 -ℤ r.x1) * unsigned_abs (r.y2 -ℤ r.y1)

-- that of a fragment
abbrev pub area_at : List Rect → ℕ → ℕ
area_at rects v = area_of (rect_at (map corners_of rects) v)

-- that of those fragments which are on one mask
abbrev pub fragments_area : List Rect → (ℕ → Bool) → Bool → List Bool → ℕ
fragments_area rects those on_b colours =
    sum_on (λ v. those v && agree (colour_of colours v) on_b) (area_at rects) (length rects)

-- what one mask holds of the zone at a cut besides its own fragment
abbrev pub half_zone : (ℕ → Bool) → List Bool → Cut → ℕ
half_zone those colours c = if those c.a && is_zone colours c then area_of (corners_of c.zone) / 2
    else 0

abbrev pub zones_area : List Cut → (ℕ → Bool) → List Bool → ℕ
zones_area cuts those colours = sum_by (half_zone those colours) cuts

-- the number of cells that a mask has of those fragments and of the zones between them
abbrev pub area_on : Fragments → (ℕ → Bool) → Bool → List Bool → ℕ
area_on f those on_b colours =
    fragments_area f.rects those on_b colours + zones_area f.cuts those colours

abbrev pub all_fragments : ℕ → Bool
all_fragments v = true

-- the number of cells of a mask
abbrev pub mask_area : Fragments → Bool → List Bool → ℕ
mask_area f on_b colours = area_on f all_fragments on_b colours
