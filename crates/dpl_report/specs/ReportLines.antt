-- The text of a report as the list of its lines.
use Rattle.std.specs.Prelude.{ℕ, ℤ, pos, Bool, List, [], ◌∷◌, ◌++◌, map, codes, Option, None, Some, is_some, if◌then◌else◌}
use Rattle.std.specs.Fmt.{signed_decimal}
use Rattle.dpl_cell.specs.Places.{Corners}
use Rattle.dpl_sign.specs.declared.walks.Cycle.{Cycle}
use Rattle.dpl_boxes.specs.Masks.{box_line}
use Rattle.dpl_form.specs.Lines.{text_of, optional_line}
use Rattle.dpl_report.specs.declared.marks.Broken.{Broken}
use Rattle.dpl_report.specs.declared.params.Params.{Params}
use Rattle.dpl_report.specs.declared.params.Counts.{Counts}
use Rattle.dpl_report.specs.Plain.{PlainZone, PlainHead, PlainLists, PlainReport}

-- numbers, each behind a space, and what follows them
abbrev pub numbered : List ℤ → List ℕ → List ℕ
numbered [] end = end
numbered (z ∷ zs) end = 32 ∷ (signed_decimal z ++ numbered zs end)

-- a comment of a word and numbers
abbrev pub bracketed : List ℕ → List ℤ → List ℕ
bracketed word zs = codes "(" ++ word ++ numbered zs (codes ");\n")

abbrev pub count_line : List ℕ → ℕ → List ℕ
count_line word n = bracketed word (pos n ∷ [])

-- the second version has a corner weight
abbrev pub version_line : Bool → List ℕ
version_line second = if second then codes "(dpl 2);\n" else codes "(dpl 1);\n"

abbrev pub layer_line : List ℕ → List ℕ
layer_line name = codes "(layer " ++ name ++ codes ");\n"

-- the layer where nothing is cut
abbrev pub keep_line : List ℕ → List ℕ
keep_line name = codes "(keep " ++ name ++ codes ");\n"

-- A or B
abbrev pub mask_letter : Bool → ℕ
mask_letter on_b = if on_b then 66 else 65

abbrev pub masks_line : List Bool → List ℕ
masks_line colours = codes "(masks " ++ map mask_letter colours ++ codes ");\n"

abbrev pub broken_numbers : Broken → List ℤ
broken_numbers b = pos b.edge ∷ pos b.a ∷ pos b.b ∷ []

abbrev pub zone_numbers : PlainZone → List ℤ
zone_numbers z = pos z.at.edge ∷ pos z.at.a ∷ pos z.at.b ∷ z.corners.x1 ∷ z.corners.y1
    ∷ z.corners.x2 ∷ z.corners.y2 ∷ []

abbrev pub cycle_numbers : Cycle → List ℤ
cycle_numbers c = pos c.half ∷ pos c.walk.start ∷ map pos c.walk.edges

abbrev pub cut_line : PlainZone → List ℕ
cut_line z = bracketed (codes "cut") (zone_numbers z)

abbrev pub clash_line : Broken → List ℕ
clash_line b = bracketed (codes "clash") (broken_numbers b)

abbrev pub aside_line : ℕ → List ℕ
aside_line e = bracketed (codes "aside") (pos e ∷ [])

abbrev pub cycle_line : Cycle → List ℕ
cycle_line c = bracketed (codes "cycle") (cycle_numbers c)

abbrev pub start_line : List ℕ
start_line = codes "DS 1 1 4;\n"

-- the layer of a mask: the name with the mask's letter
abbrev pub mask_line : List ℕ → ℕ → List ℕ
mask_line name mask = codes "L " ++ name ++ (mask ∷ codes ";\n")

abbrev pub last_lines : List (List ℕ)
last_lines = codes "DF;\n" ∷ codes "C 1;\n" ∷ codes "E\n" ∷ []

abbrev pub params_lines : Params → List (List ℕ)
params_lines p = version_line (is_some p.corner) ∷ layer_line p.layer
    ∷ count_line (codes "space") p.space
    ∷ count_line (codes "overlap") p.overlap ∷ count_line (codes "stitch") p.stitch
    ∷ count_line (codes "conflict") p.conflict ∷ []

abbrev pub first_counts : Counts → List (List ℕ)
first_counts k = count_line (codes "pieces") k.pieces ∷ count_line (codes "fragments") k.fragments
    ∷ count_line (codes "bonds") k.bonds ∷ []

abbrev pub other_counts : Counts → List (List ℕ)
other_counts k = count_line (codes "stitches") k.stitches ∷ count_line (codes "clashes") k.clashes
    ∷ count_line (codes "excess") k.excess ∷ []

abbrev pub counts_lines : Counts → List (List ℕ)
counts_lines k = first_counts k ++ other_counts k

abbrev pub costs_lines : ℕ → ℕ → List Bool → List (List ℕ)
costs_lines cost bound colours =
    count_line (codes "cost") cost ∷ count_line (codes "bound") bound ∷ masks_line colours ∷ []

-- behind the masks the corner weight, and behind it the keep layer
abbrev pub more_lines : Option ℕ → Option (List ℕ) → List (List ℕ)
more_lines None keep = []
more_lines (Some corner) keep =
    count_line (codes "corner") corner ∷ optional_line keep_line keep

abbrev pub head_lines : PlainHead → List (List ℕ)
head_lines h = params_lines h.params ++ (counts_lines h.counts
    ++ (costs_lines h.cost h.bound h.colours ++ more_lines h.params.corner h.params.keep))

abbrev pub lists_lines : PlainLists → List (List ℕ)
lists_lines l = map cut_line l.cuts ++ (map clash_line l.clashes
    ++ (map aside_line l.aside ++ map cycle_line l.cycles))

-- the layer of a mask, and its boxes
abbrev pub mask_lines : List ℕ → ℕ → List Corners → List (List ℕ)
mask_lines name mask boxes = mask_line name mask ∷ map box_line boxes

-- one definition in quarters of a hundredth of a micron, with a layer for each mask
abbrev pub drawing_lines : List ℕ → List Corners → List Corners → List (List ℕ)
drawing_lines name on_a on_b =
    start_line ∷ (mask_lines name 65 on_a ++ (mask_lines name 66 on_b ++ last_lines))

abbrev pub report_lines : PlainReport → List (List ℕ)
report_lines r = head_lines r.head ++ (lists_lines r.lists
    ++ drawing_lines r.head.params.layer r.on_a r.on_b)

abbrev pub report_text : PlainReport → List ℕ
report_text r = text_of (report_lines r)
