-- Reading the lines of a report. Numbers are looked for, and a line counts only where it is written so again.
use Rattle.std.specs.Prelude.{ℕ, zero, ℤ, pos, negsuc, ◌+ℤ◌, ◌-ℤ◌, ◌*ℤ◌, ◌-◌, ◌+◌, Bool, true, false, ◌&&◌, ◌==◌, nat_le, int_div, int_lt, int_le, neg_ℤ, List, [], ◌∷◌, length, map, take, drop, codes, Option, None, Some, Ok, if◌then◌else◌}
use Rattle.std.specs.Str.{bytes_eq}
use Rattle.dpl_limits.specs.Limits.{most_coordinate}
use Rattle.dpl_lex.specs.Name.{is_name}
use Rattle.dpl_rules.specs.Readers.{◌>>=◌, signed_of, repeated}
use Rattle.dpl_cell.specs.Places.{Corners}
use Rattle.dpl_sign.specs.declared.walks.Cycle.{Cycle}
use Rattle.dpl_boxes.specs.Masks.{box_line}
use Rattle.dpl_form.specs.Readers.{Reader, one, optional, many, both, seen}
use Rattle.dpl_report.specs.declared.marks.Broken.{Broken}
use Rattle.dpl_report.specs.declared.values.Values.{Values}
use Rattle.dpl_report.specs.declared.values.More.{More}
use Rattle.dpl_report.specs.declared.params.Counts.{Counts}
use Rattle.dpl_report.specs.Plain.{PlainZone, PlainHead, PlainLists, PlainReport, params_with}
use Rattle.dpl_report.specs.ReportLines as lines

-- the integers of a line behind its first byte
abbrev pub numbers_in : List ℕ → List ℤ
numbers_in line = (repeated signed_of (length line) (drop 1 line)).0

-- the item, where this line is its line
abbrev pub if_written : {X : Type 0} → (X → List ℕ) → List ℕ → X → Option X
if_written text line x = if bytes_eq (text x) line then Some x else None

-- the item that these numbers make, where this line is its line
abbrev pub item_by : {X : Type 0} → (List ℤ → Option X) → (X → List ℕ) → List ℕ → Option X
item_by guess text line = guess (numbers_in line) >>= if_written text line

-- a number up to a limit
abbrev pub up_to : ℕ → ℤ → Option ℕ
up_to most (pos n) = if nat_le n most then Some n else None
up_to most (negsuc n) = None

abbrev pub number_of : ℤ → Option ℕ
number_of z = up_to 4294967295 z

abbrev pub count_of : ℤ → Option ℕ
count_of z = up_to 1000000000000 z

abbrev pub count_from : List ℤ → Option ℕ
count_from (z ∷ []) = count_of z
count_from _ = None

abbrev pub item_count : List ℕ → List ℕ → Option ℕ
item_count word line = item_by count_from (lines.count_line word) line

abbrev pub ends_from : ℤ → ℤ → ℤ → Option Broken
ends_from e a b = do
  x ← number_of e
  y ← number_of a
  z ← number_of b
  Some (record { edge = x; a = y; b = z })

abbrev pub broken_from : List ℤ → Option Broken
broken_from (e ∷ a ∷ b ∷ []) = ends_from e a b
broken_from _ = None

-- from a least edge number on
abbrev pub from_edge : {X : Type 0} → ℕ → ℕ → X → Option X
from_edge least edge x = if nat_le least edge then Some x else None

abbrev pub item_clash : ℕ → List ℕ → Option Broken
item_clash least line = broken_from (numbers_in line) >>= λ b.
    from_edge least b.edge b >>= if_written lines.clash_line line

abbrev pub is_stretch : ℤ → ℤ → Bool
is_stretch a b = int_lt a b && int_le (neg_ℤ (pos most_coordinate)) a && int_le b (pos most_coordinate)

unfoldable pub rectangle_of : Corners → Option Corners
rectangle_of c = if is_stretch c.x1 c.x2 && is_stretch c.y1 c.y2 then Some c else None

abbrev pub corners_from : List ℤ → Option Corners
corners_from (x1 ∷ y1 ∷ x2 ∷ y2 ∷ []) = rectangle_of (record { x1 = x1; y1 = y1; x2 = x2; y2 = y2 })
corners_from _ = None

abbrev pub zone_with : Broken → List ℤ → Option PlainZone
zone_with at zs = corners_from zs >>= λ c. Some (record { at = at; corners = c })

abbrev pub zone_from : List ℤ → Option PlainZone
zone_from (e ∷ a ∷ b ∷ zs) = ends_from e a b >>= λ at. zone_with at zs
zone_from _ = None

abbrev pub item_cut : ℕ → List ℕ → Option PlainZone
item_cut least line = zone_from (numbers_in line) >>= λ z.
    from_edge least z.at.edge z >>= if_written lines.cut_line line

abbrev pub aside_from : List ℤ → Option ℕ
aside_from (e ∷ []) = number_of e
aside_from _ = None

abbrev pub item_aside : ℕ → List ℕ → Option ℕ
item_aside least line = aside_from (numbers_in line) >>= λ e.
    from_edge least e e >>= if_written lines.aside_line line

abbrev pub edges_of : List ℤ → Option (List ℕ)
edges_of [] = Some []
edges_of (z ∷ zs) = number_of z >>= λ e. edges_of zs >>= λ es. Some (e ∷ es)

abbrev pub cycle_with : ℕ → ℕ → List ℕ → Option Cycle
cycle_with half start [] = None
cycle_with half start (e ∷ es) = if half == 0 then None
    else Some (record { half = half; walk = record { start = start; edges = e ∷ es } })

abbrev pub cycle_from : List ℤ → Option Cycle
cycle_from (h ∷ s ∷ zs) = do
  half ← count_of h
  start ← number_of s
  edges ← edges_of zs
  cycle_with half start edges
cycle_from _ = None

abbrev pub item_cycle : List ℕ → Option Cycle
item_cycle line = item_by cycle_from lines.cycle_line line

-- the corner on the low side and on the high side, from a middle and a length in quarters
abbrev pub low_corner : ℤ → ℤ → ℤ
low_corner middle length = int_div ((middle *ℤ pos 2) -ℤ length) (pos 4)

abbrev pub high_corner : ℤ → ℤ → ℤ
high_corner middle length = int_div ((middle *ℤ pos 2) +ℤ length) (pos 4)

abbrev pub box_by : ℤ → ℤ → ℤ → ℤ → Option Corners
box_by l w x y = rectangle_of (record {
  x1 = low_corner x l;
  y1 = low_corner y w;
  x2 =
      high_corner x l;
  y2 = high_corner y w;
})

abbrev pub box_from : List ℤ → Option Corners
box_from (l ∷ w ∷ x ∷ y ∷ []) = box_by l w x y
box_from _ = None

abbrev pub item_box : List ℕ → Option Corners
item_box line = item_by box_from box_line line

-- what stands between so many bytes at the front and three at the end
abbrev pub between : ℕ → List ℕ → List ℕ
between front line = take (length line - (front + 3)) (drop front line)

abbrev pub layer_from : List ℕ → Option (List ℕ)
layer_from name = if is_name name && nat_le (length name) 31 then Some name else None

abbrev pub item_layer : List ℕ → Option (List ℕ)
item_layer line = layer_from (between 7 line) >>= if_written lines.layer_line line

abbrev pub item_keep : List ℕ → Option (List ℕ)
item_keep line = layer_from (between 6 line) >>= if_written lines.keep_line line

abbrev pub item_version : List ℕ → Option Bool
item_version line = if bytes_eq (lines.version_line true) line then Some true
    else (if bytes_eq (lines.version_line false) line then Some false else None)

abbrev pub colours_from : List ℕ → List Bool
colours_from letters = map (λ b. b == 66) letters

abbrev pub of_length : ℕ → List Bool → Option (List Bool)
of_length n colours = if length colours == n then Some colours else None

abbrev pub item_masks : ℕ → List ℕ → Option (List Bool)
item_masks fragments line =
    of_length fragments (colours_from (between 7 line)) >>= if_written lines.masks_line line

-- exactly this line
abbrev pub item_line : List ℕ → List ℕ → Option (Unit {0})
item_line wanted line = if bytes_eq wanted line then Some tt else None

-- ---- the parts of a report

unfoldable pub count : List ℕ → Reader ℕ
count word = one (item_count word)

unfoldable pub exactly : List ℕ → Reader (Unit {0})
exactly line = one (item_line line)

unfoldable pub read_layer : Reader (List ℕ)
read_layer = one item_layer

unfoldable pub read_version : Reader Bool
read_version = one item_version

unfoldable pub read_keep : Reader (Option (List ℕ))
read_keep = optional item_keep

unfoldable pub read_masks : ℕ → Reader (List Bool)
read_masks fragments = one (item_masks fragments)

abbrev pub then_ : {X Y : Type 0} → Reader X → Reader Y → Reader (X × Y)
then_ f g = both f (λ _. g)

abbrev pub values_of : List ℕ × (ℕ × (ℕ × (ℕ × ℕ))) → Values
values_of v = record {
  layer = v.0;
  space = v.1.0;
  overlap = v.1.1.0;
  stitch = v.1.1.1.0;
  conflict = v.1.1.1.1;
}

unfoldable pub read_values : Reader Values
read_values = seen values_of (then_ read_layer (then_ (count (codes "space"))
    (then_ (count (codes "overlap")) (then_ (count (codes "stitch")) (count (codes "conflict"))))))

abbrev pub counts_of : ℕ × (ℕ × (ℕ × (ℕ × (ℕ × ℕ)))) → Counts
counts_of v = record {
  pieces = v.0;
  fragments = v.1.0;
  bonds = v.1.1.0;
  stitches =
      v.1.1.1.0;
  clashes = v.1.1.1.1.0;
  excess = v.1.1.1.1.1;
}

unfoldable pub read_counts : Reader Counts
read_counts = seen counts_of (then_ (count (codes "pieces"))
    (then_ (count (codes "fragments")) (then_ (count (codes "bonds"))
    (then_ (count (codes "stitches")) (then_ (count (codes "clashes")) (count (codes "excess")))))))

abbrev pub nothing_more : More
nothing_more = record { corner = None; keep = None }

abbrev pub more_of : ℕ × Option (List ℕ) → More
more_of v = record { corner = Some v.0; keep = v.1 }

unfoldable pub read_corner : Reader More
read_corner = seen more_of (then_ (count (codes "corner")) read_keep)

-- behind the masks a second version has a corner weight
unfoldable pub read_more : Bool → Reader More
read_more second ls = if second then read_corner ls else Ok (nothing_more, ls)

abbrev pub head_of : Bool × (Values × (Counts × (ℕ × (ℕ × (List Bool × More))))) → PlainHead
head_of v = record {
  params = params_with v.1.0 v.1.1.1.1.1.1;
  counts = v.1.1.0;
  cost = v.1.1.1.0;
  bound = v.1.1.1.1.0;
  colours = v.1.1.1.1.1.0;
}

unfoldable pub read_head : Reader PlainHead
read_head = seen head_of (both read_version (λ second. then_ read_values (both read_counts (λ k.
    then_ (count (codes "cost")) (then_ (count (codes "bound")) (then_ (read_masks k.fragments)
    (read_more second)))))))

-- as many lines as read as items, with a state
abbrev pub block : {S X : Type 0} → (S → List ℕ → Option X) → (X → S) → S → Reader (List X)
block item after s ls = Ok (many item after s ls)

unfoldable pub read_cuts : Reader (List PlainZone)
read_cuts = block item_cut (λ z. z.at.edge + 1) 0

unfoldable pub read_clashes : Reader (List Broken)
read_clashes = block item_clash (λ b. b.edge + 1) 0

unfoldable pub read_aside : Reader (List ℕ)
read_aside = block item_aside (λ e. e + 1) 0

unfoldable pub read_cycles : Reader (List Cycle)
read_cycles = block (λ (s : ℕ). item_cycle) (λ _. zero) zero

abbrev pub lists_of : List PlainZone × (List Broken × (List ℕ × List Cycle)) → PlainLists
lists_of v = record { cuts = v.0; clashes = v.1.0; aside = v.1.1.0; cycles = v.1.1.1 }

unfoldable pub read_lists : Reader PlainLists
read_lists = seen lists_of (then_ read_cuts (then_ read_clashes (then_ read_aside read_cycles)))

unfoldable pub read_boxes : Reader (List Corners)
read_boxes = block (λ (s : ℕ). item_box) (λ _. zero) zero

-- the layer of a mask, and its boxes
unfoldable pub read_mask : List ℕ → ℕ → Reader (List Corners)
read_mask name mask = seen (λ v. v.1) (then_ (exactly (lines.mask_line name mask)) read_boxes)

unfoldable pub read_last : Reader (Unit {0})
read_last = seen (λ _. tt) (then_ (exactly (codes "DF;\n"))
    (then_ (exactly (codes "C 1;\n")) (exactly (codes "E\n"))))

unfoldable pub read_drawing : List ℕ → Reader (List Corners × List Corners)
read_drawing name = seen (λ v.
    (v.1.0, v.1.1.0)) (then_ (exactly lines.start_line)
    (then_ (read_mask name 65) (then_ (read_mask name 66) read_last)))

abbrev pub report_of : PlainHead × (PlainLists × (List Corners × List Corners)) → PlainReport
report_of v = record { head = v.0; lists = v.1.0; on_a = v.1.1.0; on_b = v.1.1.1 }

unfoldable pub read_report : Reader PlainReport
read_report = seen report_of (both read_head (λ h. then_ read_lists (read_drawing h.params.layer)))
