-- The reader of a report gives back what its lines were written from.
use Rattle.std.proofs.Common.{Option, None, Some, IfSome, ◌+◌, ◌≡◌, ◌≢◌, ◌==◌, ℕ, zero, Bool, true, false, List}
use Rattle.std.proofs.Common.{[], ◌∷◌, ◌++◌, length, map, refl, sym, ap, ◌∙◌, append_assoc, codes, Ok}
use Rattle.std.specs.List.{list_all, AllByRecursion}
use Rattle.std.proofs.lemmas.Bool.Decides.{Decides-eqb, not_from_Decides}
use Rattle.dpl_cell.specs.Places.{Corners}
use Rattle.dpl_cell.specs.Ranges.{IsRectangle}
use Rattle.dpl_lex.specs.Classes.{is_separator}
use Rattle.dpl_sign.specs.declared.walks.Cycle.{Cycle}
use Rattle.dpl_boxes.specs.Masks.{box_line}
use Rattle.std.specs.Prelude.{is_some}
use Rattle.dpl_form.specs.Lines.{optional_line}
use Rattle.dpl_form.specs.Readers.{FitFrom}
use Rattle.dpl_form.proofs.Formats.{IsFormat, Anywhere, EndFrom, EndsOption, one_format, both_format, seen_format}
use Rattle.dpl_form.proofs.Formats.{seen_as_format, done_format, optional_format, many_format, refit}
use Rattle.dpl_form.proofs.Endings.{BeginsOther, ends_at_other, option_ends_at_other, other-map}
use Rattle.dpl_report.specs.declared.marks.Broken.{Broken}
use Rattle.dpl_report.specs.declared.values.Values.{Values}
use Rattle.dpl_report.specs.declared.values.More.{More}
use Rattle.dpl_report.specs.declared.params.Counts.{Counts}
use Rattle.dpl_report.specs.Plain.{PlainZone, PlainHead, PlainLists, PlainReport}
use Rattle.dpl_report.specs.ReportLines as lines
use Rattle.dpl_report.specs.ReportLines.{count_line, layer_line, cut_line, clash_line, aside_line, cycle_line}
use Rattle.dpl_report.specs.ReportLines.{more_lines, counts_lines, head_lines, lists_lines, drawing_lines, report_lines}
use Rattle.dpl_report.specs.Valid.{IsCount, AreMore, IsCounts, IsHead, IsCycle, IsLists, IsReport, CutFits, ClashFits, AsideFits}
use Rattle.dpl_options.specs.Options.{IsSplitLayer}
use Rattle.dpl_report.specs.Reading.{count, exactly, read_layer, read_masks, item_cut, item_clash, item_aside}
use Rattle.dpl_report.specs.Reading.{item_cycle, item_box, item_keep, read_version, read_keep, values_of, read_values}
use Rattle.dpl_report.specs.Reading.{nothing_more, more_of, read_corner, read_more, counts_of, read_counts, head_of}
use Rattle.dpl_report.specs.Reading.{read_head, read_cuts, read_clashes, read_aside, read_cycles, lists_of, read_lists}
use Rattle.dpl_report.specs.Reading.{read_boxes, read_mask, read_last, read_drawing, report_of, read_report}
use Rattle.dpl_report.proofs.ItemLemmas.{count_item, cut_items, clash_items, aside_items, cycle_item, box_item, items_of_item}
use Rattle.dpl_report.proofs.NameItems.{layer_item, keep_item, version_item, masks_item, line_item}

-- ---- the lines before the lists

count_format : (word : List ℕ) → list_all is_separator word ≡ true → IsFormat (count word) (λ n. count_line word n ∷ []) IsCount Anywhere
unfolding count
count_format word h = one_format (count_item word h)

line_format : (line : List ℕ) → IsFormat (exactly line) (λ _. line ∷ []) (λ _. Unit {0}) Anywhere
unfolding exactly
line_format line = one_format (line_item line)

layer_format : IsFormat read_layer (λ name. layer_line name ∷ []) IsSplitLayer Anywhere
unfolding read_layer
layer_format = one_format layer_item

masks_format : (n : ℕ) → IsFormat (read_masks n) (λ colours. lines.masks_line colours ∷ []) (λ colours. length colours ≡ n) Anywhere
unfolding read_masks
masks_format n = one_format (masks_item n)

version_format : IsFormat read_version (λ second. lines.version_line second ∷ []) (λ _. Unit {0}) Anywhere
unfolding read_version
version_format = one_format version_item

values_back : Values → List ℕ × (ℕ × (ℕ × (ℕ × ℕ)))
values_back v = (v.layer, (v.space, (v.overlap, (v.stitch, v.conflict))))

abbrev values_lines : Values → List (List ℕ)
values_lines v = layer_line v.layer ∷ count_line (codes "space") v.space ∷ count_line (codes "overlap") v.overlap ∷
    count_line (codes "stitch") v.stitch ∷ count_line (codes "conflict") v.conflict ∷ []

record AreValues (v : Values) : Type 0 where
  layer : IsSplitLayer v.layer
  space : IsCount v.space
  overlap : IsCount v.overlap
  stitch : IsCount v.stitch
  conflict : IsCount v.conflict

values_format : IsFormat read_values values_lines AreValues Anywhere
unfolding read_values values_back
values_format =
    refit values_lines AreValues Anywhere (λ v. refl)
    (λ v f. record { layer = f.0; space = f.1.0; overlap = f.1.1.0; stitch = f.1.1.1.0; conflict = f.1.1.1.1 })
    (λ v f. (f.layer, (f.space, (f.overlap, (f.stitch, f.conflict)))))
    (λ v rest e. tt) (λ v rest e. (tt, (tt, (tt, (tt, tt)))))
    (seen_format values_of values_back (λ v. refl) (λ v. refl)
    (both_format layer_format (λ _ _. both_format (count_format (codes "space") refl) (λ _ _. both_format (count_format (codes "overlap") refl)
    (λ _ _. both_format (count_format (codes "stitch") refl) (λ _ _. count_format (codes "conflict") refl))))))

counts_back : Counts → ℕ × (ℕ × (ℕ × (ℕ × (ℕ × ℕ))))
counts_back k = (k.pieces, (k.fragments, (k.bonds, (k.stitches, (k.clashes, k.excess)))))

counts_format : IsFormat read_counts counts_lines IsCounts Anywhere
unfolding read_counts counts_back
counts_format =
    refit counts_lines IsCounts Anywhere (λ k. refl)
    (λ k f. record { pieces = f.0; fragments = f.1.0; bonds = f.1.1.0; stitches = f.1.1.1.0; clashes = f.1.1.1.1.0; excess = f.1.1.1.1.1 })
    (λ k f. (f.pieces, (f.fragments, (f.bonds, (f.stitches, (f.clashes, f.excess))))))
    (λ k rest e. tt) (λ k rest e. (tt, (tt, (tt, (tt, (tt, tt))))))
    (seen_format counts_of counts_back (λ v. refl) (λ k. refl)
    (both_format (count_format (codes "pieces") refl) (λ _ _. both_format (count_format (codes "fragments") refl)
    (λ _ _. both_format (count_format (codes "bonds") refl)
    (λ _ _. both_format (count_format (codes "stitches") refl)
    (λ _ _. both_format (count_format (codes "clashes") refl) (λ _ _. count_format (codes "excess") refl)))))))

-- ---- the corner weight and the keep layer

keep_format : IsFormat read_keep (optional_line lines.keep_line) (λ o. IfSome o IsSplitLayer) (EndsOption item_keep)
unfolding read_keep
keep_format = optional_format keep_item

-- what a version has
abbrev FitsVersion : Bool → More → Type 0
FitsVersion second m = (is_some m.corner ≡ second) × AreMore m.corner m.keep

abbrev EndsMore : Option ℕ → Option (List ℕ) → List (List ℕ) → Type 0
EndsMore None keep rest = Unit {0}
EndsMore (Some corner) keep rest = EndsOption item_keep keep rest

abbrev lines_of_more : More → List (List ℕ)
lines_of_more m = more_lines m.corner m.keep

abbrev EndsWith : More → List (List ℕ) → Type 0
EndsWith m rest = EndsMore m.corner m.keep rest

or_zero : Option ℕ → ℕ
or_zero None = 0
or_zero (Some n) = n

more_back : More → ℕ × Option (List ℕ)
more_back m = (or_zero m.corner, m.keep)

more_with : Option ℕ → Option (List ℕ) → More
more_with corner keep = record { corner = corner; keep = keep }

corner_same : (c : Option ℕ) → is_some c ≡ true → Some (or_zero c) ≡ c
unfolding or_zero
corner_same None e = absurd (cc)
corner_same (Some n) e = refl

corner_fits : (c : Option ℕ) (k : Option (List ℕ)) → is_some c ≡ true → AreMore c k → IsCount (or_zero c) × IfSome k IsSplitLayer
unfolding or_zero
corner_fits None k e m = absurd (cc)
corner_fits (Some n) k e m = m

corner_lines : (c : Option ℕ) (k : Option (List ℕ)) → is_some c ≡ true
    → count_line (codes "corner") (or_zero c) ∷ optional_line lines.keep_line k ≡ more_lines c k
unfolding or_zero
corner_lines None k e = absurd (cc)
corner_lines (Some n) k e = refl

corner_ends : (c : Option ℕ) (k : Option (List ℕ)) (rest : List (List ℕ)) → EndsOption item_keep k rest → EndsMore c k rest
corner_ends None k rest e = tt
corner_ends (Some n) k rest e = e

corner_ends_back : (c : Option ℕ) (k : Option (List ℕ)) (rest : List (List ℕ)) → is_some c ≡ true → EndsMore c k rest → EndsOption item_keep k rest
corner_ends_back None k rest h e = absurd (cc)
corner_ends_back (Some n) k rest h e = e

corner_format : IsFormat read_corner lines_of_more (FitsVersion true) EndsWith
unfolding read_corner more_back or_zero more_with
corner_format =
    seen_as_format more_of more_back lines_of_more (FitsVersion true) EndsWith
    (λ v g. refl) (λ m g. ap (λ c. more_with c m.keep) (corner_same m.corner g.0))
    (λ v g. (refl, g)) (λ m g. corner_fits m.corner m.keep g.0 g.1)
    (λ m g. corner_lines m.corner m.keep g.0)
    (λ m rest g e. corner_ends m.corner m.keep rest e.1) (λ m rest g e. (tt, corner_ends_back m.corner m.keep rest g.0 e))
    (both_format (count_format (codes "corner") refl) (λ _ _. keep_format))

nothing_fits : (c : Option ℕ) (k : Option (List ℕ)) → is_some c ≡ false → AreMore c k → more_with c k ≡ nothing_more
unfolding more_with
nothing_fits None k e m = ap (λ x. more_with None x) m
nothing_fits (Some n) k e m = absurd (cc)

nothing_format : IsFormat (λ ls. Ok (nothing_more, ls)) lines_of_more (FitsVersion false) EndsWith
unfolding more_with
nothing_format = record {
  some = nothing_more;
  some_fits = (refl, refl);
  takes = λ ls m rest e. let t = done.takes ls m rest e in rw t.fits (record { fits = (refl, refl); parts = t.parts; ends = tt });
  again = λ m rest g e. rw (nothing_fits m.corner m.keep g.0 g.1) refl;
  next = λ m g l t u e. rw (nothing_fits m.corner m.keep g.0 g.1) tt;
  stops = λ ls left e. absurd (cc);
} where
  done : IsFormat (λ ls. Ok (nothing_more, ls)) (λ m. []) (λ m. m ≡ nothing_more) Anywhere
  done = done_format nothing_more

more_format : (second : Bool) → IsFormat (read_more second) lines_of_more (FitsVersion second) EndsWith
unfolding read_more
more_format true = corner_format
more_format false = nothing_format

-- ---- all the lines before the lists

abbrev HeadParts : Type 0
HeadParts = Bool × (Values × (Counts × (ℕ × (ℕ × (List Bool × More)))))

head_back : PlainHead → HeadParts
head_back h = (
  is_some h.params.corner,
  (
    record { layer = h.params.layer; space = h.params.space; overlap = h.params.overlap; stitch = h.params.stitch; conflict = h.params.conflict },
    (h.counts, (h.cost, (h.bound, (h.colours, record { corner = h.params.corner; keep = h.params.keep })))),
  ),
)

abbrev EndsHead : PlainHead → List (List ℕ) → Type 0
EndsHead h rest = EndsMore h.params.corner h.params.keep rest

head_format : IsFormat read_head head_lines IsHead EndsHead
unfolding read_head head_back
head_format =
    seen_as_format head_of head_back head_lines IsHead EndsHead
    (λ v g. ap (λ (second : Bool). (second, v.1)) g.1.1.1.1.1.1.0) (λ h g. refl)
    (λ v g. record {
      params = record {
        layer = g.1.0.layer;
        space = g.1.0.space;
        overlap = g.1.0.overlap;
        stitch = g.1.0.stitch;
        conflict = g.1.0.conflict;
        more = g.1.1.1.1.1.1.1;
      };
      counts = g.1.1.0;
      cost = g.1.1.1.0;
      bound = g.1.1.1.1.0;
      colours = g.1.1.1.1.1.0;
    })
    (λ h g. (
      tt,
      (
        record { layer = g.params.layer; space = g.params.space; overlap = g.params.overlap; stitch = g.params.stitch; conflict = g.params.conflict },
        (g.counts, (g.cost, (g.bound, (g.colours, (refl, g.params.more))))),
      ),
    ))
    (λ h g. refl)
    (λ h rest g e. e.1.1.1.1.1.1) (λ h rest g e. (tt, (tt, (tt, (tt, (tt, (tt, e)))))))
    (both_format version_format (λ second _. both_format values_format (λ _ _. both_format counts_format (λ k _. both_format (count_format (codes "cost") refl)
    (λ _ _. both_format (count_format (codes "bound") refl) (λ _ _. both_format (masks_format k.fragments) (λ _ _. more_format second)))))))

-- ---- the lists

fit_all : {X : Type 0} (Fits : X → Type 0) (s : ℕ) (xs : List X) → FitFrom (λ (t : ℕ). Fits) (λ _. zero) s xs → AllByRecursion Fits xs
fit_all Fits s [] f = tt
fit_all Fits s (x ∷ xs) f = (f.0, fit_all Fits zero xs f.1)

all_fit : {X : Type 0} (Fits : X → Type 0) (s : ℕ) (xs : List X) → AllByRecursion Fits xs → FitFrom (λ (t : ℕ). Fits) (λ _. zero) s xs
all_fit Fits s [] f = tt
all_fit Fits s (x ∷ xs) f = (f.0, all_fit Fits zero xs f.1)

-- the third byte tells the lines of the lists, and the first the boxes
third : List ℕ → ℕ
third [] = 0
third (a ∷ []) = 0
third (a ∷ b ∷ []) = 0
third (a ∷ b ∷ c ∷ l) = c

first : List ℕ → ℕ
first [] = 0
first (a ∷ l) = a

cuts_format : IsFormat read_cuts (map cut_line) (FitFrom CutFits (λ z. z.at.edge + 1) zero) (EndFrom item_cut (λ z. z.at.edge + 1) zero)
unfolding read_cuts
cuts_format = many_format (λ z. z.at.edge + 1) zero cut_items

clashes_format : IsFormat read_clashes (map clash_line) (FitFrom ClashFits (λ b. b.edge + 1) zero) (EndFrom item_clash (λ b. b.edge + 1) zero)
unfolding read_clashes
clashes_format = many_format (λ b. b.edge + 1) zero clash_items

aside_format : IsFormat read_aside (map aside_line) (FitFrom AsideFits (λ e. e + 1) zero) (EndFrom item_aside (λ e. e + 1) zero)
unfolding read_aside
aside_format = many_format (λ e. e + 1) zero aside_items

cycles_format : IsFormat read_cycles (map cycle_line) (FitFrom (λ (s : ℕ). IsCycle) (λ _. zero) zero) (EndFrom (λ (s : ℕ). item_cycle) (λ _. zero) zero)
unfolding read_cycles
cycles_format = many_format (λ _. zero) zero (items_of_item item_cycle cycle_line IsCycle cycle_item)

boxes_format : IsFormat read_boxes (map box_line) (FitFrom (λ (s : ℕ). IsRectangle) (λ _. zero) zero) (EndFrom (λ (s : ℕ). item_box) (λ _. zero) zero)
unfolding read_boxes
boxes_format = many_format (λ _. zero) zero (items_of_item item_box box_line IsRectangle box_item)

lists_back : PlainLists → List PlainZone × (List Broken × (List ℕ × List Cycle))
lists_back l = (l.cuts, (l.clashes, (l.aside, l.cycles)))

-- where each list ends
abbrev ListsEnd : PlainLists → List (List ℕ) → Type 0
ListsEnd l rest =
    EndFrom item_cut (λ z. z.at.edge + 1) zero l.cuts ((map clash_line l.clashes ++ (map aside_line l.aside ++ map cycle_line l.cycles)) ++ rest)
    × (EndFrom item_clash (λ b. b.edge + 1) zero l.clashes ((map aside_line l.aside ++ map cycle_line l.cycles) ++ rest)
    × (EndFrom item_aside (λ e. e + 1) zero l.aside (map cycle_line l.cycles ++ rest)
    × EndFrom (λ (s : ℕ). item_cycle) (λ _. zero) zero l.cycles rest))

lists_format : IsFormat read_lists lists_lines IsLists ListsEnd
unfolding read_lists lists_back
lists_format =
    refit lists_lines IsLists ListsEnd (λ l. refl)
    (λ l f. record { cuts = f.0; clashes = f.1.0; aside = f.1.1.0; cycles = fit_all IsCycle zero l.cycles f.1.1.1 })
    (λ l f. (f.cuts, (f.clashes, (f.aside, all_fit IsCycle zero l.cycles f.cycles))))
    (λ l rest e. e) (λ l rest e. e)
    (seen_format lists_of lists_back (λ v. refl) (λ l. refl)
    (both_format cuts_format (λ _ _. both_format clashes_format (λ _ _. both_format aside_format (λ _ _. cycles_format)))))

apart : (m k : ℕ) → (m == k) ≡ false → m ≢ k
apart m k h = not_from_Decides (m == k) (Decides-eqb m k) h

begins_other : (mark : List ℕ → ℕ) (m k : ℕ) (line : List ℕ) (rest : List (List ℕ)) → mark line ≡ m → (m == k) ≡ false → BeginsOther mark k (line ∷ rest)
begins_other mark m k line rest h n e = apart m k n (sym h ∙ e)

cycles_before : (k : ℕ) (cs : List Cycle) (rest : List (List ℕ)) → (121 == k) ≡ false
    → BeginsOther third k rest → BeginsOther third k (map cycle_line cs ++ rest)
unfolding third
cycles_before k cs rest n b = other-map third k 121 cycle_line (λ c. refl) (apart 121 k n) cs rest b

aside_before : (k : ℕ) (es : List ℕ) (rest : List (List ℕ)) → (115 == k) ≡ false → BeginsOther third k rest → BeginsOther third k (map aside_line es ++ rest)
unfolding third
aside_before k es rest n b = other-map third k 115 aside_line (λ e. refl) (apart 115 k n) es rest b

clashes_before : (k : ℕ) (bs : List Broken) (rest : List (List ℕ)) → (108 == k) ≡ false
    → BeginsOther third k rest → BeginsOther third k (map clash_line bs ++ rest)
unfolding third
clashes_before k bs rest n b = other-map third k 108 clash_line (λ e. refl) (apart 108 k n) bs rest b

-- a line of a drawing begins none of the lists
lists_end : (l : PlainLists) (line : List ℕ) (rest : List (List ℕ)) → third line ≡ 32 → ListsEnd l (line ∷ rest)
unfolding third
lists_end l line rest h =
    let drawing = line ∷ rest in
    let cycles = map cycle_line l.cycles in
    let aside = map aside_line l.aside in
    let clashes = map clash_line l.clashes in
    let three : (clashes ++ (aside ++ cycles)) ++ drawing ≡ clashes ++ (aside ++ (cycles ++ drawing)) =
    append_assoc clashes (aside ++ cycles) drawing ∙ ap (λ t. clashes ++ t) (append_assoc aside cycles drawing) in (
      rw three (ends_at_other third 117 (λ z. z.at.edge + 1) cut_items (λ z. refl) zero l.cuts (clashes ++ (aside ++ (cycles ++ drawing)))
          (clashes_before 117 l.clashes (aside ++ (cycles ++ drawing)) refl
          (aside_before 117 l.aside (cycles ++ drawing) refl
          (cycles_before 117 l.cycles drawing refl (begins_other third 32 117 line rest h refl))))),
      (
        rw (append_assoc aside cycles drawing) (ends_at_other third 108 (λ b. b.edge + 1) clash_items (λ b. refl) zero l.clashes (aside ++ (cycles ++ drawing))
            (aside_before 108 l.aside (cycles ++ drawing) refl (cycles_before 108 l.cycles drawing refl (begins_other third 32 108 line rest h refl)))),
        (
          ends_at_other third 115 (λ e. e + 1) aside_items (λ e. refl) zero l.aside (cycles ++ drawing)
              (cycles_before 115 l.cycles drawing refl (begins_other third 32 115 line rest h refl)),
          ends_at_other third 121 (λ _. zero) (items_of_item item_cycle cycle_line IsCycle cycle_item) (λ c. refl) zero
              l.cycles drawing (begins_other third 32 121 line rest h refl),
        ),
      ),
    )

-- nor does one of those or a line of the lists begin a keep layer
cuts_before : (k : ℕ) (zs : List PlainZone) (rest : List (List ℕ)) → (117 == k) ≡ false
    → BeginsOther third k rest → BeginsOther third k (map cut_line zs ++ rest)
unfolding third
cuts_before k zs rest n b = other-map third k 117 cut_line (λ z. refl) (apart 117 k n) zs rest b

lists_before : (l : PlainLists) (rest : List (List ℕ)) → BeginsOther third 101 rest → BeginsOther third 101 (lists_lines l ++ rest)
lists_before l rest b =
    let cycles = map cycle_line l.cycles in
    let aside = map aside_line l.aside in
    let clashes = map clash_line l.clashes in
    let cuts = map cut_line l.cuts in
    let parts : (cuts ++ (clashes ++ (aside ++ cycles))) ++ rest ≡ cuts ++ (clashes ++ (aside ++ (cycles ++ rest))) =
    append_assoc cuts (clashes ++ (aside ++ cycles)) rest ∙
    ap (λ t. cuts ++ t) (append_assoc clashes (aside ++ cycles) rest ∙
    ap (λ t. clashes ++ t) (append_assoc aside cycles rest)) in
    rw parts (cuts_before 101 l.cuts (clashes ++ (aside ++ (cycles ++ rest))) refl (clashes_before 101 l.clashes (aside ++ (cycles ++ rest)) refl
    (aside_before 101 l.aside (cycles ++ rest) refl (cycles_before 101 l.cycles rest refl b))))

more_end : (c : Option ℕ) (k : Option (List ℕ)) (rest : List (List ℕ)) → BeginsOther third 101 rest → EndsMore c k rest
unfolding third
more_end None k rest b = tt
more_end (Some n) k rest b = option_ends_at_other third 101 keep_item (λ name. refl) k rest b

head_end : (h : PlainHead) (l : PlainLists) (line : List ℕ) (drawing rest : List (List ℕ)) → third line ≡ 32
    → EndsHead h ((lists_lines l ++ (line ∷ drawing)) ++ rest)
head_end h l line drawing rest e =
    rw (append_assoc (lists_lines l) (line ∷ drawing) rest)
    (more_end h.params.corner h.params.keep (lists_lines l ++ line ∷ (drawing ++ rest))
    (lists_before l (line ∷ (drawing ++ rest)) (begins_other third 32 101 line (drawing ++ rest) e refl)))

-- and a line that begins otherwise no box
boxes_end : (boxes : List Corners) (line : List ℕ) (rest : List (List ℕ)) → (first line == 66) ≡ false
    → EndFrom (λ (s : ℕ). item_box) (λ _. zero) zero boxes (line ∷ rest)
unfolding first
boxes_end boxes line rest h = ends_at_other first 66 (λ _. zero) (items_of_item item_box box_line IsRectangle box_item)
    (λ b. refl) zero boxes (line ∷ rest) (begins_other first (first line) 66 line rest refl h)

mask_format : (name : List ℕ) (mask : ℕ) → IsFormat (read_mask name mask)
    (λ boxes. lines.mask_line name mask ∷ map box_line boxes) (AllByRecursion IsRectangle)
    (EndFrom (λ (s : ℕ). item_box) (λ _. zero) zero)
unfolding read_mask
mask_format name mask =
    refit (λ boxes. lines.mask_line name mask ∷ map box_line boxes) (AllByRecursion IsRectangle) (EndFrom (λ (s : ℕ). item_box) (λ _. zero) zero) (λ b. refl)
    (λ b f. fit_all IsRectangle zero b f.1) (λ b f. (tt, all_fit IsRectangle zero b f)) (λ b rest e. e.1) (λ b rest e. (tt, e))
    (seen_format (λ v. v.1) (λ b. (tt, b)) (λ v. refl) (λ b. refl) (both_format (line_format (lines.mask_line name mask)) (λ _ _. boxes_format)))

last_format : IsFormat read_last (λ _. lines.last_lines) (λ _. Unit {0}) Anywhere
unfolding read_last
last_format =
    refit (λ _. lines.last_lines) (λ _. Unit {0}) Anywhere (λ _. refl) (λ _ f. tt) (λ _ f. (tt, (tt, tt))) (λ _ rest e. tt) (λ _ rest e. (tt, (tt, tt)))
    (seen_format (λ _. tt) (λ _. (tt, (tt, tt))) (λ v. refl) (λ _. refl)
    (both_format (line_format (codes "DF;\n")) (λ _ _. both_format (line_format (codes "C 1;\n"))
    (λ _ _. line_format (codes "E\n")))))

drawing_back : List Corners × List Corners → Unit {0} × (List Corners × (List Corners × Unit {0}))
drawing_back v = (tt, (v.0, (v.1, tt)))

drawing_format : (name : List ℕ)
    → IsFormat (read_drawing name) (λ v. drawing_lines name v.0 v.1) (λ v. AllByRecursion IsRectangle v.0 × AllByRecursion IsRectangle v.1) Anywhere
unfolding read_drawing drawing_back first
drawing_format name =
    refit (λ v. drawing_lines name v.0 v.1) (λ v. AllByRecursion IsRectangle v.0 × AllByRecursion IsRectangle v.1) Anywhere (λ v. refl)
    (λ v f. (f.1.0, f.1.1.0)) (λ v f. (tt, (f.0, (f.1, tt)))) (λ v rest e. tt)
    (λ v rest e. (
      tt,
      (
        boxes_end v.0 (lines.mask_line name 66) ((map box_line v.1 ++ lines.last_lines) ++ rest) refl,
        (boxes_end v.1 (codes "DF;\n") (codes "C 1;\n" ∷ codes "E\n" ∷ rest) refl, tt),
      ),
    ))
    (seen_format (λ v. (v.1.0, v.1.1.0)) drawing_back (λ v. refl) (λ v. refl)
    (both_format (line_format lines.start_line) (λ _ _. both_format (mask_format name 65) (λ _ _. both_format (mask_format name 66) (λ _ _. last_format)))))

-- ---- all of it

report_back : PlainReport → PlainHead × (PlainLists × (List Corners × List Corners))
report_back r = (r.head, (r.lists, (r.on_a, r.on_b)))

-- the reader of a report gives back what its lines were written from
pub report_format : IsFormat read_report report_lines IsReport Anywhere
unfolding read_report report_back third
report_format =
    refit report_lines IsReport Anywhere (λ r. refl)
    (λ r f. record { head = f.0; lists = f.1.0; on_a = f.1.1.0; on_b = f.1.1.1 })
    (λ r f. (f.head, (f.lists, (f.on_a, f.on_b))))
    (λ r rest e. tt)
    (λ r rest e. (head_end r.head r.lists lines.start_line _ rest refl, (lists_end r.lists lines.start_line _ refl, tt)))
    (seen_format report_of report_back (λ v. refl) (λ r. refl)
    (both_format head_format (λ h _. both_format lists_format (λ _ _. drawing_format h.params.layer))))
