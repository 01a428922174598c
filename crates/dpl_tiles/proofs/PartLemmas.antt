-- The cells of a row in a window: those of boxes by the columns that they cover, those of polygons whose bounds meet it.
use Rattle.std.proofs.Common.{arith, ◌≡◌, ◌⊎◌, ℕ, ◌+◌, ◌-◌, ◌<◌, ◌≤◌, ℤ, pos, ◌-ℤ◌, ◌≤ℤ◌, ◌<ℤ◌, List, [], ◌∷◌, ◌++◌, length, get_or, take, filter}
use Rattle.std.proofs.Common.{◌∙◌, All, Any, Contains}
use Rattle.std.proofs.Common.{refl, sym, ap, subst, inl, inr, map, Bool, true, false, ◌||◌, ◌&&◌, true≢false}
use Rattle.std.specs.List.{AllZip, list_any}
use Rattle.std.specs.List.Sorted.{IsPermutation}
use Rattle.std.proofs.lemmas.Bool.{and_parts, or_cases, or_right}
use Rattle.std.proofs.lemmas.Int.{by_lt_z}
use Rattle.std.proofs.lemmas.List.{get_or_default, take_more, take_all}
use Rattle.std.proofs.lemmas.List.Folds.{Any-from_list_any, list_any_at}
use Rattle.std.proofs.lemmas.List.Elements.{Contains-push_cases, filter_passes}
use Rattle.std.proofs.lemmas.List.Sorted.{list_any-IsPermutation}
use Rattle.dpl_list.proofs.Integers.{signed}
use Rattle.dpl_list.proofs.Zips.{zip_at, zip_length, zip_kept, zip_left_out}
use Rattle.dpl_index.specs.declared.bounds.Bounds.{Bounds}
use Rattle.dpl_index.specs.Meetings.{IsMeeting, AreMeeting}
use Rattle.dpl_cell.specs.declared.rect.Rect.{Rect}
use Rattle.dpl_cell.specs.declared.layout.Primitive.{Primitive}
use Rattle.dpl_cell.specs.declared.layout.Primitive.TheVariants as prim
use Rattle.dpl_cell.specs.Places.{Corners, corners_of, place_of}
use Rattle.dpl_cell.specs.Cells.{IsWithin}
use Rattle.dpl_cell.proofs.BoxLemmas.{within_test, test_within}
use Rattle.dpl_tiles.specs.Windows.{IsOutside, IsStill, has_columns, is_shared}
use Rattle.dpl_list.proofs.Integers.{is_at_most}
use Rattle.dpl_cell.proofs.StretchLemmas.{in_pushed}
use Rattle.dpl_cell.specs.Layers.{is_within}
use Rattle.dpl_cell.specs.Outlines.{outline_of}
use Rattle.dpl_cell.specs.Layers.{is_cell, is_in_outline, is_in_box}
use Rattle.dpl_cell.specs.declared.stretch.Stretch.{Stretch}
use Rattle.dpl_cell.specs.Stretches.{is_in_stretches}
use Rattle.dpl_cover.specs.declared.cover.Cover.{Cover}
use Rattle.dpl_cover.specs.Covers.{IsCover, is_covered}
use Rattle.dpl_list.specs.Order.{Ascends}
use Rattle.dpl_tiles.specs.Bounds.{HoldsCorners, AddsBounds, AreBoundsOf}
use Rattle.dpl_tiles.specs.Finders.{IsFinderOf, boxes_of, is_polygon}
use Rattle.dpl_tiles.specs.Sides.{AddsBetween, AddsSidesOf, AreSides, is_between}
use Rattle.dpl_tiles.specs.declared.side.Side.{Side}
use Rattle.dpl_tiles.specs.declared.finder.Finder.{Finder}
use Rattle.dpl_tiles.specs.Stretches.{AddsWithin, IsFramed}
use Rattle.dpl_tiles.proofs.StretchLemmas.{in_parts}
use Rattle.dpl_tiles.proofs.SideLemmas.{polygon_between}
use Rattle.dpl_tiles.proofs.IndexLemmas.{meets_there}

-- ---- boxes and polygons apart

pub bounds_more : (prims : List Primitive) (i : ℕ) (p : Primitive) (old new : List Bounds) → i < length prims
    → p ≡ get_or prims i p → AddsBounds p old new → AllZip HoldsCorners (filter is_polygon (take i prims)) old
    → AllZip HoldsCorners (filter is_polygon (take (i + 1) prims)) new
bounds_more prims i (prim.Box r) old new within is adds a = rw adds (zip_left_out HoldsCorners is_polygon prims i old (prim.Box r) within is a refl)
bounds_more prims i (prim.Poly points) old new within is (b, h, e) a =
    zip_kept HoldsCorners is_polygon prims i old new (prim.Poly points) b within is a refl e h

pub sides_more : (prims : List Primitive) (i : ℕ) (p : Primitive) (old new : List (List Side))
    → i < length prims → p ≡ get_or prims i p → AddsSidesOf p old new
    → AllZip AreSides (filter is_polygon (take i prims)) old
    → AllZip AreSides (filter is_polygon (take (i + 1) prims)) new
sides_more prims i (prim.Box r) old new within is adds a = rw adds (zip_left_out AreSides is_polygon prims i old (prim.Box r) within is a refl)
sides_more prims i (prim.Poly points) old new within is (s, h, e) a =
    zip_kept AreSides is_polygon prims i old new (prim.Poly points) s within is a refl e h

boxes_behind : (ps : List Primitive) (p : Primitive) → boxes_of (ps ++ p ∷ []) ≡ boxes_of ps ++ boxes_of (p ∷ [])
boxes_behind [] p = refl
boxes_behind (prim.Box r ∷ ps) p = ap (λ (rs : List Rect). r ∷ rs) (boxes_behind ps p)
boxes_behind (prim.Poly points ∷ ps) p = boxes_behind ps p

pub boxes_more : (prims : List Primitive) (i : ℕ) (p : Primitive) (old new : List Rect) → i < length prims
    → p ≡ get_or prims i p → new ≡ old ++ boxes_of (p ∷ []) → old ≡ boxes_of (take i prims)
    → new ≡ boxes_of (take (i + 1) prims)
boxes_more prims i p old new within is e h =
    e ∙ ap (λ (rs : List Rect). rs ++ boxes_of (p ∷ [])) h ∙ sym (boxes_behind (take i prims) p) ∙
    ap (λ (q : Primitive). boxes_of (take i prims ++ q ∷ [])) is ∙
    ap boxes_of (sym (take_more prims i p within))

pub boxes_all : (prims : List Primitive) (i : ℕ) (boxes : List Rect) → length prims ≤ i → boxes ≡ boxes_of (take i prims) → boxes ≡ boxes_of prims
boxes_all prims i boxes whole h = h ∙ ap boxes_of (take_all i prims whole)

-- the cells of primitives are those of the boxes and those of the polygons
row_split : (prims : List Primitive) (x y : ℤ) → list_any (λ p. is_in_outline x y (outline_of p)) prims ≡
    (list_any (λ r. is_in_box (corners_of r) x y) (boxes_of prims) || list_any (λ p. is_in_outline x y (outline_of p)) (filter is_polygon prims))
row_split [] x y = refl
row_split (prim.Box r ∷ ps) x y = ap (λ b. is_in_box (corners_of r) x y || b) (row_split ps x y) ∙
    sym (or_assoc (is_in_box (corners_of r) x y) _ _)
  where
    or_assoc : (a b c : Bool) → ((a || b) || c) ≡ (a || (b || c))
    or_assoc true b c = refl
    or_assoc false b c = refl
row_split (prim.Poly points ∷ ps) x y = ap (λ b. is_in_outline x y (outline_of (prim.Poly points)) || b) (row_split ps x y) ∙
    moved (is_in_outline x y (outline_of (prim.Poly points))) _ _
  where
    moved : (a b c : Bool) → (a || (b || c)) ≡ (b || (a || c))
    moved true true c = refl
    moved true false c = refl
    moved false b c = refl

cells_split : (prims : List Primitive) (x y : ℤ) → is_cell (map outline_of prims) x y ≡
    (list_any (λ r. is_in_box (corners_of r) x y) (boxes_of prims) || is_cell (map outline_of (filter is_polygon prims)) x y)
cells_split prims x y = in_parts prims x y ∙ row_split prims x y ∙
    ap (λ b. list_any (λ r. is_in_box (corners_of r) x y) (boxes_of prims) || b) (sym (in_parts (filter is_polygon prims) x y))

-- ---- a polygon by its sides

are_polygons : (prims : List Primitive) (k : ℕ) (d : Primitive) → k < length (filter is_polygon prims)
    → is_polygon (get_or (filter is_polygon prims) k d) ≡ true
are_polygons prims k d l = filter_passes is_polygon prims k d l

sides_tell : (p : Primitive) (s : List Side) (x y : ℤ) → AreSides p s → is_polygon p ≡ true → is_between s x y ≡ is_in_outline x y (outline_of p)
sides_tell (prim.Box r) s x y a e = absurd (true≢false (sym e))
sides_tell (prim.Poly points) s x y a e = polygon_between (map place_of points) s x y a

one_between : (prims : List Primitive) (sides : List (List Side)) (i : ℕ) (d : Primitive) (x y : ℤ)
    → AllZip AreSides (filter is_polygon prims) sides → i < length (filter is_polygon prims)
    → is_between (get_or sides i []) x y ≡ is_in_outline x y (outline_of (get_or (filter is_polygon prims) i d))
one_between prims sides i d x y are l =
    sides_tell (get_or (filter is_polygon prims) i d) (get_or sides i []) x y
    (zip_at AreSides (filter is_polygon prims) sides i d [] are l) (are_polygons prims i d l)

-- a cell between the sides of a polygon is a cell of the row
between_cell : (prims : List Primitive) (sides : List (List Side)) (x y : ℤ)
    → AllZip AreSides (filter is_polygon prims) sides → Any (λ s. is_between s x y ≡ true) sides
    → is_cell (map outline_of prims) x y ≡ true
between_cell prims sides x y are (i, s, l, is, t) =
    let n = zip_length AreSides (filter is_polygon prims) sides are in
    let h : i < length (filter is_polygon prims) = omega (arith, l, n) in
    by_outline i h (some (filter is_polygon prims) i h) (rw (get_or_default sides i [] s l ∙ is) t)
  where
    some : (ps : List Primitive) (i : ℕ) → i < length ps → Primitive
    some [] i l = absurd (omega arith)
    some (p ∷ ps) i l = p

    by_outline : (i : ℕ) → i < length (filter is_polygon prims) → (d : Primitive)
        → is_between (get_or sides i []) x y ≡ true → is_cell (map outline_of prims) x y ≡ true
    by_outline i h d t =
        cells_split prims x y ∙ ap (λ b. list_any (λ r. is_in_box (corners_of r) x y) (boxes_of prims) || b)
        (in_parts (filter is_polygon prims) x y ∙ list_any_at (λ p. is_in_outline x y (outline_of p)) (filter is_polygon prims) i d h
        (sym (one_between prims sides i d x y are h) ∙ t)) ∙ or_right _ _ refl

-- what stands right beside the window is between the sides of no polygon
pub framed_sides : (prims : List Primitive) (sides : List (List Side)) (y a b : ℤ)
    → AllZip AreSides (filter is_polygon prims) sides → IsFramed (is_cell (map outline_of prims)) y a b
    → All (λ s. IsFramed (is_between s) y a b) sides
framed_sides prims sides y a b are f k s l = record { some = f.some; left = none (a -ℤ pos 1) f.left; right = none b f.right } where
  not_true : (t c : Bool) → (t ≡ true → c ≡ true) → c ≡ false → t ≡ false
  not_true true c h e = absurd (true≢false (sym (h refl) ∙ e))
  not_true false c h e = refl

  none : (x : ℤ) → is_cell (map outline_of prims) x y ≡ false → is_between (get_or sides k s) x y ≡ false
  none x = not_true _ _ (λ t. between_cell prims sides x y are (k, get_or sides k s, l, get_or_default sides k (get_or sides k s) s l, t))

-- ---- polygons one after the other

pub between_none : (sides : List (List Side)) (y a b : ℤ) (parts : List Stretch) → AddsBetween sides [] y a b parts parts
between_none sides y a b parts = record { kept = λ x h. h; sound = λ x h. inl h; full = λ x i f t (k, l, e) h. absurd (omega (arith, l)) }

pub between_more : (sides : List (List Side)) (found : List ℕ) (t : ℕ) (y a b : ℤ) (first old new : List Stretch) (s : List Side)
    → t < length found → get_or found t 0 < length sides → s ≡ get_or sides (get_or found t 0) s
    → AddsWithin (is_between s) y a b old new → AddsBetween sides (take t found) y a b first old
    → AddsBetween sides (take (t + 1) found) y a b first new
between_more sides found t y a b first old new s here inside is adds so = record {
  kept = λ x h. adds.kept x (so.kept x h);
  sound = λ x h. elim (or_cases _ _ (adds.sound x h)) [
    | inl f ↦ so.sound x f
    | inr f ↦ inr (get_or found t 0, s, inside, sym is, f)
  ];
  full = λ x i from to c h. by_place x i from to h (rw (take_more found t 0 here) at c);
} where
  by_place : (x : ℤ) (i : ℕ) → (a -ℤ pos 1) ≤ℤ x → x ≤ℤ b → is_between (get_or sides i []) x y ≡ true →
      Contains (take t found ++ get_or found t 0 ∷ []) i → is_in_stretches new x ≡ true
  by_place x i from to h c = elim (Contains-push_cases (take t found) (get_or found t 0) i c) [
    | inl before ↦ adds.kept x (so.full x i from to before h)
    | inr e ↦ adds.full x from to (subst (λ (z : List Side). is_between z x y ≡ true)
        (ap (λ j. get_or sides j []) (sym e) ∙ get_or_default sides (get_or found t 0) [] s inside ∙ sym is) h)
  ]

pub between_all : (sides : List (List Side)) (found : List ℕ) (t : ℕ) (y a b : ℤ) (first new : List Stretch)
    → length found ≤ t → AddsBetween sides (take t found) y a b first new
    → AddsBetween sides found y a b first new
between_all sides found t y a b first new whole h = rw (take_all t found whole) at h

-- ---- a polygon by its sides

pub framed_alike : (old new : ℤ → ℤ → Bool) (y a b : ℤ) → ((x : ℤ) → new x y ≡ old x y) → IsFramed old y a b → IsFramed new y a b
framed_alike old new y a b same f = record { some = f.some; left = same (a -ℤ pos 1) ∙ f.left; right = same b ∙ f.right }

-- ---- the cells of the row

pub found_within : (prims : List Primitive) (sides : List (List Side)) (bounds : List Bounds) (window : Bounds) (found : List ℕ)
    → AllZip AreSides prims sides → AreBoundsOf prims bounds → AreMeeting bounds window found → (k d : ℕ)
    → k < length found → get_or found k d < length sides
found_within prims sides bounds window found s are m k d l =
    let w = (m.each k d l).within in let n = zip_length HoldsCorners prims bounds are in let o = zip_length AreSides prims sides s in omega (arith, w, n, o)

covered_cell : (prims : List Primitive) (cover : Cover) (x y : ℤ)
    → IsPermutation (boxes_of prims) cover.begins.items → cover.row ≡ y
    → is_covered cover x ≡ list_any (λ r. is_in_box (corners_of r) x y) (boxes_of prims)
covered_cell prims cover x y same row =
    ap (λ z. list_any (λ r. is_in_box (corners_of r) x z) cover.begins.items) row ∙
    sym (list_any-IsPermutation (λ r. is_in_box (corners_of r) x y) (boxes_of prims) cover.begins.items same)

pub row_sound : (prims : List Primitive) (finder : Finder) (y a b : ℤ) (found : List ℕ) (first parts : List Stretch)
    → IsFinderOf prims finder → finder.cover.row ≡ y
    → ((x : ℤ) → is_in_stretches first x ≡ true → is_covered finder.cover x ≡ true)
    → AddsBetween finder.sides.items found y a b first parts → (x : ℤ) → is_in_stretches parts x ≡ true
    → is_cell (map outline_of prims) x y ≡ true
row_sound prims finder y a b found first parts f row covers adds x h = elim (adds.sound x h) [
  | inl t ↦ cells_split prims x y ∙ ap (λ c. c || is_cell (map outline_of (filter is_polygon prims)) x y)
      (sym (covered_cell prims finder.cover x y f.boxes row) ∙ covers x t)
  | inr t ↦ between_cell prims finder.sides.items x y f.sides t
]

pub row_full : (prims : List Primitive) (finder : Finder) (y a b : ℤ) (found : List ℕ) (first parts : List Stretch)
    → IsFinderOf prims finder → finder.cover.row ≡ y → IsFramed (is_cell (map outline_of prims)) y a b
    → AreMeeting finder.polygons (record { left = a; right = b; low = y; high = y }) found
    → ((x : ℤ) → a ≤ℤ x → x <ℤ b → is_covered finder.cover x ≡ true → is_in_stretches first x ≡ true)
    → AddsBetween finder.sides.items found y a b first parts → (x : ℤ) → (a -ℤ pos 1) ≤ℤ x → x ≤ℤ b
    → is_cell (map outline_of prims) x y ≡ true → is_in_stretches parts x ≡ true
row_full prims finder y a b found first parts f row framed m covers adds x from to t =
    elim (or_cases _ _ (sym (cells_split prims x y) ∙ t)) [
      | inl c ↦ adds.kept x (covers x (not_before x from t) (not_behind x to t) (covered_cell prims finder.cover x y f.boxes row ∙ c))
      | inr c ↦ go (Any-from_list_any (λ p. is_in_outline x y (outline_of p)) (filter is_polygon prims)
          (sym (in_parts (filter is_polygon prims) x y) ∙ c))
    ]
  where
    before_or_from : (x z : ℤ) → (x <ℤ z) ⊎ (z ≤ℤ x)
    before_or_from x z = search signed

    not_before : (x : ℤ) → (a -ℤ pos 1) ≤ℤ x → is_cell (map outline_of prims) x y ≡ true → a ≤ℤ x
    not_before x l t = elim (before_or_from x a) [
      | inl h ↦ let e : x ≡ a -ℤ pos 1 = omega (signed, l, h) in absurd (true≢false (sym t ∙ ap (λ z. is_cell (map outline_of prims) z y) e ∙ framed.left))
      | inr h ↦ h
    ]

    not_behind : (x : ℤ) → x ≤ℤ b → is_cell (map outline_of prims) x y ≡ true → x <ℤ b
    not_behind x l t = elim (before_or_from x b) [
      | inl h ↦ h
      | inr h ↦ let e : x ≡ b = omega (signed, l, h) in absurd (true≢false (sym t ∙ ap (λ z. is_cell (map outline_of prims) z y) e ∙ framed.right))
    ]

    go : Any (λ p. is_in_outline x y (outline_of p) ≡ true) (filter is_polygon prims) → is_in_stretches parts x ≡ true
    go (k, p, l, e, h) = adds.full x k from to (m.all k meeting) (one_between prims finder.sides.items k p x y f.sides l ∙
        ap (λ (q : Primitive). is_in_outline x y (outline_of q)) e ∙ h)
      where
        meeting : IsMeeting finder.polygons (record { left = a; right = b; low = y; high = y }) k
        meeting = record {
          within = let n = zip_length HoldsCorners (filter is_polygon prims) finder.polygons f.bounds in omega (arith, n, l);
          meets = λ d. meets_there (get_or finder.polygons k d) a b x y p
              (rw e at (zip_at HoldsCorners (filter is_polygon prims) finder.polygons k p d f.bounds l)) from to h;
        }

pub framed_side : (sides : List (List Side)) (i : ℕ) (s : List Side) (y a b : ℤ) → i < length sides
    → s ≡ get_or sides i s → All (λ s. IsFramed (is_between s) y a b) sides → IsFramed (is_between s) y a b
framed_side sides i s y a b l is f = subst (λ (z : List Side). IsFramed (is_between z) y a b) (sym is) (f i s l)

-- ---- the next row

pub risen_finder : (prims : List Primitive) (f g : Finder) (cover : Cover) → IsFinderOf prims f
    → IsCover cover → cover.begins.items ≡ f.cover.begins.items
    → g ≡ record { polygons = f.polygons; sides = f.sides; cover = cover } → IsFinderOf prims g
risen_finder prims f g cover is covers same e = subst (λ (z : Finder). IsFinderOf prims z) (sym e) (record {
  bounds = is.bounds;
  sides = is.sides;
  boxes = rw same is.boxes;
  cover = covers;
})

pub risen_row : (rows : List ℤ) (k : ℕ) (row : ℤ) → Ascends (λ z. z) rows → k < length rows
    → row ≤ℤ get_or rows (k - 1) (pos 0) → row ≤ℤ get_or rows (k + 1 - 1) (pos 0)
risen_row rows k row up l h =
    let e : k + 1 - 1 ≡ k = omega arith in let n = up (k - 1) k (pos 0) (omega arith) l in rw e (omega (signed, h, n))

-- ---- a row that changes within one stack

pub columns_held : (r : Corners) (a b : ℤ) → has_columns r a b ≡ true → (r.x1 ≤ℤ a) × (b ≤ℤ r.x2)
columns_held r a b t = let (u, v) = and_parts _ _ t in (is_at_most r.x1 a u, is_at_most b r.x2 v)

-- without polygons the cells are those that boxes cover
all_boxes : (prims : List Primitive) (finder : Finder) (x y : ℤ) → IsFinderOf prims finder
    → finder.cover.row ≡ y → finder.sides.items ≡ []
    → is_cell (map outline_of prims) x y ≡ is_covered finder.cover x
all_boxes prims finder x y f row none =
    let n = zip_length AreSides (filter is_polygon prims) finder.sides.items f.sides in
    let e : filter is_polygon prims ≡ [] = nothing (filter is_polygon prims) (n ∙ ap (λ (s : List (List Side)). length s) none) in
    cells_split prims x y ∙ ap (λ (ps : List Primitive). list_any (λ r. is_in_box (corners_of r) x y) (boxes_of prims) || is_cell (map outline_of ps) x y) e ∙
    or_false (list_any (λ r. is_in_box (corners_of r) x y) (boxes_of prims)) ∙ sym (covered_cell prims finder.cover x y f.boxes row)
  where
    nothing : (ps : List Primitive) → length ps ≡ 0 → ps ≡ []
    nothing [] e = refl
    nothing (p ∷ ps) e = absurd (omega (arith, e))

    or_false : (b : Bool) → (b || false) ≡ b
    or_false true = refl
    or_false false = refl

pub beside_sound : (prims : List Primitive) (finder : Finder) (y d1 d2 : ℤ) (s : Stretch) (first second parts : List Stretch)
    → IsFinderOf prims finder → finder.cover.row ≡ y → finder.sides.items ≡ []
    → ((x : ℤ) → IsWithin s.from s.to x → IsOutside d1 d2 x → is_cell (map outline_of prims) x y ≡ true)
    → ((x : ℤ) → is_in_stretches first x ≡ true → is_covered finder.cover x ≡ true)
    → ((x : ℤ) → is_in_stretches second x ≡ (is_in_stretches first x || is_shared s s.from d1 x))
    → ((x : ℤ) → is_in_stretches parts x ≡ (is_in_stretches second x || is_shared s d2 s.to x)) → (x : ℤ)
    → is_in_stretches parts x ≡ true → is_cell (map outline_of prims) x y ≡ true
beside_sound prims finder y d1 d2 s first second parts f row none same covers one two x h =
    elim (or_cases _ _ (sym (two x) ∙ h)) [
      | inl t ↦ elim (or_cases _ _ (sym (one x) ∙ t)) [
        | inl u ↦ all_boxes prims finder x y f row none ∙ covers x u
        | inr u ↦ let (p, q) = and_parts _ _ u in same x (test_within _ _ x p) (inl (let w = test_within s.from d1 x q in w.to))
      ]
      | inr t ↦ let (p, q) = and_parts _ _ t in same x (test_within _ _ x p) (inr (let w = test_within d2 s.to x q in w.from))
    ]

pub beside_full : (prims : List Primitive) (finder : Finder) (y d1 d2 : ℤ) (s : Stretch) (first second parts : List Stretch)
    → IsFinderOf prims finder → finder.cover.row ≡ y → finder.sides.items ≡ []
    → ((x : ℤ) → d1 ≤ℤ x → x <ℤ d2 → is_covered finder.cover x ≡ true → is_in_stretches first x ≡ true)
    → ((x : ℤ) → is_in_stretches second x ≡ (is_in_stretches first x || is_shared s s.from d1 x))
    → ((x : ℤ) → is_in_stretches parts x ≡ (is_in_stretches second x || is_shared s d2 s.to x)) → (x : ℤ)
    → IsWithin s.from s.to x → is_cell (map outline_of prims) x y ≡ true → is_in_stretches parts x ≡ true
beside_full prims finder y d1 d2 s first second parts f row none covers one two x w t =
    by_lt_z x d1
    (λ h. from_second (one x ∙ or_right (is_in_stretches first x) _
    (both (within_test s.from s.to x w) (within_test s.from d1 x (record { from = w.from; to = h })))))
    (λ h. by_lt_z x d2
    (λ g. from_second (one x ∙ ap (λ b. b || is_shared s s.from d1 x) (covers x h g (sym (all_boxes prims finder x y f row none) ∙ t))))
    (λ g. two x ∙ or_right (is_in_stretches second x) _ (both (within_test s.from s.to x w) (within_test d2 s.to x (record { from = g; to = w.to })))))
  where
    both : {a b : Bool} → a ≡ true → b ≡ true → (a && b) ≡ true
    both {a} {b} e f = ap (λ c. c && b) e ∙ f

    from_second : is_in_stretches second x ≡ true → is_in_stretches parts x ≡ true
    from_second h = two x ∙ ap (λ b. b || is_shared s d2 s.to x) h

same_tests : (p q : Bool) → (p ≡ true → q ≡ true) → (q ≡ true → p ≡ true) → p ≡ q
same_tests true q f g = sym (f refl)
same_tests false true f g = g refl
same_tests false false f g = refl

-- the columns that a stack shares with those from a to b are added
pub shared_pushed : (old new : List Stretch) (s p : Stretch) (a b x : ℤ) → s.from ≤ℤ p.from → a ≤ℤ p.from
    → (p.from ≡ s.from) ⊎ (p.from ≡ a) → p.to ≤ℤ s.to → p.to ≤ℤ b → (p.to ≡ s.to) ⊎ (p.to ≡ b)
    → new ≡ old ++ p ∷ [] → is_in_stretches new x ≡ (is_in_stretches old x || is_shared s a b x)
shared_pushed old new s p a b x f1 f2 f3 t1 t2 t3 e =
    ap (λ (ss : List Stretch). is_in_stretches ss x) e ∙ in_pushed old p x ∙ ap (λ c. is_in_stretches old x || c)
    (same_tests (is_within p.from p.to x) (is_shared s a b x) there back)
  where
    there : is_within p.from p.to x ≡ true → is_shared s a b x ≡ true
    there h = let w = test_within p.from p.to x h in let f = w.from in let t = w.to in
        ap (λ c. c && is_within a b x) (within_test s.from s.to x (record { from = omega (signed, f, f1); to = omega (signed, t, t1) })) ∙
        within_test a b x (record { from = omega (signed, f, f2); to = omega (signed, t, t2) })

    back : is_shared s a b x ≡ true → is_within p.from p.to x ≡ true
    back h =
        let (m, n) = and_parts _ _ h in let w = test_within s.from s.to x m in let v = test_within a b x n in
        let f = w.from in let g = v.from in let t = w.to in let u = v.to in
        within_test p.from p.to x (record {
          from = elim f3 [ inl i ↦ omega (signed, i, f) | inr i ↦ omega (signed, i, g) ];
          to = elim t3 [ inl i ↦ omega (signed, i, t) | inr i ↦ omega (signed, i, u) ];
        })

-- it shares none of them
pub none_shared : (old : List Stretch) (s : Stretch) (a b from to x : ℤ) → s.from ≤ℤ from → a ≤ℤ from
    → (from ≡ s.from) ⊎ (from ≡ a) → to ≤ℤ s.to → to ≤ℤ b → (to ≡ s.to) ⊎ (to ≡ b) → to ≤ℤ from
    → is_in_stretches old x ≡ (is_in_stretches old x || is_shared s a b x)
none_shared old s a b from to x f1 f2 f3 t1 t2 t3 h =
    sym (ap (λ c. is_in_stretches old x || c) (same_tests (is_shared s a b x) false bare (λ e. absurd (true≢false (sym e)))) ∙ or_false (is_in_stretches old x))
  where
    or_false : (b : Bool) → (b || false) ≡ b
    or_false true = refl
    or_false false = refl

    bare : is_shared s a b x ≡ true → false ≡ true
    bare e =
        let (m, n) = and_parts _ _ e in let w = test_within s.from s.to x m in let v = test_within a b x n in
        let f = w.from in let g = v.from in let t = w.to in let u = v.to in
        let low : from ≤ℤ x = elim f3 [ inl i ↦ omega (signed, i, f) | inr i ↦ omega (signed, i, g) ] in
        let high : x <ℤ to = elim t3 [ inl i ↦ omega (signed, i, t) | inr i ↦ omega (signed, i, u) ] in
        absurd (omega (signed, low, high, h))

-- in the window and right beside it
pub near_full : (cells : ℤ → ℤ → Bool) (z d1 d2 a b : ℤ) (s : Stretch) (parts : List Stretch)
    → IsStill cells z d1 d2 a b s → IsFramed cells z a b
    → ((x : ℤ) → IsWithin s.from s.to x → cells x z ≡ true → is_in_stretches parts x ≡ true) → (x : ℤ)
    → (a -ℤ pos 1) ≤ℤ x → x ≤ℤ b → cells x z ≡ true → is_in_stretches parts x ≡ true
near_full cells z d1 d2 a b s parts still framed full x low high t = full x (record {
  from = let f = still.left in by_lt_z x a (λ h. absurd
      (let g : x ≡ a -ℤ pos 1 = omega (signed, h, low) in true≢false (sym t ∙ ap (λ c. cells c z) g ∙ framed.left))) (λ h. omega (signed, h, f));
  to = let f = still.right in by_lt_z x b (λ h. omega (signed, h, f))
      (λ h. absurd (let g : x ≡ b = omega (signed, h, high) in true≢false (sym t ∙ ap (λ c. cells c z) g ∙ framed.right)));
}) t
