-- An item is read from its line, and from no other.
use Rattle.std.proofs.Common.{arith, ◌≡◌, ℕ, ◌<◌, ◌≤◌, ◌^◌, Bool, true, false, ◌&&◌, ◌==◌, cond, nat_le, List, [], ◌∷◌}
use Rattle.std.proofs.Common.{length, map, refl, sym, ◌∙◌, Option, Some, None, codes}
use Rattle.std.specs.Prelude.{ℤ, pos, negsuc, neg_ℤ, ◌+ℤ◌, ◌-ℤ◌, ◌*ℤ◌, int_lt, int_le, int_div, int_rem, unsigned_abs}
use Rattle.std.specs.List.{list_all, AllByRecursion}
use Rattle.std.specs.Str.{bytes_eq}
use Rattle.std.proofs.lemmas.Int.{ints, quot-rem, rem_below}
use Rattle.std.proofs.lemmas.Option.{cond_some}
use Rattle.std.proofs.lemmas.Slice.Eq.{bytes_eq-Decides}
use Rattle.std.proofs.lemmas.Bool.{leb-true, le-leb, and_parts}
use Rattle.std.proofs.lemmas.Bool.Decides.{nat_tests}
use Rattle.dpl_cell.specs.Places.{Corners}
use Rattle.dpl_cell.specs.Ranges.{IsStretch, IsRectangle}
use Rattle.dpl_lex.specs.Classes.{is_separator}
use Rattle.dpl_rules.specs.Readers.{◌>>=◌}
use Rattle.dpl_sign.specs.declared.walks.Cycle.{Cycle}
use Rattle.dpl_boxes.specs.Masks.{box_line}
use Rattle.dpl_form.proofs.Formats.{IsItem, AreItems}
use Rattle.dpl_report.specs.declared.marks.Broken.{Broken}
use Rattle.dpl_report.specs.Plain.{PlainZone}
use Rattle.dpl_report.specs.ReportLines.{count_line, cut_line, clash_line, aside_line, cycle_line, broken_numbers, zone_numbers, cycle_numbers}
use Rattle.dpl_report.specs.Valid.{IsIdentifier, IsCount, IsBroken, IsZone, IsCycle, CutFits, ClashFits, AsideFits}
use Rattle.dpl_report.specs.Reading.{numbers_in, if_written, item_by, up_to, number_of, count_of, count_from}
use Rattle.dpl_report.specs.Reading.{item_count, ends_from, broken_from, from_edge, item_clash, is_stretch}
use Rattle.dpl_report.specs.Reading.{rectangle_of, corners_from, zone_from, item_cut, aside_from, item_aside, edges_of}
use Rattle.dpl_report.specs.Reading.{cycle_with, cycle_from, item_cycle, low_corner, high_corner, box_from, item_box}
use Rattle.dpl_report.proofs.LineLemmas.{IsNear, numbers_in-bracketed, numbers_in-box, box_numbers}

-- where two parts are read one after another, each is
pub bind_some : {A B : Type 0} (o : Option A) (f : A → Option B) (y : B) → (o >>= f) ≡ Some y → (x : A) × (o ≡ Some x) × (f x ≡ Some y)
bind_some None f y e = absurd (cc)
bind_some (Some x) f y e = (x, refl, e)

-- an item that counts was written as this line
pub if_written_some : {X : Type 0} (text : X → List ℕ) (line : List ℕ) (x y : X) → if_written text line x ≡ Some y → (x ≡ y) × (line ≡ text y)
if_written_some text line x y e =
    let d = cond_some (bytes_eq (text x) line) x y e in
    (d.1, rw (← d.1) (sym ((bytes_eq-Decides (text x) line).0 d.0)))

-- an item counts in its own line
pub if_written_same : {X : Type 0} (text : X → List ℕ) (x : X) → if_written text (text x) x ≡ Some x
if_written_same text x = rw ((bytes_eq-Decides (text x) (text x)).1 refl) refl

-- what numbers make fits, and its numbers make it again
pub record IsGuess {X : Type 0} (guess : List ℤ → Option X) (numbers : X → List ℤ) (Fits : X → Type 0) : Type 0 where
  pub fits : (zs : List ℤ) (x : X) → guess zs ≡ Some x → Fits x
  pub again : (x : X) → Fits x → guess (numbers x) ≡ Some x

-- an item whose numbers are read back from its line is an item of that line alone
pub item_of_guess : {X : Type 0} (guess : List ℤ → Option X) (text : X → List ℕ) (numbers : X → List ℤ) (Fits : X → Type 0) → IsGuess guess numbers Fits
    → ((x : X) → Fits x → numbers_in (text x) ≡ numbers x) → (some : X) → Fits some → IsItem (item_by guess text) text Fits
item_of_guess guess text numbers Fits g n some f = record {
  some = some;
  some_fits = f;
  takes = λ l x e.
      let a = bind_some (guess (numbers_in l)) (if_written text l) x e in
      let b = if_written_some text l a.0 x a.2 in
      (rw (← b.0) (g.fits (numbers_in l) a.0 a.1), b.1);
  again = λ x f. rw (n x f, g.again x f) (if_written_same text x);
}

from_edge_some : {X : Type 0} (least edge : ℕ) (x y : X) → from_edge least edge x ≡ Some y → (least ≤ edge) × (x ≡ y)
from_edge_some least edge x y e = let d = cond_some (nat_le least edge) x y e in (leb-true least edge d.0, d.1)

from_edge_same : {X : Type 0} (least edge : ℕ) (x : X) → least ≤ edge → from_edge least edge x ≡ Some x
from_edge_same least edge x l = rw (le-leb least edge l) refl

-- the same for items in ascending order
pub items_of_guess : {X : Type 0} (guess : List ℤ → Option X) (text : X → List ℕ) (numbers : X → List ℤ) (edge : X → ℕ) (Fits : X → Type 0)
    → IsGuess guess numbers Fits → ((x : X) → Fits x → numbers_in (text x) ≡ numbers x)
    → AreItems (λ least line. guess (numbers_in line) >>= λ x. from_edge least (edge x) x >>= if_written text line) text (λ least x. (least ≤ edge x) × Fits x)
items_of_guess guess text numbers edge Fits g n = record {
  takes = λ least l x e.
      let a = bind_some (guess (numbers_in l)) (λ x. from_edge least (edge x) x >>= if_written text l) x e in
      let b = bind_some (from_edge least (edge a.0) a.0) (if_written text l) x a.2 in
      let c = from_edge_some least (edge a.0) a.0 b.0 b.1 in
      let d = if_written_some text l b.0 x b.2 in
      let same : a.0 ≡ x = c.1 ∙ d.0 in
      (rw (← same) (c.0, g.fits (numbers_in l) a.0 a.1), d.1);
  again = λ least x f. rw (n x f.1, g.again x f.1, from_edge_same least (edge x) x f.0) (if_written_same text x);
}

-- items that depend on none before
pub items_of_item : {X : Type 0} (item : List ℕ → Option X) (text : X → List ℕ) (Fits : X → Type 0)
    → IsItem item text Fits → AreItems (λ (s : ℕ). item) text (λ s. Fits)
items_of_item item text Fits i = record { takes = λ s. i.takes; again = λ s. i.again }

-- ---- numbers

up_to_fits : (most : ℕ) (z : ℤ) (n : ℕ) → up_to most z ≡ Some n → n ≤ most
up_to_fits most (pos m) n e = let d = cond_some (nat_le m most) m n e in rw (← d.1) (leb-true m most d.0)
up_to_fits most (negsuc m) n e = absurd (cc)

up_to_again : (most n : ℕ) → n ≤ most → up_to most (pos n) ≡ Some n
up_to_again most n l = rw (le-leb n most l) refl

count_guess : IsGuess count_from (λ n. pos n ∷ []) IsCount
count_guess = record { fits = fits; again = λ n l. up_to_again 1000000000000 n l } where
  fits : (zs : List ℤ) (n : ℕ) → count_from zs ≡ Some n → IsCount n
  fits [] n e = absurd (cc)
  fits (z ∷ []) n e = up_to_fits 1000000000000 z n e
  fits (z ∷ y ∷ zs) n e = absurd (cc)

-- a count is read from the line of its word alone
pub count_item : (word : List ℕ) → list_all is_separator word ≡ true → IsItem (item_count word) (count_line word) IsCount
count_item word h = item_of_guess count_from (count_line word) (λ n. pos n ∷ []) IsCount count_guess
    (λ n l. numbers_in-bracketed word (pos n ∷ []) h (l, tt)) 0 (omega arith)

aside_guess : IsGuess aside_from (λ e. pos e ∷ []) IsIdentifier
aside_guess = record { fits = fits; again = λ n l. up_to_again 4294967295 n l } where
  fits : (zs : List ℤ) (n : ℕ) → aside_from zs ≡ Some n → IsIdentifier n
  fits [] n e = absurd (cc)
  fits (z ∷ []) n e = up_to_fits 4294967295 z n e
  fits (z ∷ y ∷ zs) n e = absurd (cc)

-- a number of a report is one that a line can hold
pub near : (n : ℕ) → IsIdentifier n → IsNear (pos n)
near n l = omega arith

-- an edge set aside, from a least one on, is read from its line alone
pub aside_items : AreItems item_aside aside_line AsideFits
aside_items = items_of_guess aside_from aside_line (λ e. pos e ∷ []) (λ e. e) IsIdentifier aside_guess
    (λ n l. numbers_in-bracketed (codes "aside") (pos n ∷ []) refl (near n l, tt))

broken_fits : (e a b : ℤ) (x : Broken) → broken_from (e ∷ a ∷ b ∷ []) ≡ Some x → IsBroken x
broken_fits e a b x h =
    let p = bind_some (number_of e) (λ u. number_of a >>= λ v. number_of b >>= λ w. Some (record { edge = u; a = v; b = w })) x h in
    let q = bind_some (number_of a) (λ v. number_of b >>= λ w. Some (record { edge = p.0; a = v; b = w })) x p.2 in
    let r = bind_some (number_of b) (λ w. Some (record { edge = p.0; a = q.0; b = w })) x q.2 in
    let same : record { edge = p.0; a = q.0; b = r.0 } ≡ x = cc in
    rw (← same) (record { edge = up_to_fits 4294967295 e p.0 p.1; a = up_to_fits 4294967295 a q.0 q.1; b = up_to_fits 4294967295 b r.0 r.1 })

broken_from_fits : (zs : List ℤ) (x : Broken) → broken_from zs ≡ Some x → IsBroken x
broken_from_fits [] x h = absurd (cc)
broken_from_fits (e ∷ []) x h = absurd (cc)
broken_from_fits (e ∷ a ∷ []) x h = absurd (cc)
broken_from_fits (e ∷ a ∷ b ∷ []) x h = broken_fits e a b x h
broken_from_fits (e ∷ a ∷ b ∷ z ∷ zs) x h = absurd (cc)

broken_guess : IsGuess broken_from broken_numbers IsBroken
broken_guess = record {
  fits = broken_from_fits;
  again =
      λ x f. rw (up_to_again 4294967295 x.edge f.edge, up_to_again 4294967295 x.a f.a, up_to_again 4294967295 x.b f.b)
      refl;
}

-- ---- rectangles

stretch_fits : (a b : ℤ) → is_stretch a b ≡ true → IsStretch a b
stretch_fits a b h =
    let p = and_parts (int_lt a b && int_le (neg_ℤ (pos (2 ^ 30))) a) (int_le b (pos (2 ^ 30))) h in
    let q = and_parts (int_lt a b) (int_le (neg_ℤ (pos (2 ^ 30))) a) p.0 in
    record { some = grind (arith, ints); low = grind (arith, ints); high = grind (arith, ints) }

stretch_again : (a b : ℤ) → IsStretch a b → is_stretch a b ≡ true
stretch_again a b h =
    let p : int_lt a b ≡ true = grind (arith, ints) in
    let q : int_le (neg_ℤ (pos (2 ^ 30))) a ≡ true = grind (arith, ints) in
    let r : int_le b (pos (2 ^ 30)) ≡ true = grind (arith, ints) in
    rw (p, q, r) refl

rectangle_fits : (c d : Corners) → rectangle_of c ≡ Some d → IsRectangle d
unfolding rectangle_of
rectangle_fits c d e =
    let k = cond_some (is_stretch c.x1 c.x2 && is_stretch c.y1 c.y2) c d e in
    let p = and_parts (is_stretch c.x1 c.x2) (is_stretch c.y1 c.y2) k.0 in
    rw (← k.1) (record { columns = stretch_fits c.x1 c.x2 p.0; rows = stretch_fits c.y1 c.y2 p.1 })

rectangle_again : (c : Corners) → IsRectangle c → rectangle_of c ≡ Some c
unfolding rectangle_of
rectangle_again c r = rw (stretch_again c.x1 c.x2 r.columns, stretch_again c.y1 c.y2 r.rows) refl

-- the same of a broken clash
pub clash_items : AreItems item_clash clash_line ClashFits
clash_items = items_of_guess broken_from clash_line broken_numbers (λ b. b.edge) IsBroken broken_guess
    (λ b f. numbers_in-bracketed (codes "clash") (broken_numbers b) refl (near b.edge f.edge, (near b.a f.a, (near b.b f.b, tt))))

-- ---- stitches

corners_from_fits : (zs : List ℤ) (c : Corners) → corners_from zs ≡ Some c → IsRectangle c
corners_from_fits [] c h = absurd (cc)
corners_from_fits (x1 ∷ []) c h = absurd (cc)
corners_from_fits (x1 ∷ y1 ∷ []) c h = absurd (cc)
corners_from_fits (x1 ∷ y1 ∷ x2 ∷ []) c h = absurd (cc)
corners_from_fits (x1 ∷ y1 ∷ x2 ∷ y2 ∷ []) c h = rectangle_fits (record { x1 = x1; y1 = y1; x2 = x2; y2 = y2 }) c h
corners_from_fits (x1 ∷ y1 ∷ x2 ∷ y2 ∷ z ∷ zs) c h = absurd (cc)

zone_from_fits : (zs : List ℤ) (z : PlainZone) → zone_from zs ≡ Some z → IsZone z
zone_from_fits [] z h = absurd (cc)
zone_from_fits (e ∷ []) z h = absurd (cc)
zone_from_fits (e ∷ a ∷ []) z h = absurd (cc)
zone_from_fits (e ∷ a ∷ b ∷ zs) z h =
    let p = bind_some (ends_from e a b) (λ u. corners_from zs >>= λ v. Some (record { at = u; corners = v })) z h in
    let q = bind_some (corners_from zs) (λ v. Some (record { at = p.0; corners = v })) z p.2 in
    let same : record { at = p.0; corners = q.0 } ≡ z = cc in
    rw (← same) (record { ends = broken_fits e a b p.0 p.1; corners = corners_from_fits zs q.0 q.1 })

zone_guess : IsGuess zone_from zone_numbers IsZone
zone_guess = record { fits = zone_from_fits; again = λ z f. rw (broken_guess.again z.at f.ends, rectangle_again z.corners f.corners) refl }

abbrev AreNear : Corners → Type 0
AreNear c = AllByRecursion IsNear (c.x1 ∷ c.y1 ∷ c.x2 ∷ c.y2 ∷ [])

corners_near : (c : Corners) → IsRectangle c → AreNear c
corners_near c r = (omega (arith, ints), (omega (arith, ints), (omega (arith, ints), (omega (arith, ints), tt))))

-- the numbers of a broken stitch with its zone are such that a line can hold
pub zone_near : (z : PlainZone) → IsZone z → AllByRecursion IsNear (zone_numbers z)
zone_near z f = (near z.at.edge f.ends.edge, (near z.at.a f.ends.a, (near z.at.b f.ends.b, corners_near z.corners f.corners)))

-- the same of a broken stitch with its zone
pub cut_items : AreItems item_cut cut_line CutFits
cut_items = items_of_guess zone_from cut_line zone_numbers (λ z. z.at.edge) IsZone zone_guess
    (λ z f. numbers_in-bracketed (codes "cut") (zone_numbers z) refl (zone_near z f))

-- ---- cycles

edges_fit : (zs : List ℤ) (es : List ℕ) → edges_of zs ≡ Some es → AllByRecursion IsIdentifier es
edges_fit [] [] h = tt
edges_fit [] (e ∷ es) h = let bad : ◌≡◌ {A = List ℕ} [] (e ∷ es) = cc in absurd (cc)
edges_fit (z ∷ zs) es h =
    let p = bind_some (number_of z) (λ u. edges_of zs >>= λ v. Some (u ∷ v)) es h in
    let q = bind_some (edges_of zs) (λ v. Some (p.0 ∷ v)) es p.2 in
    let same : p.0 ∷ q.0 ≡ es = cc in
    rw (← same) (up_to_fits 4294967295 z p.0 p.1, edges_fit zs q.0 q.1)

edges_again : (es : List ℕ) → AllByRecursion IsIdentifier es → edges_of (map pos es) ≡ Some es
edges_again [] f = refl
edges_again (e ∷ es) f = rw (up_to_again 4294967295 e f.0, edges_again es f.1) refl

-- each of them is near
pub edges_near : (es : List ℕ) → AllByRecursion IsIdentifier es → AllByRecursion IsNear (map pos es)
edges_near [] f = tt
edges_near (e ∷ es) f = (near e f.0, edges_near es f.1)

cycle_by_test : (t : Bool) (half start e : ℕ) (es : List ℕ) (c : Cycle) → (half == 0) ≡ t → IsCount half → IsIdentifier start → AllByRecursion IsIdentifier (e ∷ es)
    → cond t None (Some (record { half = half; walk = record { start = start; edges = e ∷ es } })) ≡ Some c → IsCycle c
cycle_by_test true half start e es c t h s f k = absurd (cc)
cycle_by_test false half start e es c t h s f k =
    let same : record { half = half; walk = record { start = start; edges = e ∷ es } } ≡ c = cc in
    let some : 1 ≤ half = grind (arith, nat_tests) in
    rw (← same) (record { some = some; half = h; start = s; edges = f; not_empty = omega arith })

cycle_with_fits : (half start : ℕ) (es : List ℕ) (c : Cycle) → IsCount half → IsIdentifier start
    → AllByRecursion IsIdentifier es → cycle_with half start es ≡ Some c → IsCycle c
cycle_with_fits half start [] c h s f k = absurd (cc)
cycle_with_fits half start (e ∷ es) c h s f k = cycle_by_test (half == 0) half start e es c refl h s f k

cycle_from_fits : (zs : List ℤ) (c : Cycle) → cycle_from zs ≡ Some c → IsCycle c
cycle_from_fits [] c k = absurd (cc)
cycle_from_fits (h ∷ []) c k = absurd (cc)
cycle_from_fits (h ∷ s ∷ zs) c k =
    let p = bind_some (count_of h) (λ u. number_of s >>= λ v. edges_of zs >>= λ w. cycle_with u v w) c k in
    let q = bind_some (number_of s) (λ v. edges_of zs >>= λ w. cycle_with p.0 v w) c p.2 in
    let r = bind_some (edges_of zs) (λ w. cycle_with p.0 q.0 w) c q.2 in
    cycle_with_fits p.0 q.0 r.0 c (up_to_fits 1000000000000 h p.0 p.1) (up_to_fits 4294967295 s q.0 q.1) (edges_fit zs r.0 r.1) r.2

cycle_with_again : (half start : ℕ) (es : List ℕ) → 1 ≤ half → 0 < length es
    → cycle_with half start es ≡ Some (record { half = half; walk = record { start = start; edges = es } })
cycle_with_again half start [] h l = absurd (omega arith)
cycle_with_again half start (e ∷ es) h l = let t : (half == 0) ≡ false = grind (arith, nat_tests) in rw t refl

cycle_guess : IsGuess cycle_from cycle_numbers IsCycle
cycle_guess = record {
  fits = cycle_from_fits;
  again = λ c f. rw (
    up_to_again 1000000000000 c.half f.half,
    up_to_again 4294967295 c.walk.start f.start,
    edges_again c.walk.edges f.edges,
  ) (cycle_with_again c.half c.walk.start c.walk.edges f.some f.not_empty);
}

-- the numbers of a walk with its half weight are such that a line can hold
pub cycle_near : (c : Cycle) → IsCycle c → AllByRecursion IsNear (cycle_numbers c)
cycle_near c f = (f.half, (near c.walk.start f.start, edges_near c.walk.edges f.edges))

-- a walk with its half weight is read from its line alone
pub cycle_item : IsItem item_cycle cycle_line IsCycle
cycle_item = item_of_guess cycle_from cycle_line cycle_numbers IsCycle cycle_guess
    (λ c f. numbers_in-bracketed (codes "cycle") (cycle_numbers c) refl (cycle_near c f))
    (record { half = 1; walk = record { start = 0; edges = 0 ∷ [] } })
    (record {
      some = omega arith;
      half = omega arith;
      start = omega arith;
      edges = (omega arith, tt);
      not_empty =
          omega arith;
    })

-- ---- boxes

quarter : (x : ℤ) → int_div (pos 4 *ℤ x) (pos 4) ≡ x
quarter x =
    let a : ℤ = pos 4 *ℤ x in
    let whole : int_div a (pos 4) *ℤ pos 4 +ℤ int_rem a (pos 4) ≡ a = quot-rem a (pos 4) in
    let small : unsigned_abs (int_rem a (pos 4)) < 4 = rem_below a (pos 4) (omega arith) in
    omega (arith, ints)

low_again : (a b : ℤ) → low_corner (a +ℤ b) ((b -ℤ a) *ℤ pos 2) ≡ a
low_again a b = let e : ((a +ℤ b) *ℤ pos 2) -ℤ ((b -ℤ a) *ℤ pos 2) ≡ pos 4 *ℤ a = omega (arith, ints) in rw e (quarter a)

high_again : (a b : ℤ) → high_corner (a +ℤ b) ((b -ℤ a) *ℤ pos 2) ≡ b
high_again a b = let e : ((a +ℤ b) *ℤ pos 2) +ℤ ((b -ℤ a) *ℤ pos 2) ≡ pos 4 *ℤ b = omega (arith, ints) in rw e (quarter b)

box_from_fits : (zs : List ℤ) (c : Corners) → box_from zs ≡ Some c → IsRectangle c
box_from_fits [] c h = absurd (cc)
box_from_fits (l ∷ []) c h = absurd (cc)
box_from_fits (l ∷ w ∷ []) c h = absurd (cc)
box_from_fits (l ∷ w ∷ x ∷ []) c h = absurd (cc)
box_from_fits (l ∷ w ∷ x ∷ y ∷ []) c h = rectangle_fits (record { x1 = low_corner x l; y1 = low_corner y w; x2 = high_corner x l; y2 = high_corner y w }) c h
box_from_fits (l ∷ w ∷ x ∷ y ∷ z ∷ zs) c h = absurd (cc)

box_guess : IsGuess box_from box_numbers IsRectangle
box_guess = record {
  fits = box_from_fits;
  again = λ c r.
      rw (low_again c.x1 c.x2, low_again c.y1 c.y2, high_again c.x1 c.x2, high_again c.y1 c.y2) (rectangle_again c r);
}

-- the numbers of a box are such that a line can hold
pub box_near : (b : Corners) → IsRectangle b → AllByRecursion IsNear (box_numbers b)
box_near b r = (omega (arith, ints), (omega (arith, ints), (omega (arith, ints), (omega (arith, ints), tt))))

-- a box is read from its line alone
pub box_item : IsItem item_box box_line IsRectangle
box_item = item_of_guess box_from box_line box_numbers IsRectangle box_guess (λ b r. numbers_in-box b (box_near b r))
    (record { x1 = pos 0; y1 = pos 0; x2 = pos 1; y2 = pos 1 })
    (record {
      columns = record {
        some = omega (arith, ints);
        low = omega (arith, ints);
        high =
            omega (arith, ints);
      };
      rows = record {
        some = omega (arith, ints);
        low = omega (arith, ints);
        high =
            omega (arith, ints);
      };
    })
