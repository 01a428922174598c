-- What the comparison of two lists of lines says.
use Rattle.std.proofs.Common.{arith, ◌≡◌, ℕ, Bool, true, false, List, [], ◌∷◌, length, refl, ap, Option, None, Some}
use Rattle.std.specs.Prelude.{ℤ, pos}
use Rattle.std.specs.Ordering.{int_eq}
use Rattle.std.proofs.lemmas.Bool.Decides.{nat_tests, Decides-int_eq}
use Rattle.dpl_cell.specs.Places.{Corners}
use Rattle.dpl_rules.specs.Readers.{or_else}
use Rattle.dpl_report.specs.declared.marks.Broken.{Broken}
use Rattle.dpl_report.specs.Plain.{PlainZone}
use Rattle.dpl_good.specs.declared.refusals.Miss.{Miss}
use Rattle.dpl_good.specs.Misses.{pair_miss, numbers_miss}
use Rattle.dpl_good.specs.Conditions.{edge_miss, lists_miss, ends_numbers, corner_numbers, ends_miss, zone_miss, clash_lines_miss, cut_lines_miss}

-- where none fails, neither fails
pub or_none : (a b : Option Miss) → or_else a b ≡ None → (a ≡ None) × (b ≡ None)
or_none None b e = (refl, e)
or_none (Some x) b e = absurd (cc)

-- numbers that do not fail are equal
pub pair_none : (place : ℕ) (x y : ℤ) → pair_miss place x y ≡ None → x ≡ y
pair_none place x y e = by_test (int_eq x y) refl e where
  by_test : (t : Bool) → int_eq x y ≡ t → pair_miss place x y ≡ None → x ≡ y
  by_test true f g = (Decides-int_eq x y).0 f
  by_test false f g = let bad = rw f at g in absurd (cc)

-- a number against itself does not fail
pub pair_same : (place : ℕ) (x : ℤ) → pair_miss place x x ≡ None
pair_same place x = rw ((Decides-int_eq x x).1 refl) refl

-- lists of as many numbers that do not fail are equal
pub numbers_none : (place : ℕ) (xs ys : List ℤ) → length xs ≡ length ys → numbers_miss place xs ys ≡ None → xs ≡ ys
numbers_none place [] [] l e = refl
numbers_none place [] (y ∷ ys) l e = absurd (omega arith)
numbers_none place (x ∷ xs) [] l e = absurd (omega arith)
numbers_none place (x ∷ xs) (y ∷ ys) l e =
    let d = or_none (pair_miss place x y) (numbers_miss place xs ys) e in
    let a = pair_none place x y d.0 in
    let b = numbers_none place xs ys (omega arith) d.1 in
    cc

-- a list of numbers against itself does not fail
pub numbers_same : (place : ℕ) (xs : List ℤ) → numbers_miss place xs xs ≡ None
numbers_same place [] = refl
numbers_same place (x ∷ xs) = rw (pair_same place x) (numbers_same place xs)

-- edges that do not fail are equal
pub edge_none : (x w : ℕ) → edge_miss x w ≡ None → x ≡ w
edge_none x w e = grind (arith, nat_tests)

edge_same : (x : ℕ) → edge_miss x x ≡ None
edge_same x = grind (arith, nat_tests)

-- two lines of one edge that do not differ are the same
pub record AreTold {X : Type 0} (edge : X → ℕ) (line_miss : X → X → Option Miss) : Type 0 where
  pub told : (x w : X) → edge x ≡ edge w → line_miss x w ≡ None → x ≡ w
  pub same : (x : X) → line_miss x x ≡ None

-- nothing differs only where the lists are the same
pub lists_none : {X : Type 0} (edge : X → ℕ) (line_miss : X → X → Option Miss) → AreTold edge line_miss
    → (xs ws : List X) → lists_miss edge line_miss xs ws ≡ None → xs ≡ ws
lists_none edge line_miss t [] [] e = refl
lists_none edge line_miss t [] (w ∷ ws) e = absurd (cc)
lists_none edge line_miss t (x ∷ xs) [] e = absurd (cc)
lists_none edge line_miss t (x ∷ xs) (w ∷ ws) e =
    let d = or_none (edge_miss (edge x) (edge w)) (or_else (line_miss x w) (lists_miss edge line_miss xs ws)) e in
    let f = or_none (line_miss x w) (lists_miss edge line_miss xs ws) d.1 in
    let same = t.told x w (edge_none (edge x) (edge w) d.0) f.0 in
    let others = lists_none edge line_miss t xs ws f.1 in
    cc

-- a list of lines against itself does not fail
pub lists_same : {X : Type 0} (edge : X → ℕ) (line_miss : X → X → Option Miss) → AreTold edge line_miss → (xs : List X) → lists_miss edge line_miss xs xs ≡ None
lists_same edge line_miss t [] = refl
lists_same edge line_miss t (x ∷ xs) = rw (edge_same (edge x), t.same x) (lists_same edge line_miss t xs)

two_numbers : (a b c d : ℕ) → ◌≡◌ {A = List ℤ} (pos a ∷ pos b ∷ []) (pos c ∷ pos d ∷ []) → (a ≡ c) × (b ≡ d)
two_numbers a b c d e = (cc, cc)

broken_with : ℕ → ℕ → ℕ → Broken
broken_with e a b = record { edge = e; a = a; b = b }

-- broken edges with the same number and ends are the same
pub same_broken : (b w : Broken) → b.edge ≡ w.edge → b.a ≡ w.a → b.b ≡ w.b → b ≡ w
unfolding broken_with
same_broken b w e f g = let h : broken_with b.edge b.a b.b ≡ broken_with w.edge w.a w.b = rw (e, f, g) refl in h

corners_with : List ℤ → Corners
corners_with (a ∷ b ∷ c ∷ d ∷ zs) = record { x1 = a; y1 = b; x2 = c; y2 = d }
corners_with _ = record { x1 = pos 0; y1 = pos 0; x2 = pos 0; y2 = pos 0 }

-- rectangles with the same four numbers have the same corners
pub same_corners : (c d : Corners) → corner_numbers c ≡ corner_numbers d → c ≡ d
unfolding corners_with
same_corners c d e = ap corners_with e

zone_with : Broken → Corners → PlainZone
zone_with b c = record { at = b; corners = c }

-- broken stitches with the same edge and zone are the same
pub same_zone : (z w : PlainZone) → z.at ≡ w.at → z.corners ≡ w.corners → z ≡ w
unfolding zone_with
same_zone z w e f = let h : zone_with z.at z.corners ≡ zone_with w.at w.corners = rw (e, f) refl in h

broken_told : (b w : Broken) → b.edge ≡ w.edge → ends_miss b w ≡ None → b ≡ w
broken_told b w e f =
    let n = numbers_none b.edge (ends_numbers b) (ends_numbers w) refl f in
    let k = two_numbers b.a b.b w.a w.b n in
    same_broken b w e k.0 k.1

-- clash lines of one edge differ nowhere exactly where they are equal
pub clashes_told : AreTold (λ b. b.edge) ends_miss
clashes_told = record { told = broken_told; same = λ b. numbers_same b.edge (ends_numbers b) }

-- cut lines of one edge differ nowhere exactly where they are equal
pub zones_told : AreTold (λ z. z.at.edge) zone_miss
zones_told = record {
  told = λ z w e f.
      let d = or_none (ends_miss z.at w.at) (numbers_miss z.at.edge (corner_numbers z.corners) (corner_numbers w.corners)) f in
      let a = broken_told z.at w.at e d.0 in
      let n = numbers_none z.at.edge (corner_numbers z.corners) (corner_numbers w.corners) refl d.1 in
      same_zone z w a (same_corners z.corners w.corners n);
  same = λ z. rw (numbers_same z.at.edge (ends_numbers z.at)) (numbers_same z.at.edge (corner_numbers z.corners));
}

-- the clash lines are exactly the broken clashes
pub clash_lines_are : (xs ws : List Broken) → (clash_lines_miss xs ws ≡ None → xs ≡ ws) × (xs ≡ ws → clash_lines_miss xs ws ≡ None)
clash_lines_are xs ws = (lists_none (λ b. b.edge) ends_miss clashes_told xs ws, λ e. rw e (lists_same (λ b. b.edge) ends_miss clashes_told ws))

-- lists of cut lines differ nowhere exactly where they are equal
pub cut_lines_are : (xs ws : List PlainZone) → (cut_lines_miss xs ws ≡ None → xs ≡ ws) × (xs ≡ ws → cut_lines_miss xs ws ≡ None)
cut_lines_are xs ws = (lists_none (λ z. z.at.edge) zone_miss zones_told xs ws, λ e. rw e (lists_same (λ z. z.at.edge) zone_miss zones_told ws))
