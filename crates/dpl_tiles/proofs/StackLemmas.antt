-- Which stacks go on, and rows of one band.
use Rattle.std.proofs.Common.{arith, ◌≡◌, ℕ, ◌<◌, ℤ, pos, ◌-ℤ◌, ◌<ℤ◌, List, length, get_or, ◌∙◌, AllPairs, Any, refl, sym, ap, Bool, true, false, not, ◌&&◌}
use Rattle.std.specs.Ordering.{int_eq}
use Rattle.std.proofs.lemmas.Int.{ints}
use Rattle.std.proofs.lemmas.List.{get_or_default}
use Rattle.std.proofs.lemmas.List.Folds.{list_any-from_Any, Any-from_list_any}
use Rattle.dpl_cell.specs.declared.rect.Rect.{Rect}
use Rattle.dpl_cell.specs.Cells.{IsWithin}
use Rattle.dpl_cell.specs.Tiles.{IsRun}
use Rattle.dpl_tiles.specs.Bands.{AreAlike, HasColumns}
use Rattle.dpl_stacks.specs.Stacks.{IsLeftOf}
use Rattle.dpl_tiles.specs.Stacks.{goes_on}
use Rattle.dpl_list.proofs.Integers.{signed}
use Rattle.dpl_cell.proofs.BoxLemmas.{three}

-- ---- which stacks go on

abbrev same_columns : Rect → Rect → Bool
same_columns r p = int_eq p.x1 r.x1 && int_eq p.x2 r.x2

columns_test : (r p : Rect) → HasColumns r.x1 r.x2 p → same_columns r p ≡ true
columns_test r p c = let e = c.left in let f = c.right in grind (arith, ints)

test_columns : (r p : Rect) → same_columns r p ≡ true → HasColumns r.x1 r.x2 p
test_columns r p t = record { left = grind (arith, ints); right = grind (arith, ints) }

pub goes_on_some : (pieces : List Rect) (r : Rect) → Any (HasColumns r.x1 r.x2) pieces → goes_on pieces r ≡ true
goes_on_some pieces r (k, p, l, e, c) = list_any-from_Any (same_columns r) pieces (k, p, l, e, columns_test r p c)

pub goes_on_none : (pieces : List Rect) (r : Rect) → ¬ Any (HasColumns r.x1 r.x2) pieces → goes_on pieces r ≡ false
goes_on_none pieces r none = decide (goes_on pieces r)
    (λ t. let (k, p, l, e, s) = Any-from_list_any (same_columns r) pieces t in none (k, p, l, e, test_columns r p s))
  where
    decide : (b : Bool) → (b ≡ true → ⊥) → b ≡ false
    decide true f = absurd (f refl)
    decide false f = refl

pub some_goes_on : (pieces : List Rect) (r : Rect) → goes_on pieces r ≡ true → Any (HasColumns r.x1 r.x2) pieces
some_goes_on pieces r t = let (k, p, l, e, s) = Any-from_list_any (same_columns r) pieces t in (k, p, l, e, test_columns r p s)

pub none_goes_on : (pieces : List Rect) (r : Rect) → not (goes_on pieces r) ≡ true → ¬ Any (HasColumns r.x1 r.x2) pieces
none_goes_on pieces r t a = let h : not true ≡ true = rw (goes_on_some pieces r a) at t in cc

-- ---- rows of one band

pub run_same : (cells cells' : ℤ → ℤ → Bool) (y y' x1 x2 : ℤ) → ((x : ℤ) → cells x y ≡ cells' x y') → IsRun cells x1 x2 y → IsRun cells' x1 x2 y'
run_same cells cells' y y' x1 x2 same run = record {
  long = run.long;
  full = λ x w. rw (same x) at (run.full x w);
  left = rw (same (x1 -ℤ pos 1)) at run.left;
  right = rw (same x2) at run.right;
}

pub up : (cells : ℤ → ℤ → Bool) (low high y x1 x2 : ℤ) → AreAlike cells low high → IsWithin low high y → IsRun cells x1 x2 low → IsRun cells x1 x2 y
up cells low high y x1 x2 a w run = run_same cells cells low y x1 x2 (λ x. a.same x y w) run

pub down : (cells : ℤ → ℤ → Bool) (low high y x1 x2 : ℤ) → AreAlike cells low high → IsWithin low high y → IsRun cells x1 x2 y → IsRun cells x1 x2 low
down cells low high y x1 x2 a w run = run_same cells cells y low x1 x2 (λ x. sym (a.same x y w)) run

pub last_row : (low high : ℤ) → low <ℤ high → IsWithin low high (high -ℤ pos 1)
last_row low high h = record { from = omega signed; to = omega signed }

-- there is one stack with these columns at most
pub one_place : (rects : List Rect) (i j : ℕ) (a b : Rect) (x : ℤ) → AllPairs IsLeftOf rects
    → i < length rects → j < length rects → get_or rects i a ≡ a → get_or rects j b ≡ b → a.x1 ≡ x → b.x1 ≡ x
    → a ≡ b
one_place rects i j a b x up l m e f g h = three i j
    (λ n. absurd (let p : IsLeftOf (get_or rects i a) (get_or rects j a) = up i j a n m in let p' : IsLeftOf a b =
    rw (e, get_or_default rects j a b m ∙ f) at p in beside a b x g h p'))
    (λ n. sym e ∙ ap (λ k. get_or rects k a) n ∙ get_or_default rects j a b m ∙ f)
    (λ n. absurd (let p : IsLeftOf (get_or rects j b) (get_or rects i b) = up j i b n l in let p' : IsLeftOf b a =
    rw (f, get_or_default rects i b a l ∙ e) at p in beside b a x h g p')) where
      beside : (a b : Rect) (x : ℤ) → a.x1 ≡ x → b.x1 ≡ x → IsLeftOf a b → ⊥
      beside a b x e f h = let w = a.wide in omega signed
