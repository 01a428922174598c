-- The bands between ordinates in order.
use Rattle.std.proofs.Common.{arith, ◌≡◌, ℕ, ◌+◌, ◌-◌, ◌<◌, ◌≤◌, ◌^◌, ℤ, pos, neg_ℤ, ◌<ℤ◌, ◌≤ℤ◌, List, length, get_or, All, subst}
use Rattle.std.proofs.Common.{ap, refl, sym, ◌∷◌, ◌∙◌, inl, inr, [], Bool, true, false, map}
use Rattle.std.proofs.lemmas.Bool.{cases_lt}
use Rattle.std.proofs.lemmas.List.{get_or_default}
use Rattle.std.proofs.lemmas.List.Elements.{All-map, All-weaker, All-contains}
use Rattle.dpl_cell.specs.declared.rect.Rect.{Rect}
use Rattle.dpl_cell.specs.declared.layout.Primitive.{Primitive}
use Rattle.dpl_cell.specs.declared.layout.Primitive.TheVariants as prim
use Rattle.dpl_cell.specs.Places.{place_of}
use Rattle.dpl_cell.specs.Cells.{IsWithin}
use Rattle.dpl_cell.specs.Ranges.{IsInRange}
use Rattle.dpl_cell.specs.Outlines.{outline_of}
use Rattle.dpl_cell.specs.Layers.{is_cell}
use Rattle.dpl_list.specs.Order.{Ascends}
use Rattle.dpl_tiles.specs.Bands.{HasCorners, HasOrdinates}
use Rattle.dpl_tiles.specs.Sweeps.{AreSwept}
use Rattle.dpl_cell.proofs.BoxLemmas.{equal_z}
use Rattle.dpl_list.proofs.Integers.{signed}
use Rattle.dpl_tiles.proofs.OutlineLemmas.{AllRows, Agrees, Lies, layer_same, no_row, at_most, above}
use Rattle.dpl_tiles.proofs.BoundLemmas.{bounded}
use Rattle.dpl_tiles.proofs.EndLemmas.{IsTop, no_run}

-- what holds of all ordinates holds of all corners
corners_hold : (P : ℤ → Type 0) (rows : List ℤ) (part : Primitive) → All P rows → HasCorners rows part → AllRows P (outline_of part)
corners_hold P rows (prim.Box r) a (b, c) = (All-contains P rows r.y1 a b, All-contains P rows r.y2 a c)
corners_hold P rows (prim.Poly ps) a h = All-map (λ p. P p.1) place_of ps (λ k d l. All-contains P rows _ a (h k d l))

all_hold : (P : ℤ → Type 0) (rows : List ℤ) (prims : List Primitive) → All P rows → HasOrdinates rows prims → All (AllRows P) (map outline_of prims)
all_hold P rows prims a h = All-map (AllRows P) outline_of prims
    (All-weaker (HasCorners rows) (λ p. AllRows P (outline_of p)) (λ p g. corners_hold P rows p a g) prims h)

-- ---- ordinates in order

band_agrees : (rows : List ℤ) (k : ℕ) (low high y : ℤ) → Ascends (λ z. z) rows → 0 < k → k < length rows
    → low ≡ get_or rows (k - 1) (pos 0) → high ≡ get_or rows k (pos 0) → IsWithin low high y
    → All (Agrees low y) rows
band_agrees rows k low high y sorted some within e f w m d l = elim (cases_lt m k) [
  | inl h ↦ let a : get_or rows m d ≤ℤ get_or rows (k - 1) d = sorted m (k - 1) d (omega arith) (omega arith) in
      let a' : get_or rows m d ≤ℤ low = rw (get_or_default rows (k - 1) d (pos 0) (omega arith), ← e) at a in
      at_most _ low a' ∙ sym (at_most _ y (chain _ low y a' w.from))
  | inr h ↦ let a : get_or rows k d ≤ℤ get_or rows m d = sorted k m d h l in
      let a' : high ≤ℤ get_or rows m d = rw (get_or_default rows k d (pos 0) within, ← f) at a in
      above _ low (far low y high _ w a') ∙ sym (above _ y (far' y high _ w.to a'))
] where
  chain : (a b c : ℤ) → a ≤ℤ b → b ≤ℤ c → a ≤ℤ c
  chain a b c h g = omega signed

  far : (a b c d : ℤ) → IsWithin a c b → c ≤ℤ d → a <ℤ d
  far a b c d w h = omega signed

  far' : (b c d : ℤ) → b <ℤ c → c ≤ℤ d → b <ℤ d
  far' b c d h g = omega signed

pub rows_alike : (prims : List Primitive) (rows : List ℤ) (k : ℕ) (x y : ℤ) → Ascends (λ z. z) rows
    → HasOrdinates rows prims → 0 < k → k < length rows
    → IsWithin (get_or rows (k - 1) (pos 0)) (get_or rows k (pos 0)) y
    → is_cell (map outline_of prims) x (get_or rows (k - 1) (pos 0)) ≡ is_cell (map outline_of prims) x y
rows_alike prims rows k x y sorted all some within w =
    layer_same x _ y (map outline_of prims) (all_hold _ rows prims
    (band_agrees rows k _ _ y sorted some within refl refl w) all)

below_all : (rows : List ℤ) (y : ℤ) → Ascends (λ z. z) rows → y <ℤ get_or rows 0 (pos 0) → All (Lies false y) rows
below_all rows y sorted h m d l =
    let a : get_or rows 0 d ≤ℤ get_or rows m d = sorted 0 m d (omega arith) l in
    let a' : get_or rows 0 (pos 0) ≤ℤ get_or rows m d = rw (get_or_default rows 0 d (pos 0) (omega arith)) at a in
    above _ y (far y _ _ h a') where
      far : (b c d : ℤ) → b <ℤ c → c ≤ℤ d → b <ℤ d
      far b c d h g = omega signed

above_all : (rows : List ℤ) (k : ℕ) (y : ℤ) → Ascends (λ z. z) rows → length rows ≤ k
    → (1 ≤ length rows → k ≤ length rows) → get_or rows (k - 1) (pos 0) ≤ℤ y → All (Lies true y) rows
above_all rows k y sorted whole upto h m d l =
    let e : k ≡ length rows = omega arith in
    let a : get_or rows m d ≤ℤ get_or rows (k - 1) d = sorted m (k - 1) d (omega arith) (omega arith) in
    let a' : get_or rows m d ≤ℤ get_or rows (k - 1) (pos 0) = rw (get_or_default rows (k - 1) d (pos 0) (omega arith)) at a in
    at_most _ y (chain _ _ y a' h) where
      chain : (a b c : ℤ) → a ≤ℤ b → b ≤ℤ c → a ≤ℤ c
      chain a b c h g = omega signed

-- ---- the first row and the last

swept_none : (cells : ℤ → ℤ → Bool) (z : ℤ) → ((y : ℤ) → y <ℤ z → (x : ℤ) → cells x y ≡ false) → AreSwept cells z [] []
swept_none cells z none = record {
  done = record { each = λ k d l. absurd (omega arith); below = λ k d l. absurd (omega arith); ordered = λ i j d h l. absurd (omega arith) };
  going = record {
    each = λ k d l. absurd (omega arith);
    all =
        λ x1 x2 run. absurd (no_run cells x1 x2 _ (none _ (omega signed)) run);
    ordered =
        λ i j d h l. absurd (omega arith);
  };
  whole = λ x1 x2 y h run. absurd (no_run cells x1 x2 y (none y h) run);
}

pub swept_first : (prims : List Primitive) (rows : List ℤ) (ended held : List Rect) → ended ≡ [] → held ≡ []
    → Ascends (λ z. z) rows → HasOrdinates rows prims
    → AreSwept (is_cell (map outline_of prims)) (get_or rows 0 (pos 0)) ended held
swept_first prims rows ended held e f sorted all = rw (e, f)
    (swept_none (is_cell (map outline_of prims)) _ (λ y h x. no_row false x y (map outline_of prims)
    (all_hold _ rows prims (below_all rows y sorted h) all)))

-- the last row is the top
pub rows_top : (prims : List Primitive) (rows : List ℤ) (k : ℕ) → Ascends (λ z. z) rows
    → HasOrdinates rows prims → length rows ≤ k → (1 ≤ length rows → k ≤ length rows)
    → IsTop (is_cell (map outline_of prims)) (get_or rows (k - 1) (pos 0))
rows_top prims rows k sorted all whole upto = record {
  bound = bounded prims;
  none = λ x y h. no_row true x y (map outline_of prims) (all_hold _ rows prims (above_all rows k y sorted whole upto h) all);
}

pub swept_next : (cells : ℤ → ℤ → Bool) (rows : List ℤ) (k : ℕ) (ended held : List Rect)
    → AreSwept cells (get_or rows k (pos 0)) ended held
    → AreSwept cells (get_or rows (k + 1 - 1) (pos 0)) ended held
swept_next cells rows k ended held s =
    let e : k ≡ k + 1 - 1 = omega arith in
    let P : ℕ → Type 0 = λ n. AreSwept cells (get_or rows n (pos 0)) ended held in
    subst P e s

-- a band without rows adds nothing
pub swept_still : (cells : ℤ → ℤ → Bool) (rows : List ℤ) (k : ℕ) (ended held : List Rect)
    → Ascends (λ z. z) rows → 0 < k → k < length rows → get_or rows k (pos 0) ≤ℤ get_or rows (k - 1) (pos 0)
    → AreSwept cells (get_or rows (k - 1) (pos 0)) ended held
    → AreSwept cells (get_or rows (k + 1 - 1) (pos 0)) ended held
swept_still cells rows k ended held sorted some within h s =
    let e : get_or rows (k - 1) (pos 0) ≡ get_or rows k (pos 0) = equal_z _ _ (sorted (k - 1) k (pos 0) (omega arith) within) h in
    let P : ℤ → Type 0 = λ z. AreSwept cells z ended held in
    swept_next cells rows k ended held (subst P e s)

-- the row that is reached at the end is the last
pub last_row_is : (rows : List ℤ) (k : ℕ) → length rows ≤ k → (1 ≤ length rows → k ≤ length rows)
    → get_or rows (length rows - 1) (pos 0) ≡ get_or rows (k - 1) (pos 0)
last_row_is [] k whole upto = refl
last_row_is (z ∷ rows) k whole upto = let e : length (z ∷ rows) ≡ k = omega arith in ap (λ n. get_or (z ∷ rows) (n - 1) (pos 0)) e

-- the row below all others is not above the first of some rows
pub least_first : (rows : List ℤ) → All IsInRange rows → neg_ℤ (pos (2 ^ 63)) ≤ℤ get_or rows 0 (pos 0)
least_first [] r = omega signed
least_first (z ∷ zs) r = let l = (r 0 z (omega arith)).low in omega (signed, l)
