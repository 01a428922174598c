-- Tiles: when two are the same, and their order.
use Rattle.std.proofs.Common.{arith, ◌≡◌, ℕ, ◌<◌, ◌≤◌, ℤ, pos, ◌-ℤ◌, ◌<ℤ◌, ◌≤ℤ◌, List, length, get_or, AllPairs, Contains, sym, ap, inl, inr, Bool, IsTrue, map}
use Rattle.std.specs.List.Sorted.{IsPermutation}
use Rattle.std.proofs.lemmas.Int.{by_lt_z}
use Rattle.std.proofs.lemmas.List.{length-map}
use Rattle.std.proofs.lemmas.List.Elements.{All-map}
use Rattle.std.proofs.lemmas.List.Sorted.{All-permutation, Contains-permutation, IsPermutation-map}
use Rattle.dpl_cell.specs.declared.rect.Rect.{Rect}
use Rattle.dpl_cell.specs.Places.{Corners, corners_of}
use Rattle.dpl_cell.specs.Cells.{IsWithin}
use Rattle.dpl_cell.specs.Tiles.{IsRun, IsTile, IsBefore, IsNotAfter, AreTiles}
use Rattle.dpl_tiles.specs.Stacks.{EndsBefore, AreEnded, AreAllTiles}
use Rattle.dpl_tiles.specs.Counts.{HasMoreTiles}
use Rattle.dpl_cell.proofs.BoxLemmas.{equal_z, at_start}
use Rattle.dpl_cell.proofs.ImageLemmas.{same_corners}
use Rattle.dpl_cell.proofs.StretchLemmas.{one_maximal}
use Rattle.dpl_cell.proofs.SortLemmas.{BeginTogether, before_sorted}
use Rattle.dpl_list.proofs.Integers.{signed}
use Rattle.dpl_list.proofs.Lists.{all_pairs_map, contains_map, no_more}

-- ---- when two tiles are the same

-- tiles with the same columns that share a row are the same
lower_edge : (cells : ℤ → ℤ → Bool) (a b : Corners) (y : ℤ) → IsTile cells a → IsTile cells b → a.x1 ≡ b.x1
    → a.x2 ≡ b.x2 → IsWithin a.y1 a.y2 y → IsWithin b.y1 b.y2 y → b.y1 ≤ℤ a.y1
lower_edge cells a b y s t e f w v = by_lt_z a.y1 b.y1
    (λ h. absurd (t.below (rw (e, f) at (s.rows (b.y1 -ℤ pos 1) (inside a.y1 a.y2 b.y1 b.y2 y w v h)))))
    (λ h. h) where
      inside : (a b c d y : ℤ) → IsWithin a b y → IsWithin c d y → a <ℤ c → IsWithin a b (c -ℤ pos 1)
      inside a b c d y w v h = let k = w.to in let l = v.from in record { from = omega signed; to = omega signed }

upper_edge : (cells : ℤ → ℤ → Bool) (a b : Corners) (y : ℤ) → IsTile cells a → IsTile cells b → a.x1 ≡ b.x1
    → a.x2 ≡ b.x2 → IsWithin a.y1 a.y2 y → IsWithin b.y1 b.y2 y → a.y2 ≤ℤ b.y2
upper_edge cells a b y s t e f w v = by_lt_z b.y2 a.y2
    (λ h. absurd (t.above (rw (e, f) at (s.rows b.y2 (inside a.y1 a.y2 b.y1 b.y2 y w v h)))))
    (λ h. h) where
      inside : (a b c d y : ℤ) → IsWithin a b y → IsWithin c d y → d <ℤ b → IsWithin a b d
      inside a b c d y w v h = let k = w.from in let l = v.to in record { from = omega signed; to = h }

pub one_tile : (cells : ℤ → ℤ → Bool) (a b : Corners) (y : ℤ) → IsTile cells a → IsTile cells b → a.x1 ≡ b.x1
    → a.x2 ≡ b.x2 → IsWithin a.y1 a.y2 y → IsWithin b.y1 b.y2 y → a ≡ b
one_tile cells a b y s t e f w v =
    same_corners a b e
    (equal_z _ _ (lower_edge cells b a y t s (sym e) (sym f) v w) (lower_edge cells a b y s t e f w v)) f
    (equal_z _ _ (upper_edge cells a b y s t e f w v) (upper_edge cells b a y t s (sym e) (sym f) v w))

-- tiles that begin in one cell are the same
pub one_begins : (cells : ℤ → ℤ → Bool) (a b : Corners) → IsTile cells a → IsTile cells b → a.x1 ≡ b.x1 → a.y1 ≡ b.y1 → a ≡ b
one_begins cells a b s t e f =
    let w : IsWithin a.y1 a.y2 a.y1 = at_start a.y1 a.y2 s.high in
    let v : IsWithin b.y1 b.y2 a.y1 = rw f (at_start b.y1 b.y2 t.high) in
    let r = s.rows a.y1 w in
    let q : IsRun cells a.x1 b.x2 a.y1 = rw (← e) at (t.rows a.y1 v) in
    one_tile cells a b a.y1 s t e (one_maximal (λ x. IsTrue (cells x a.y1)) a.x1 a.x2 a.x1 b.x2 a.x1 r q (at_start _ _ r.long) (at_start _ _ q.long)).1 w v

-- ---- all tiles

all_held : (cells : ℤ → ℤ → Bool) (rects : List Rect) → AreAllTiles cells rects → (c : Corners) → IsTile cells c → Contains (map corners_of rects) c
all_held cells rects a c t =
    let w = at_start c.y1 c.y2 t.high in
    let (k, r, l, e, at) = a.whole c.x1 c.x2 c.y1 (t.rows c.y1 w) in
    let s : IsTile cells (corners_of r) = rw e at (a.each k r l) in
    contains_map corners_of rects r c (k, l, e) (one_tile cells (corners_of r) c c.y1 s t at.columns.left at.columns.right at.row w)

-- ---- no two are the same

never_ends_before : (a b : Rect) → a.x1 ≡ b.x1 → a.y2 ≡ b.y2 → EndsBefore a b → ⊥
never_ends_before a b e f h = elim h [ inl g ↦ omega signed | inr g ↦ omega signed ]

-- no two begin in one cell
begin_apart : (cells : ℤ → ℤ → Bool) (rects : List Rect) → AreAllTiles cells rects → AllPairs (λ a b. ¬ BeginTogether (corners_of a) (corners_of b)) rects
begin_apart cells rects a i j d h l (e, f) =
    let g = one_begins cells _ _ (a.each i d (omega arith)) (a.each j d l) e f in
    never_ends_before (get_or rects i d) (get_or rects j d) e (ap (λ (c : Corners). c.y2) g) (a.ordered i j d h l)

-- all tiles, each once, in order
pub sorted_tiles : (cells : ℤ → ℤ → Bool) (rects sorted : List Rect) → AreAllTiles cells rects
    → IsPermutation rects sorted → AllPairs (λ a b. IsNotAfter (corners_of a) (corners_of b)) sorted
    → AreTiles cells (map corners_of sorted)
sorted_tiles cells rects sorted a p up = record {
  each = All-map (IsTile cells) corners_of sorted (All-permutation (λ r. IsTile cells (corners_of r)) rects sorted p a.each);
  all = λ c t. Contains-permutation _ _ c (IsPermutation-map corners_of rects sorted p) (all_held cells rects a c t);
  ordered = all_pairs_map corners_of IsBefore sorted (before_sorted corners_of rects sorted (begin_apart cells rects a) p up);
}

-- ---- how many

-- tiles that ended are different tiles
pub more_tiles : (cells : ℤ → ℤ → Bool) (z : ℤ) (ended : List Rect) (n : ℕ) → AreEnded cells z ended → n < length ended → HasMoreTiles cells n
more_tiles cells z ended n a many = record {
  tiles = map corners_of ended;
  each = All-map (IsTile cells) corners_of ended a.each;
  different = all_pairs_map corners_of (λ b c. ¬ (b ≡ c)) ended (λ i j d h l. differ (get_or ended i d) (get_or ended j d) (a.ordered i j d h l));
  many = rw (length-map ended corners_of) many;
} where
  differ : (b c : Rect) → EndsBefore b c → ¬ (corners_of b ≡ corners_of c)
  differ b c h e = never_ends_before b c (ap (λ (r : Corners). r.x1) e) (ap (λ (r : Corners). r.y2) e) h

pub not_more : (cells : ℤ → ℤ → Bool) (tiles : List Corners) (n : ℕ) → AreTiles cells tiles → length tiles ≤ n → ¬ HasMoreTiles cells n
not_more cells tiles n a few more =
    let h = no_more more.tiles tiles more.different (λ k d l. a.all _ (more.each k d l)) in let g = more.many in omega arith
