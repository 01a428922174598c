-- The fragments of tiles that are moved.
use Rattle.std.proofs.Common.{arith, ◌≡◌, inl, inr, ℕ, ◌*◌, ◌/◌, ◌<◌, ℤ}
use Rattle.std.proofs.Common.{pos, neg_ℤ, ◌+ℤ◌, ◌-ℤ◌, ◌<ℤ◌, ◌≤ℤ◌, int_le, Bool, true, false, IsTrue, MatchBool, if◌then◌else◌}
use Rattle.std.proofs.Common.{List, [], ◌∷◌, length, map, get_or, refl, sym, ap, ◌∙◌, subst}
use Rattle.std.specs.Prelude.{⊤}
use Rattle.std.specs.List.{AllZip}
use Rattle.std.specs.Int.RustNames.{unsigned_abs}
use Rattle.std.proofs.lemmas.List.{get_or-map, get_or_default, length-map}
use Rattle.dpl_list.proofs.Integers.{signed}
use Rattle.dpl_list.proofs.Lists.{all_pairs_map, some_of}
use Rattle.dpl_list.proofs.Zips.{zip_at, zip_length}
use Rattle.dpl_cell.specs.Places.{Corners, corners_of}
use Rattle.dpl_cell.specs.Cells.{IsWithin, IsIn, IsMaximal}
use Rattle.dpl_cell.specs.Gaps.{between, cell_gap2}
use Rattle.dpl_cell.specs.Tiles.{IsBefore}
use Rattle.dpl_cell.specs.Images.{moved}
use Rattle.dpl_cell.proofs.ImageLemmas.{shift, unshift, shifted, moves, carried_from}
use Rattle.dpl_cell.proofs.ImageLemmas.{layer_moved, layer_back, layer_shape, same_cell, same_corners, before_moved}
use Rattle.dpl_near.proofs.MovedLemmas.{same_place}
use Rattle.dpl_cuts.specs.declared.types.Cut.{Cut}
use Rattle.dpl_cuts.specs.declared.types.Fragments.{Fragments}
use Rattle.dpl_cuts.specs.Positions.{layer_of, nowhere, rect_at, lies_along_x, start_of, end_of, first_of, last_of, position_of, part_of}
use Rattle.dpl_cuts.specs.Free.{IsClear, IsFree}
use Rattle.dpl_cuts.specs.Cuts.{GoesOn, middle, IsCutAt, zone_at}
use Rattle.dpl_cuts.specs.Fragments.{IsBetweenCuts, IsFragment, IsFragmentOf, AreParts, IsCut, AreCuts, AreFragments}
use Rattle.dpl_cuts.specs.Images.{IsCutImage, AreImages}

-- ---- positions

along_same : (right up : ℤ) (r : Corners) → lies_along_x (moved right up r) ≡ lies_along_x r
along_same right up r =
    let wide : (r.x2 +ℤ right) -ℤ (r.x1 +ℤ right) ≡ r.x2 -ℤ r.x1 = omega signed in
    let high : (r.y2 +ℤ up) -ℤ (r.y1 +ℤ up) ≡ r.y2 -ℤ r.y1 = omega signed in
    ap (λ z. int_le z ((r.x2 +ℤ right) -ℤ (r.x1 +ℤ right))) high ∙ ap (λ z. int_le (r.y2 -ℤ r.y1) z) wide

-- by how much the positions of a tile are moved
abbrev along : ℤ → ℤ → Corners → ℤ
along right up tile = if lies_along_x tile then right else up

if_moved : (b : Bool) (x y right up : ℤ) → (if b then x +ℤ right else y +ℤ up) ≡ (if b then x else y) +ℤ (if b then right else up)
if_moved true x y right up = refl
if_moved false x y right up = refl

if_back : (b : Bool) (x y right up : ℤ) → (if b then x -ℤ right else y -ℤ up) ≡ (if b then x else y) -ℤ (if b then right else up)
if_back true x y right up = refl
if_back false x y right up = refl

start_moved : (right up : ℤ) (tile r : Corners) → start_of (moved right up tile) (moved right up r) ≡ start_of tile r +ℤ along right up tile
start_moved right up tile r = ap (λ b. if b then r.x1 +ℤ right else r.y1 +ℤ up) (along_same right up tile) ∙ if_moved (lies_along_x tile) r.x1 r.y1 right up

end_moved : (right up : ℤ) (tile r : Corners) → end_of (moved right up tile) (moved right up r) ≡ end_of tile r +ℤ along right up tile
end_moved right up tile r = ap (λ b. if b then r.x2 +ℤ right else r.y2 +ℤ up) (along_same right up tile) ∙ if_moved (lies_along_x tile) r.x2 r.y2 right up

position_back : (right up : ℤ) (tile : Corners) (x y : ℤ)
    → position_of tile (x -ℤ right) (y -ℤ up) ≡ position_of (moved right up tile) x y -ℤ along right up tile
position_back right up tile x y = if_back (lies_along_x tile) x y right up ∙
    ap (λ b. (if b then x else y) -ℤ along right up tile) (sym (along_same right up tile))

part_if : (c : Bool) (right up a b : ℤ) (tile : Corners) → (if c then record {
  x1 = a +ℤ (if c then right else up);
  y1 = tile.y1 +ℤ up;
  x2 = b +ℤ (if c then right else up);
  y2 = tile.y2 +ℤ up;
} else record {
  x1 = tile.x1 +ℤ right;
  y1 = a +ℤ (if c then right else up);
  x2 = tile.x2 +ℤ right;
  y2 = b +ℤ (if c then right else up);
}) ≡ moved right up (if c then record { x1 = a; y1 = tile.y1; x2 = b; y2 = tile.y2 } else record {
  x1 = tile.x1;
  y1 = a;
  x2 = tile.x2;
  y2 = b;
})
part_if true right up a b tile = refl
part_if false right up a b tile = refl

part_moved : (right up : ℤ) (tile : Corners) (a b : ℤ)
    → part_of (moved right up tile) (a +ℤ along right up tile) (b +ℤ along right up tile) ≡ moved right up (part_of tile a b)
part_moved right up tile a b =
    let s = along right up tile in
    let at : Bool → Corners = λ c. if c then record { x1 = a +ℤ s; y1 = tile.y1 +ℤ up; x2 = b +ℤ s; y2 = tile.y2 +ℤ up } else record {
      x1 = tile.x1 +ℤ right;
      y1 = a +ℤ s;
      x2 = tile.x2 +ℤ right;
      y2 = b +ℤ s;
    } in
    ap at (along_same right up tile) ∙ part_if (lies_along_x tile) right up a b tile

rect_moved : (right up : ℤ) (rects : List Corners) (k : ℕ) → k < length rects → rect_at (map (moved right up) rects) k ≡ moved right up (rect_at rects k)
rect_moved right up rects k l = get_or-map (moved right up) rects k nowhere nowhere l

within_at : (a b p a' b' p' : ℤ) → a ≡ a' → b ≡ b' → p ≡ p' → IsWithin a b p → IsWithin a' b' p'
within_at a b p a' b' p' e f g w =
    let P : ℤ → Type 0 = λ z. IsWithin z b p in
    let Q : ℤ → Type 0 = λ z. IsWithin a' z p in
    let R : ℤ → Type 0 = λ z. IsWithin a' b' z in
    subst R g (subst Q f (subst P e w))

-- ---- free positions

clear_moved : (right up : ℤ) (tiles : List Corners) (space : ℕ) (x y : ℤ)
    → IsClear (layer_of tiles) space (x -ℤ right) (y -ℤ up)
    → IsClear (layer_of (map (moved right up) tiles)) space x y
clear_moved right up tiles space x y c x' y' t n =
    let f : between x x' ≡ between (x -ℤ right) (x' -ℤ right) = omega signed in
    let g : between y y' ≡ between (y -ℤ up) (y' -ℤ up) = omega signed in
    let near : cell_gap2 (x -ℤ right) (y -ℤ up) (x' -ℤ right) (y' -ℤ up) < space * space = rw (← f, ← g) n in
    same_place (layer_of (map (moved right up) tiles)) ((x -ℤ right) +ℤ right) ((y -ℤ up) +ℤ up) ((x' -ℤ right) +ℤ right) ((y' -ℤ up) +ℤ up)
    x y x' y' (omega signed) (omega signed) (omega signed) (omega signed)
    (layer_shape right up tiles (x -ℤ right) (y -ℤ up) (x' -ℤ right) (y' -ℤ up)
    (c (x' -ℤ right) (y' -ℤ up) (layer_back right up tiles x' y' t) near))

bare_if : (c : Bool) (right up p y1 y2 : ℤ) (tiles : List Corners) →
    MatchBool c ((¬ IsTrue (layer_of tiles p (y1 -ℤ pos 1))) × (¬ IsTrue (layer_of tiles p y2))) ⊤ →
    MatchBool c ((¬ IsTrue (layer_of (map (moved right up) tiles) (p +ℤ (if c then right else up)) ((y1 +ℤ up) -ℤ pos 1)))
    × (¬ IsTrue (layer_of (map (moved right up) tiles) (p +ℤ (if c then right else up)) (y2 +ℤ up)))) ⊤
bare_if true right up p y1 y2 tiles h = (
  (λ t. h.0 (same_cell (layer_of tiles) ((p +ℤ right) -ℤ right) (((y1 +ℤ up) -ℤ pos 1) -ℤ up) p (y1 -ℤ pos 1) (omega signed) (omega signed)
      (layer_back right up tiles (p +ℤ right) ((y1 +ℤ up) -ℤ pos 1) t))),
  (λ t. h.1 (same_cell (layer_of tiles) ((p +ℤ right) -ℤ right) ((y2 +ℤ up) -ℤ up) p y2 (omega signed) (omega signed)
      (layer_back right up tiles (p +ℤ right) (y2 +ℤ up) t))),
)
bare_if false right up p y1 y2 tiles h = tt

free_moved : (right up : ℤ) (tiles keep : List Corners) (space : ℕ) (tile : Corners) (p : ℤ)
    → IsFree (layer_of tiles) keep space tile p
    → IsFree (layer_of (map (moved right up) tiles)) (map (moved right up) keep) space (moved right up tile) (p +ℤ along right up tile)
free_moved right up tiles keep space tile p f =
    let s = along right up tile in
    let back = λ (x y : ℤ) (i : IsIn (moved right up tile) x y). carried_from (shift right) (unshift right) (shift up) (unshift up) tile
    (moved right up tile) (moves right up tile) x y i in
    let place = λ (x y : ℤ) (e : position_of (moved right up tile) x y ≡ p +ℤ s).
    position_back right up tile x y ∙ ap (λ z. z -ℤ s) e ∙ undone p s in
    record {
      within = within_at _ _ _ _ _ _ (sym (start_moved right up tile tile)) (sym (end_moved right up tile tile)) refl
          ((shifted s (first_of tile) (last_of tile)).to p f.within);
      clear = λ x y i e. clear_moved right up tiles space x y (f.clear (x -ℤ right) (y -ℤ up) (back x y i) (place x y e));
      whole = λ x y i e t. f.whole (x -ℤ right) (y -ℤ up) (back x y i) (place x y e) (layer_back right up keep x y t);
      bare =
          let P : Bool → Type 0 = λ c. MatchBool c ((¬ IsTrue (layer_of (map (moved right up) tiles) (p +ℤ s) ((tile.y1 +ℤ up) -ℤ pos 1)))
          × (¬ IsTrue (layer_of (map (moved right up) tiles) (p +ℤ s) (tile.y2 +ℤ up)))) ⊤ in
          subst P (sym (along_same right up tile)) (bare_if (lies_along_x tile) right up p tile.y1 tile.y2 tiles f.bare);
    } where
      undone : (p s : ℤ) → (p +ℤ s) -ℤ s ≡ p
      undone p s = omega signed

-- ---- the way back

undone : (right up : ℤ) (r : Corners) → moved (neg_ℤ right) (neg_ℤ up) (moved right up r) ≡ r
undone right up r = same_corners (moved (neg_ℤ right) (neg_ℤ up) (moved right up r)) r (omega signed) (omega signed) (omega signed) (omega signed)

redone : (right up : ℤ) (r : Corners) → moved right up (moved (neg_ℤ right) (neg_ℤ up) r) ≡ r
redone right up r = same_corners (moved right up (moved (neg_ℤ right) (neg_ℤ up) r)) r (omega signed) (omega signed) (omega signed) (omega signed)

all_undone : (right up : ℤ) (rects : List Corners) → map (moved (neg_ℤ right) (neg_ℤ up)) (map (moved right up) rects) ≡ rects
all_undone right up [] = refl
all_undone right up (r ∷ rs) = ap (λ z. z ∷ map (moved (neg_ℤ right) (neg_ℤ up)) (map (moved right up) rs)) (undone right up r) ∙
    ap (λ z. r ∷ z) (all_undone right up rs)

along_back : (right up : ℤ) (tile : Corners) (q : ℤ) → q +ℤ along (neg_ℤ right) (neg_ℤ up) (moved right up tile) ≡ q -ℤ along right up tile
along_back right up tile q = ap (λ b. q +ℤ (if b then neg_ℤ right else neg_ℤ up)) (along_same right up tile) ∙ by (lies_along_x tile) where
  by : (b : Bool) → q +ℤ (if b then neg_ℤ right else neg_ℤ up) ≡ q -ℤ (if b then right else up)
  by true = omega signed
  by false = omega signed

-- a fact about a place of moved tiles, at the same place before they were moved
before_move : (right up : ℤ) (Q : List Corners → List Corners → Corners → ℤ → Type 0) (tiles keep : List Corners) (tile : Corners) (q : ℤ) →
    Q (map (moved (neg_ℤ right) (neg_ℤ up)) (map (moved right up) tiles)) (map (moved (neg_ℤ right) (neg_ℤ up)) (map (moved right up) keep))
    (moved (neg_ℤ right) (neg_ℤ up) (moved right up tile)) (q +ℤ along (neg_ℤ right) (neg_ℤ up) (moved right up tile)) →
    Q tiles keep tile (q -ℤ along right up tile)
before_move right up Q tiles keep tile q h =
    let P1 : List Corners → Type 0 = λ z. Q z (map (moved (neg_ℤ right) (neg_ℤ up)) (map (moved right up) keep))
    (moved (neg_ℤ right) (neg_ℤ up) (moved right up tile)) (q +ℤ along (neg_ℤ right) (neg_ℤ up) (moved right up tile)) in
    let P2 : List Corners → Type 0 = λ z. Q tiles z (moved (neg_ℤ right) (neg_ℤ up) (moved right up tile))
    (q +ℤ along (neg_ℤ right) (neg_ℤ up) (moved right up tile)) in
    let P3 : Corners → Type 0 = λ z. Q tiles keep z (q +ℤ along (neg_ℤ right) (neg_ℤ up) (moved right up tile)) in
    let P4 : ℤ → Type 0 = λ z. Q tiles keep tile z in
    subst P4 (along_back right up tile q) (subst P3 (undone right up tile) (subst P2 (all_undone right up keep) (subst P1 (all_undone right up tiles) h)))

free_back : (right up : ℤ) (tiles keep : List Corners) (space : ℕ) (tile : Corners) (q : ℤ)
    → IsFree (layer_of (map (moved right up) tiles)) (map (moved right up) keep) space (moved right up tile) q
    → IsFree (layer_of tiles) keep space tile (q -ℤ along right up tile)
free_back right up tiles keep space tile q f = before_move right up (λ ts ks t z. IsFree (layer_of ts) ks space t z) tiles keep tile q
    (free_moved (neg_ℤ right) (neg_ℤ up) (map (moved right up) tiles) (map (moved right up) keep) space (moved right up tile) q f)

-- ---- cuts

free_at : (cells : ℤ → ℤ → Bool) (keep : List Corners) (space : ℕ) (tile : Corners) (p q : ℤ) → p ≡ q
    → IsFree cells keep space tile p → IsFree cells keep space tile q
free_at cells keep space tile p q e f = let P : ℤ → Type 0 = λ z. IsFree cells keep space tile z in subst P e f

maximal_moved : (right up : ℤ) (tiles keep : List Corners) (space : ℕ) (tile : Corners) (a b : ℤ) →
    IsMaximal (IsFree (layer_of tiles) keep space tile) a b →
    IsMaximal (IsFree (layer_of (map (moved right up) tiles)) (map (moved right up) keep) space (moved right up tile))
    (a +ℤ along right up tile) (b +ℤ along right up tile)
maximal_moved right up tiles keep space tile a b m =
    let s = along right up tile in
    record {
      long = grown a b s m.long;
      full = λ p w. free_at _ _ space (moved right up tile) ((p -ℤ s) +ℤ s) p (redo p s)
          (free_moved right up tiles keep space tile (p -ℤ s) (m.full (p -ℤ s) ((shifted s a b).from p w)));
      left = λ t. m.left (free_at (layer_of tiles) keep space tile (((a +ℤ s) -ℤ pos 1) -ℤ s) (a -ℤ pos 1) (first a s)
          (free_back right up tiles keep space tile ((a +ℤ s) -ℤ pos 1) t));
      right = λ t. m.right (free_at (layer_of tiles) keep space tile ((b +ℤ s) -ℤ s) b (last b s) (free_back right up tiles keep space tile (b +ℤ s) t));
    } where
      grown : (a b s : ℤ) → a <ℤ b → (a +ℤ s) <ℤ (b +ℤ s)
      grown a b s h = omega signed

      redo : (p s : ℤ) → (p -ℤ s) +ℤ s ≡ p
      redo p s = omega signed

      first : (a s : ℤ) → ((a +ℤ s) -ℤ pos 1) -ℤ s ≡ a -ℤ pos 1
      first a s = omega signed

      last : (b s : ℤ) → (b +ℤ s) -ℤ s ≡ b
      last b s = omega signed

beside_if : (c : Bool) (right up x y p x1 y1 x2 y2 : ℤ) → MatchBool c ((x ≡ p) × IsWithin y1 y2 y) ((y ≡ p) × IsWithin x1 x2 x) →
    MatchBool c ((x +ℤ right ≡ p +ℤ (if c then right else up)) × IsWithin (y1 +ℤ up) (y2 +ℤ up) (y +ℤ up))
    ((y +ℤ up ≡ p +ℤ (if c then right else up)) × IsWithin (x1 +ℤ right) (x2 +ℤ right) (x +ℤ right))
beside_if true right up x y p x1 y1 x2 y2 h = (ap (λ z. z +ℤ right) h.0, (shifted up y1 y2).to y h.1)
beside_if false right up x y p x1 y1 x2 y2 h = (ap (λ z. z +ℤ up) h.0, (shifted right x1 x2).to x h.1)

goes_on_moved : (right up : ℤ) (tiles : List Corners) (tile : Corners) (p : ℤ)
    → GoesOn (layer_of tiles) tile p
    → GoesOn (layer_of (map (moved right up) tiles)) (moved right up tile) (p +ℤ along right up tile)
goes_on_moved right up tiles tile p g = record {
  x = g.x +ℤ right;
  y = g.y +ℤ up;
  cell = layer_moved right up tiles g.x g.y g.cell;
  beside =
      let s = along right up tile in
      let P : Bool → Type 0 = λ c. MatchBool c ((g.x +ℤ right ≡ p +ℤ s) × IsWithin (tile.y1 +ℤ up) (tile.y2 +ℤ up) (g.y +ℤ up))
      ((g.y +ℤ up ≡ p +ℤ s) × IsWithin (tile.x1 +ℤ right) (tile.x2 +ℤ right) (g.x +ℤ right)) in
      subst P (sym (along_same right up tile)) (beside_if (lies_along_x tile) right up g.x g.y p tile.x1 tile.y1 tile.x2 tile.y2 g.beside);
}

goes_on_at : (cells : ℤ → ℤ → Bool) (tile : Corners) (p q : ℤ) → p ≡ q → GoesOn cells tile p → GoesOn cells tile q
goes_on_at cells tile p q e g = let P : ℤ → Type 0 = λ z. GoesOn cells tile z in subst P e g

cancel : (a b s c : ℤ) → a +ℤ s ≡ c → c ≡ b +ℤ s → a ≡ b
cancel a b s c e f = omega signed

middle_moved : (a b s : ℤ) → middle (a +ℤ s) (b +ℤ s) ≡ middle a b +ℤ s
middle_moved a b s =
    let e : unsigned_abs ((b +ℤ s) -ℤ (a +ℤ s)) ≡ unsigned_abs (b -ℤ a) = omega signed in
    ap (λ z. (a +ℤ s) +ℤ pos (z / 2)) e ∙ turn a s (pos (unsigned_abs (b -ℤ a) / 2)) where
      turn : (a s m : ℤ) → (a +ℤ s) +ℤ m ≡ (a +ℤ m) +ℤ s
      turn a s m = omega signed

cut_moved : (right up : ℤ) (tiles keep : List Corners) (space over : ℕ) (tile : Corners) (c : ℤ)
    → IsCutAt (layer_of tiles) keep space over tile c
    → IsCutAt (layer_of (map (moved right up) tiles)) (map (moved right up) keep) space over (moved right up tile) (c +ℤ along right up tile)
cut_moved right up tiles keep space over tile c k =
    let s = along right up tile in
    record {
      from = k.from +ℤ s;
      to = k.to +ℤ s;
      free = maximal_moved right up tiles keep space tile k.from k.to k.free;
      long = long_moved k.from k.to s (pos over) k.long;
      before = λ e. goes_on_at (layer_of (map (moved right up) tiles)) (moved right up tile) ((first_of tile -ℤ pos 1) +ℤ s)
          (first_of (moved right up tile) -ℤ pos 1)
          (less_moved (first_of tile) s ∙ ap (λ z. z -ℤ pos 1) (sym (start_moved right up tile tile)))
          (goes_on_moved right up tiles tile (first_of tile -ℤ pos 1)
          (k.before (cancel k.from (first_of tile) s (first_of (moved right up tile)) e (start_moved right up tile tile))));
      behind = λ e. goes_on_at (layer_of (map (moved right up) tiles)) (moved right up tile) (last_of tile +ℤ s) (last_of (moved right up tile))
          (sym (end_moved right up tile tile)) (goes_on_moved right up tiles tile (last_of tile)
          (k.behind (cancel k.to (last_of tile) s (last_of (moved right up tile)) e (end_moved right up tile tile))));
      at = ap (λ z. z +ℤ s) k.at ∙ sym (middle_moved k.from k.to s);
    } where
      long_moved : (a b s o : ℤ) → (a +ℤ o) ≤ℤ b → ((a +ℤ s) +ℤ o) ≤ℤ (b +ℤ s)
      long_moved a b s o h = omega signed

      less_moved : (a s : ℤ) → (a -ℤ pos 1) +ℤ s ≡ (a +ℤ s) -ℤ pos 1
      less_moved a s = omega signed

cut_back : (right up : ℤ) (tiles keep : List Corners) (space over : ℕ) (tile : Corners) (q : ℤ)
    → IsCutAt (layer_of (map (moved right up) tiles)) (map (moved right up) keep) space over (moved right up tile) q
    → IsCutAt (layer_of tiles) keep space over tile (q -ℤ along right up tile)
cut_back right up tiles keep space over tile q k = before_move right up (λ ts ks t z. IsCutAt (layer_of ts) ks space over t z) tiles keep tile q
    (cut_moved (neg_ℤ right) (neg_ℤ up) (map (moved right up) tiles) (map (moved right up) keep) space over (moved right up tile) q k)

-- ---- fragments

between_moved : (right up : ℤ) (tiles keep : List Corners) (space over : ℕ) (tile : Corners) (from to : ℤ) →
    IsBetweenCuts (layer_of tiles) keep space over tile from to →
    IsBetweenCuts (layer_of (map (moved right up) tiles)) (map (moved right up) keep) space over (moved right up tile)
    (from +ℤ along right up tile) (to +ℤ along right up tile)
between_moved right up tiles keep space over tile from to b =
    let s = along right up tile in
    record {
      some = grown from to s b.some;
      low = elim b.low [
        | inl e ↦ inl (ap (λ z. z +ℤ s) e ∙ sym (start_moved right up tile tile))
        | inr k ↦ inr (cut_moved right up tiles keep space over tile from k)
      ];
      high = elim b.high [
        | inl e ↦ inl (ap (λ z. z +ℤ s) e ∙ sym (end_moved right up tile tile))
        | inr k ↦ inr (cut_moved right up tiles keep space over tile to k)
      ];
      whole = λ c h g k. b.whole (c -ℤ s) (low_back from c s h) (high_back to c s g) (cut_back right up tiles keep space over tile c k);
    } where
      grown : (a b s : ℤ) → a <ℤ b → (a +ℤ s) <ℤ (b +ℤ s)
      grown a b s h = omega signed

      low_back : (a c s : ℤ) → (a +ℤ s) <ℤ c → a <ℤ (c -ℤ s)
      low_back a c s h = omega signed

      high_back : (b c s : ℤ) → c <ℤ (b +ℤ s) → (c -ℤ s) <ℤ b
      high_back b c s h = omega signed

fragment_moved : (right up : ℤ) (keep : List Corners) (space over : ℕ) (tiles : List Corners) (i : ℕ) (part : Corners)
    → IsFragmentOf keep space over tiles i part
    → IsFragmentOf (map (moved right up) keep) space over (map (moved right up) tiles) i (moved right up part)
fragment_moved right up keep space over tiles i part f =
    let tile = rect_at tiles i in
    let g = f.fragment in
    let l = f.within in
    let P : Corners → Type 0 = λ z. IsFragment (layer_of (map (moved right up) tiles)) (map (moved right up) keep) space over z (moved right up part) in
    record {
      within = let n = length-map tiles (moved right up) in omega arith;
      fragment = subst P (sym (rect_moved right up tiles i l)) (record {
        from = g.from +ℤ along right up tile;
        to = g.to +ℤ along right up tile;
        between = between_moved right up tiles keep space over tile g.from g.to g.between;
        is = ap (moved right up) g.is ∙ sym (part_moved right up tile g.from g.to);
      });
    }

fragment_back : (right up : ℤ) (keep : List Corners) (space over : ℕ) (tiles : List Corners) (i : ℕ) (part : Corners)
    → IsFragmentOf (map (moved right up) keep) space over (map (moved right up) tiles) i part
    → IsFragmentOf keep space over tiles i (moved (neg_ℤ right) (neg_ℤ up) part)
fragment_back right up keep space over tiles i part f =
    let P : List Corners → Type 0 = λ z. IsFragmentOf z space over (map (moved (neg_ℤ right) (neg_ℤ up)) (map (moved right up) tiles)) i
    (moved (neg_ℤ right) (neg_ℤ up) part) in
    let Q : List Corners → Type 0 = λ z. IsFragmentOf keep space over z i (moved (neg_ℤ right) (neg_ℤ up) part) in
    subst Q (all_undone right up tiles) (subst P (all_undone right up keep)
    (fragment_moved (neg_ℤ right) (neg_ℤ up) (map (moved right up) keep) space over (map (moved right up) tiles) i part f))

parts_moved : (right up : ℤ) (keep : List Corners) (space over : ℕ) (tiles : List Corners) (label : List ℕ) (rects : List Corners) (tile shape : List ℕ)
    → AreParts keep space over tiles label rects tile shape
    → AreParts (map (moved right up) keep) space over (map (moved right up) tiles) label (map (moved right up) rects) tile shape
parts_moved right up keep space over tiles label rects tile shape p =
    let move = moved right up in
    let size = length-map rects move in
    let tile_size = length-map tiles move in
    record {
      tile_long = p.tile_long ∙ sym size;
      shape_long = p.shape_long ∙ sym size;
      each = λ k l.
          let m : k < length rects = omega arith in
          let P : Corners → Type 0 = λ z. IsFragmentOf (map move keep) space over (map move tiles) (get_or tile k 0) z in
          subst P (sym (rect_moved right up rects k m)) (fragment_moved right up keep space over tiles (get_or tile k 0) (rect_at rects k) (p.each k m));
      all = λ i part f.
          let (k, n) = p.all i (moved (neg_ℤ right) (neg_ℤ up) part) (fragment_back right up keep space over tiles i part f) in
          let l = n.within in
          (k, record { within = omega arith; own = n.own; is = rect_moved right up rects k l ∙ ap move n.is ∙ redone right up part });
      shapes = λ k l. p.shapes k (omega arith);
      ordered = all_pairs_map move IsBefore rects (λ i j d h l. before_moved right up (get_or rects i d) (get_or rects j d) (p.ordered i j d h l));
      cover = λ i q l w.
          let m : i < length tiles = omega arith in
          let t = rect_at tiles i in
          let s = along right up t in
          let e = rect_moved right up tiles i m in
          let from : first_of (rect_at (map move tiles) i) ≡ first_of t +ℤ s = ap (λ z. first_of z) e ∙ start_moved right up t t in
          let to : last_of (rect_at (map move tiles) i) ≡ last_of t +ℤ s = ap (λ z. last_of z) e ∙ end_moved right up t t in
          let (k, h) = p.cover i (q -ℤ s) m ((shifted s (first_of t) (last_of t)).from q (within_at _ _ q _ _ q from to refl w)) in
          let n = h.within in
          let r = rect_at rects k in
          let f = rect_moved right up rects k n in (
            k,
            record {
              within = omega arith;
              own = h.own;
              held = within_at _ _ ((q -ℤ s) +ℤ s) _ _ q
                  (sym (ap (λ z. start_of z (rect_at (map move rects) k)) e ∙ ap (λ z. start_of (move t) z) f ∙ start_moved right up t r))
                  (sym (ap (λ z. end_of z (rect_at (map move rects) k)) e ∙ ap (λ z. end_of (move t) z) f ∙ end_moved right up t r))
                  (redo q s) ((shifted s (start_of t r) (end_of t r)).to (q -ℤ s) h.held);
            },
          );
    } where
      redo : (p s : ℤ) → (p -ℤ s) +ℤ s ≡ p
      redo p s = omega signed

-- ---- cuts between fragments

zone_moved : (right up : ℤ) (over : ℕ) (tile : Corners) (c : ℤ)
    → zone_at over (moved right up tile) (c +ℤ along right up tile) ≡ moved right up (zone_at over tile c)
zone_moved right up over tile c =
    let s = along right up tile in
    let h = pos (over / 2) in
    ap (λ z. part_of (moved right up tile) z ((c +ℤ s) +ℤ h)) (low c s h) ∙ ap (λ z. part_of (moved right up tile) ((c -ℤ h) +ℤ s) z) (high c s h) ∙
    part_moved right up tile (c -ℤ h) (c +ℤ h) where
      low : (c s h : ℤ) → (c +ℤ s) -ℤ h ≡ (c -ℤ h) +ℤ s
      low c s h = omega signed

      high : (c s h : ℤ) → (c +ℤ s) +ℤ h ≡ (c +ℤ h) +ℤ s
      high c s h = omega signed

pair_moved : (right up : ℤ) (over : ℕ) (tiles rects : List Corners) (tile : List ℕ) (a b : ℕ) (zone : Corners)
    → (a < length rects → get_or tile a 0 < length tiles) → IsCut over tiles rects tile a b zone
    → IsCut over (map (moved right up) tiles) (map (moved right up) rects) tile a b (moved right up zone)
pair_moved right up over tiles rects tile a b zone owned c =
    let move = moved right up in
    let size = length-map rects move in
    let r = c.rising in
    let w = c.within in
    let i = get_or tile a 0 in
    let t = rect_at tiles i in
    let e = rect_moved right up tiles i (owned (omega arith)) in
    let fa = rect_moved right up rects a (omega arith) in
    let fb = rect_moved right up rects b w in
    let s = along right up t in
    let ends : end_of (rect_at (map move tiles) i) (rect_at (map move rects) a) ≡ end_of t (rect_at rects a) +ℤ s =
    ap (λ z. end_of z (rect_at (map move rects) a)) e ∙ ap (λ z. end_of (move t) z) fa ∙ end_moved right up t (rect_at rects a) in
    let starts : start_of (rect_at (map move tiles) i) (rect_at (map move rects) b) ≡ start_of t (rect_at rects b) +ℤ s =
    ap (λ z. start_of z (rect_at (map move rects) b)) e ∙ ap (λ z. start_of (move t) z) fb ∙ start_moved right up t (rect_at rects b) in
    record {
      rising = r;
      within = omega arith;
      same = c.same;
      meet = ends ∙ ap (λ z. z +ℤ s) c.meet ∙ sym starts;
      overlap = ap move c.overlap ∙ sym (zone_moved right up over t (end_of t (rect_at rects a))) ∙
          ap (λ z. zone_at over z (end_of t (rect_at rects a) +ℤ s)) (sym e) ∙ ap (λ z. zone_at over (rect_at (map move tiles) i) z) (sym ends);
    }

pair_back : (right up : ℤ) (over : ℕ) (tiles rects : List Corners) (tile : List ℕ) (a b : ℕ) (zone : Corners)
    → (a < length rects → get_or tile a 0 < length tiles)
    → IsCut over (map (moved right up) tiles) (map (moved right up) rects) tile a b zone
    → IsCut over tiles rects tile a b (zone_at over (rect_at tiles (get_or tile a 0)) (end_of (rect_at tiles (get_or tile a 0)) (rect_at rects a)))
pair_back right up over tiles rects tile a b zone owned c =
    let move = moved right up in
    let size = length-map rects move in
    let r = c.rising in
    let w = c.within in
    let i = get_or tile a 0 in
    let t = rect_at tiles i in
    let l : b < length rects = omega arith in
    let e = rect_moved right up tiles i (owned (omega arith)) in
    let fa = rect_moved right up rects a (omega arith) in
    let fb = rect_moved right up rects b l in
    let s = along right up t in
    let ends : end_of (rect_at (map move tiles) i) (rect_at (map move rects) a) ≡ end_of t (rect_at rects a) +ℤ s =
    ap (λ z. end_of z (rect_at (map move rects) a)) e ∙ ap (λ z. end_of (move t) z) fa ∙ end_moved right up t (rect_at rects a) in
    let starts : start_of (rect_at (map move tiles) i) (rect_at (map move rects) b) ≡ start_of t (rect_at rects b) +ℤ s =
    ap (λ z. start_of z (rect_at (map move rects) b)) e ∙ ap (λ z. start_of (move t) z) fb ∙ start_moved right up t (rect_at rects b) in
    record {
      rising = r;
      within = l;
      same = c.same;
      meet = cancel (end_of t (rect_at rects a)) (start_of t (rect_at rects b)) s (end_of (rect_at (map move tiles) i) (rect_at (map move rects) a))
          (sym ends) (c.meet ∙ starts);
      overlap = refl;
    }

cuts_moved : (right up : ℤ) (over : ℕ) (tiles rects : List Corners) (tile : List ℕ) (cuts others : List Cut)
    → ((a : ℕ) → a < length rects → get_or tile a 0 < length tiles)
    → AllZip (IsCutImage (moved right up)) cuts others → AreCuts over tiles rects tile cuts
    → AreCuts over (map (moved right up) tiles) (map (moved right up) rects) tile others
cuts_moved right up over tiles rects tile cuts others owned z c =
    let move = moved right up in
    let size = zip_length (IsCutImage move) cuts others z in
    let at = λ (k : ℕ) (d e : Cut) (l : k < length cuts). zip_at (IsCutImage move) cuts others k d e z l in
    record {
      each = λ k d l.
          let m : k < length cuts = omega arith in
          let x = at k d d m in
          let old = get_or cuts k d in
          let new = get_or others k d in
          let i = pair_moved right up over tiles rects tile old.a old.b (corners_of old.zone) (owned old.a) (c.each k d m) in
          let P : ℕ → Type 0 = λ n. IsCut over (map move tiles) (map move rects) tile n old.b (move (corners_of old.zone)) in
          let Q : ℕ → Type 0 = λ n. IsCut over (map move tiles) (map move rects) tile new.a n (move (corners_of old.zone)) in
          let R : Corners → Type 0 = λ n. IsCut over (map move tiles) (map move rects) tile new.a new.b n in
          subst R (sym x.zone) (subst Q (sym x.second) (subst P (sym x.first) i));
      all = λ a b zone i.
          let (k, x, l, e, p) = c.all a b _ (pair_back right up over tiles rects tile a b zone (owned a) i) in
          let m : k < length others = omega arith in
          let y = some_of others k m in
          let w = at k x y l in (
            k,
            get_or others k y,
            m,
            again others k m y,
            (w.first ∙ ap (λ (n : Cut). n.a) e ∙ p.0, w.second ∙ ap (λ (n : Cut). n.b) e ∙ p.1),
          );
      ordered = λ i j d h l.
          let m : j < length cuts = omega arith in
          let x = at i d d (omega arith) in
          let y = at j d d m in
          less _ _ _ _ x.first y.first (c.ordered i j d h m);
    } where
      less : (a b a' b' : ℕ) → a' ≡ a → b' ≡ b → a < b → a' < b'
      less a b a' b' e f h = omega arith

      again : (xs : List Cut) (k : ℕ) → k < length xs → (d : Cut) → get_or xs k (get_or xs k d) ≡ get_or xs k d
      again xs k l d = get_or_default xs k (get_or xs k d) d l

-- tiles that are moved have the fragments that are moved
pub fragments_moved : (right up : ℤ) (keep : List Corners) (space over : ℕ) (tiles : List Corners) (label : List ℕ) (f g : Fragments)
    → AreImages (moved right up) f g → AreFragments keep space over tiles label f
    → AreFragments (map (moved right up) keep) space over (map (moved right up) tiles) label g
fragments_moved right up keep space over tiles label f g i a =
    let move = moved right up in
    let old = map corners_of f.rects in
    let parts = parts_moved right up keep space over tiles label old f.tile f.shape a.parts in
    let cuts = cuts_moved right up over tiles old f.tile f.cuts g.cuts (λ k l. (a.parts.each k l).within) i.cuts a.cuts in
    let P1 : List Corners → Type 0 = λ z. AreParts (map move keep) space over (map move tiles) label z f.tile f.shape in
    let P2 : List ℕ → Type 0 = λ z. AreParts (map move keep) space over (map move tiles) label (map corners_of g.rects) z f.shape in
    let P3 : List ℕ → Type 0 = λ z. AreParts (map move keep) space over (map move tiles) label (map corners_of g.rects) g.tile z in
    let Q1 : List Corners → Type 0 = λ z. AreCuts over (map move tiles) z f.tile g.cuts in
    let Q2 : List ℕ → Type 0 = λ z. AreCuts over (map move tiles) (map corners_of g.rects) z g.cuts in
    record {
      parts = subst P3 (sym i.shape) (subst P2 (sym i.tile) (subst P1 (sym i.rects) parts));
      cuts = subst Q2 (sym i.tile) (subst Q1 (sym i.rects) cuts);
    }
