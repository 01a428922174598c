-- Rectangles that are moved have the same shapes.
use Rattle.std.proofs.Common.{arith, ◌≡◌, ℕ, ◌<◌, ℤ, ◌+ℤ◌, ◌-ℤ◌, List, length, map, get_or, sym, ◌∙◌, subst, Bool}
use Rattle.std.proofs.lemmas.List.{get_or-map, length-map}
use Rattle.dpl_list.proofs.Integers.{signed}
use Rattle.dpl_cell.specs.Places.{Corners}
use Rattle.dpl_cell.specs.Cells.{IsIn}
use Rattle.dpl_cell.specs.Outlines.{Box}
use Rattle.dpl_cell.specs.Layers.{is_cell}
use Rattle.dpl_cell.specs.Shapes.{AreOneShape}
use Rattle.dpl_cell.specs.Images.{moved}
use Rattle.dpl_cell.proofs.ImageLemmas.{shift, unshift, moves, carried_from, layer_shape, layer_shape_back}
use Rattle.dpl_near.specs.Shapes.{AreShapes}

pub same_place : (cells : ℤ → ℤ → Bool) (x y x' y' a b a' b' : ℤ) → x ≡ a → y ≡ b → x' ≡ a' → y' ≡ b'
    → AreOneShape cells x y x' y' → AreOneShape cells a b a' b'
same_place cells x y x' y' a b a' b' e f g h s =
    let P : ℤ → Type 0 = λ z. AreOneShape cells z y x' y' in
    let Q : ℤ → Type 0 = λ z. AreOneShape cells a z x' y' in
    let R : ℤ → Type 0 = λ z. AreOneShape cells a b z y' in
    let S : ℤ → Type 0 = λ z. AreOneShape cells a b a' z in
    subst S h (subst R g (subst Q f (subst P e s)))

-- rectangles that are moved have the same shapes
pub moved_shapes : (right up : ℤ) (rects : List Corners) (label : List ℕ) (count' : ℕ)
    → AreShapes rects label count' → AreShapes (map (moved right up) rects) label count'
moved_shapes right up rects label count' s =
    let size = length-map rects (moved right up) in
    record {
      long = s.long ∙ sym size;
      same = λ i j d x y x' y' l m h k.
          let i' : i < length rects = omega arith in
          let j' : j < length rects = omega arith in
          let at = λ (n : ℕ) (p : n < length rects) (a b : ℤ) (w : IsIn (get_or (map (moved right up) rects) n d) a b).
          let P : Corners → Type 0 = λ z. IsIn z a b in
          carried_from (shift right) (unshift right) (shift up) (unshift up) (get_or rects n d) (moved right up (get_or rects n d))
          (moves right up (get_or rects n d)) a b (subst P (get_or-map (moved right up) rects n d d p) w) in
          let f = s.same i j d (x -ℤ right) (y -ℤ up) (x' -ℤ right) (y' -ℤ up) i' j' (at i i' x y h) (at j j' x' y' k) in (
            λ e. same_place (is_cell (map Box (map (moved right up) rects))) ((x -ℤ right) +ℤ right) ((y -ℤ up) +ℤ up)
                ((x' -ℤ right) +ℤ right) ((y' -ℤ up) +ℤ up) x y x' y' (omega signed) (omega signed) (omega signed) (omega signed)
                (layer_shape right up rects (x -ℤ right) (y -ℤ up) (x' -ℤ right) (y' -ℤ up) (f.0 e)),
            λ t. f.1 (layer_shape_back right up rects x y x' y' t),
          );
      numbered = s.numbered;
    }
