use Rattle.std.proofs.Common.{◌≡◌, ℕ, ◌<◌, length, true}
use Rattle.dpl_sign.specs.Drawings.{is_in}
use Rattle.dpl_drawing.specs.Faces.{AreFaces}
use Rattle.dpl_drawing.specs.Drawn.{AreLasts}
use Rattle.dpl_drawing.proofs.whole.count_faces.Given as goal

abbrev pub invariant-loop-edge : goal.invariant-loop-edge
invariant-loop-edge l = record {
  size : length l.all.items ≡ l._edge;
  whole : (e : ℕ) → e < l._edge → is_in l.all.items e ≡ true;
  are_faces : AreFaces l.net (is_in l.all.items) l.faces;
  are_lasts : AreLasts l.net (is_in l.all.items) l.lasts.items;
}
