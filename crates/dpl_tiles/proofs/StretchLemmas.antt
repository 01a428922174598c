-- The cells of a row by the outlines that have them.
use Rattle.std.proofs.Common.{◌≡◌, ℤ, List, map}
use Rattle.std.specs.List.{list_any}
use Rattle.dpl_cell.specs.declared.layout.Primitive.{Primitive}
use Rattle.dpl_cell.specs.Outlines.{outline_of}
use Rattle.dpl_cell.specs.Layers.{is_in_outline, is_cell}
use Rattle.dpl_cell.proofs.LayerLemmas.{list_any-map}

pub in_parts : (prims : List Primitive) (x y : ℤ) → is_cell (map outline_of prims) x y ≡ list_any (λ p. is_in_outline x y (outline_of p)) prims
in_parts prims x y = list_any-map (is_in_outline x y) outline_of prims
