-- What a tile is cut by: the tiles around it with their shapes, what is kept whole, and the lengths.
use Rattle.std.specs.Prelude.{ℕ, ◌≤◌, List, length, map}
use Rattle.dpl_limits.specs.declared.TheConstants.{MOST_REACH, MOST_TILES}
use Rattle.dpl_cell.specs.Places.{Corners, corners_of}
use Rattle.dpl_near.specs.Around.{AreAround, Shaped}
use Rattle.dpl_near.specs.Shapes.{AreShapes}
use Rattle.dpl_cuts.specs.declared.tiling.Tiling.{Tiling}

abbrev pub tiles_of : Tiling → List Corners
tiles_of t = map corners_of t.tiles.now

abbrev pub kept_of : Tiling → List Corners
kept_of t = map corners_of t.keep.now

-- what is asked for the tiles around one
abbrev pub surroundings_of : Tiling → Shaped
surroundings_of t = record { rects = tiles_of t; shape = t.label.now; reach = t.space }

-- these numbers are of tiles around the tile i, within some reach
pub record IsAroundWithin (t : Tiling) (i : ℕ) (near : List ℕ) : Type 0 where
  pub reach : ℕ
  pub some : 1 ≤ reach
  pub around : AreAround (record { rects = tiles_of t; shape = t.label.now; reach = reach }) i near

-- the tiles make these shapes, and lengths and number are within the limits
pub record IsTiling (t : Tiling) : Type 0 where
  pub few : length t.tiles.now ≤ MOST_TILES
  pub shapes : (n : ℕ) × AreShapes (tiles_of t) t.label.now n
  pub some : 1 ≤ t.space
  pub space : t.space ≤ MOST_REACH
  pub over : t.over ≤ MOST_REACH
