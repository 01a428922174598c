use Rattle.std.proofs.Common.{◌-◌, ◌≤ℤ◌, get_or, pos, map}
use Rattle.dpl_cell.specs.Outlines.{outline_of}
use Rattle.dpl_cell.specs.Layers.{is_cell}
use Rattle.dpl_tiles.specs.Finders.{IsFinderOf}
use Rattle.dpl_tiles.specs.Sweeps.{HasReached}
use Rattle.dpl_tiles.proofs.tiling.unsorted.Given as goal

abbrev pub invariant-loop-k : goal.invariant-loop-k
invariant-loop-k l = record {
  reached : HasReached (is_cell (map outline_of l.prims)) (get_or l.rows (l.k - 1) (pos 0)) l.sweep;
  finder : IsFinderOf l.prims l.finder;
  below : l.finder.cover.row ≤ℤ get_or l.rows (l.k - 1) (pos 0);
}
