use Rattle.std.proofs.Common.{◌-◌, length}
use Rattle.dpl_tiles.specs.Bands.{cells_in}
use Rattle.dpl_tiles.specs.Clusters.{HasPassed}
use Rattle.dpl_tiles.proofs.sweeping.step.Given as goal

abbrev pub invariant-clusters : goal.invariant-clusters
invariant-clusters l = HasPassed (cells_in l.band) l.band.low l.row l.at l.sweep

abbrev pub decreases-clusters : goal.decreases-clusters
decreases-clusters l = length l.row - l.at
