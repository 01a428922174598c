use Rattle.std.proofs.Common.{◌<◌, ◌≤◌, ◌-◌, length}
use Rattle.dpl_cuts.proofs.crowding.count_together.Given as goal

abbrev pub invariant-near : goal.invariant-near
invariant-near l = (0 < l.count) × (l.count ≤ length l.stretches)

abbrev pub decreases-near : goal.decreases-near
decreases-near l = length l.stretches - l.count
