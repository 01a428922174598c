use Rattle.std.proofs.Common.{◌-◌, ◌≡◌, ◌<◌, ◌*◌}
use Rattle.std.specs.Prelude.{slice_index}
use Rattle.dpl_flood.proofs.keys.place_of_root.Given as goal

abbrev pub invariant-loop-here : goal.invariant-loop-here
invariant-loop-here l = record {
  some : 0 < l.here;
  inside : l.here < 2 * l.count;
  least : slice_index l.least l.here ≡ slice_index l.least 1;
}

abbrev pub decreases-loop-here : goal.decreases-loop-here
decreases-loop-here l = l.count - l.here
