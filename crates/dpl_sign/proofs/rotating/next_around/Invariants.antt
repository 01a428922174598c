use Rattle.std.proofs.Common.{◌≡◌, ◌<◌}
use Rattle.dpl_sign.specs.Drawings.{dart_count, is_in as in_set, next_below}
use Rattle.dpl_sign.proofs.rotating.next_around.Given as goal

abbrev pub invariant-loop-edge : goal.invariant-loop-edge
invariant-loop-edge l = (l.next ≡ next_below l.net (in_set l.set) l.edge l.dart) × (l.next < dart_count l.net)
