use Rattle.dpl_sign.specs.Drawings.{is_in, tail_of}
use Rattle.dpl_sign.specs.Rotations.{Leaves}
use Rattle.dpl_drawing.proofs.turning.walk_from.Given as goal

abbrev pub invariant-loop-step : goal.invariant-loop-step
invariant-loop-step l = record {
  ahead_in : Leaves l.net (is_in l.kept) (tail_of l.net.graph l.dart) l.ahead;
  behind_in : Leaves l.net (is_in l.kept) (tail_of l.net.graph l.dart) l.behind;
}
