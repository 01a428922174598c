use Rattle.std.proofs.Common.{◌<◌, length}
use Rattle.dpl_drawing.proofs.walking.is_back_first.Given as goal

abbrev pub invariant-loop-step : goal.invariant-loop-step
invariant-loop-step l = (l.a < length l.ring) × (l.b < length l.ring)
