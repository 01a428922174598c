use Rattle.std.proofs.Common.{ℕ, List}
use Rattle.dpl_classes.specs.Ways.{AreTops}
use Rattle.dpl_classes.specs.Roots.{Falls}
use Rattle.dpl_classes.proofs.WayLemmas.{FlatSoFar}
use Rattle.dpl_classes.proofs.rooting.flatten.Given as goal

abbrev pub invariant-loop-i : goal.invariant-loop-i
invariant-loop-i l = record {
  falls : Falls l.ups;
  flat : (tops : List ℕ) → AreTops l.initial.ups tops → FlatSoFar l.i l.ups tops;
}
