use Rattle.std.proofs.Common.{◌≡◌, ◌<◌, ℕ, List, length, get_or}
use Rattle.dpl_classes.specs.Ways.{AreTops}
use Rattle.dpl_classes.specs.Roots.{Falls}
use Rattle.dpl_classes.proofs.rooting.top.Given as goal

abbrev pub invariant-up : goal.invariant-up
invariant-up l = record {
  falls : Falls l.ups;
  inside : l.at < length l.ups;
  ends : (k : ℕ) → get_or l.initial.ups k 0 ≡ k → get_or l.ups k 0 ≡ k;
  same : (tops : List ℕ) → AreTops l.initial.ups tops → AreTops l.ups tops;
  top : (tops : List ℕ) → AreTops l.initial.ups tops → get_or tops l.at 0 ≡ get_or tops l.of 0;
}

abbrev pub decreases-up : goal.decreases-up
decreases-up l = l.at
