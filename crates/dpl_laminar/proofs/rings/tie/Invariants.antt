use Rattle.std.proofs.Common.{◌<◌, ◌≤◌, length}
use Rattle.dpl_laminar.proofs.Walks.{AreTied}
use Rattle.dpl_laminar.proofs.rings.tie.Given as goal

abbrev pub invariant-loop-i : goal.invariant-loop-i
invariant-loop-i l = record {
  tied : AreTied l.children l.fn.ring l.ring l.i;
  some : 1 ≤ l.i;
  most : 0 < length l.children → l.i ≤ length l.children;
}
