use Rattle.std.proofs.Common.{◌≡◌, ◌++◌, drop, map}
use Rattle.dpl_report.specs.Plain.{plain_zone}
use Rattle.dpl_good.specs.Conditions as conditions
use Rattle.dpl_good.proofs.stitches.broken_cuts.Given as goal

abbrev pub invariant-loop-edge : goal.invariant-loop-edge
invariant-loop-edge l = record {
  found : map plain_zone l.found.items ++ conditions.cuts_from l.colours l.e (drop l.edge-index l.edges)
      l.left ≡ conditions.cuts_from l.colours 0 l.edges l.cuts;
  number : l.e ≡ l.edge-index;
}
