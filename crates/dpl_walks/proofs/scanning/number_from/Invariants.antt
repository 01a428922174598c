use Rattle.std.proofs.Common.{◌≡◌, ◌≤◌, ◌<◌, ◌++◌, length}
use Rattle.std.specs.Fmt.{decimal}
use Rattle.dpl_walks.proofs.scanning.number_from.Given as goal

abbrev pub invariant-digits : goal.invariant-digits
invariant-digits l = record {
  some : 0 < l.value;
  small : l.value ≤ l.most;
  same : decimal l.value ++ l.rest ≡ decimal l.first ++ l.text;
}

abbrev pub decreases-digits : goal.decreases-digits
decreases-digits l = length l.rest
