use Rattle.std.proofs.Common.{◌≡◌, length}
use Rattle.dpl_calls.specs.Counted.{own_of, AreRight}
use Rattle.dpl_calls.proofs.totals.totals.Given as goal

abbrev pub invariant-loop-head : goal.invariant-loop-head
invariant-loop-head l =
    record {
      right : AreRight (own_of l.count) l.table l.groups.labels l.head-index l.totals.items;
      len : length l.totals.items ≡ length l.table.definitions.entries;
    }
