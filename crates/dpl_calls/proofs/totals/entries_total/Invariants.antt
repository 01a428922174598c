use Rattle.std.proofs.Common.{◌≡◌, ◌≤◌, ◌^◌, take, map, sum_by}
use Rattle.indexmap.specs.IndexMap.{keys}
use Rattle.dpl_calls.specs.Totals.{shown}
use Rattle.dpl_calls.specs.Table.{entry_part}
use Rattle.dpl_calls.specs.Counted.{own_of, kept_of, kept_total}
use Rattle.dpl_calls.proofs.totals.entries_total.Given as goal

abbrev pub invariant-loop-entry : goal.invariant-loop-entry
invariant-loop-entry l =
    record {
      value : l.sum ≡ shown (sum_by (kept_total (own_of l.count) (kept_of (keys l.table.definitions) l.totals)) (map entry_part (take l.entry-index l.entries)));
      small : l.sum ≤ 10 ^ 12;
    }
