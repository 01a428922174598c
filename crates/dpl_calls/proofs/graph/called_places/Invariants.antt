use Rattle.std.proofs.Common.{◌≡◌, ◌++◌, drop, map}
use Rattle.indexmap.specs.IndexMap.{keys}
use Rattle.dpl_calls.specs.Places.{called_places}
use Rattle.dpl_calls.specs.Table.{entry_part}
use Rattle.dpl_calls.proofs.graph.called_places.Given as goal

abbrev pub invariant-loop-entry : goal.invariant-loop-entry
invariant-loop-entry l = l.places.items ++ called_places (keys l.table.definitions)
    (map entry_part (drop l.entry-index l.entries)) ≡ called_places (keys l.table.definitions) (map entry_part l.entries)
