use Rattle.std.proofs.Common.{◌≡◌, ◌++◌, map}
use Rattle.indexmap.specs.IndexMap.{keys}
use Rattle.dpl_calls.specs.Places.{called_places, graph_of}
use Rattle.dpl_calls.specs.Table.{entry_part}
use Rattle.dpl_calls.proofs.graph.calls_of.Given as goal

abbrev pub invariant-loop-body : goal.invariant-loop-body
invariant-loop-body l = l.lists.items ++ map (λ entries. called_places (keys l.table.definitions) (map entry_part entries)) l.body-iterator ≡ graph_of l.table
