use Rattle.std.proofs.Common.{◌≡◌, drop}
use Rattle.indexmap.specs.IndexMap.{keys}
use Rattle.dpl_calls.specs.Loops.{is_missing}
use Rattle.dpl_calls.specs.Found.{calls_in, first_number}
use Rattle.dpl_calls.proofs.loops.missing_in.Given as goal

abbrev pub invariant-loop-entry : goal.invariant-loop-entry
invariant-loop-entry l = first_number (is_missing (keys l.table.definitions))
    (calls_in l.definition (drop l.entry-index l.entries)) ≡ first_number (is_missing (keys l.table.definitions))
    (calls_in l.definition l.entries)
