use Rattle.std.proofs.Common.{◌≡◌, drop, length}
use Rattle.indexmap.specs.IndexMap.{keys}
use Rattle.dpl_calls.specs.Loops.{is_looped}
use Rattle.dpl_calls.specs.Found.{calls_in, first_number}
use Rattle.dpl_calls.specs.Table.{bodies_of}
use Rattle.dpl_calls.proofs.loops.looped_in.Given as goal

abbrev pub invariant-loop-entry : goal.invariant-loop-entry
invariant-loop-entry l = first_number (is_looped (length (keys l.table.definitions)) (bodies_of l.table))
    (calls_in l.definition (drop l.entry-index l.entries)) ≡ first_number
    (is_looped (length (keys l.table.definitions)) (bodies_of l.table)) (calls_in l.definition l.entries)
