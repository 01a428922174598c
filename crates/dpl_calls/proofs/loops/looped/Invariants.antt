use Rattle.std.proofs.Common.{◌≡◌, Option, ℕ, length}
use Rattle.indexmap.specs.IndexMap.{keys}
use Rattle.dpl_calls.specs.Loops.{is_looped}
use Rattle.dpl_calls.specs.Found.{calls_at, first_number, earliest, first_call}
use Rattle.dpl_calls.specs.Table.{bodies_of}
use Rattle.dpl_calls.proofs.loops.looped.Given as goal

abbrev pub invariant-loop-number : goal.invariant-loop-number
invariant-loop-number l = earliest (λ (place : Option ℕ). first_number
    (is_looped (length (keys l.table.definitions)) (bodies_of l.table)) (calls_at l.table place)) l.first
    l.number-iterator ≡ first_call (is_looped (length (keys l.table.definitions)) (bodies_of l.table)) l.table
