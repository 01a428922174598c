use Rattle.std.proofs.Common.{◌≡◌, Option, ℕ}
use Rattle.indexmap.specs.IndexMap.{keys}
use Rattle.dpl_calls.specs.Loops.{is_missing}
use Rattle.dpl_calls.specs.Found.{calls_at, first_number, earliest, first_call}
use Rattle.dpl_calls.proofs.loops.missing.Given as goal

abbrev pub invariant-loop-number : goal.invariant-loop-number
invariant-loop-number l = earliest (λ (place : Option ℕ). first_number (is_missing (keys l.table.definitions))
    (calls_at l.table place)) l.first l.number-iterator ≡ first_call (is_missing (keys l.table.definitions)) l.table
