use Rattle.std.proofs.Common.{◌≡◌, ◌++◌, length}
use Rattle.dpl_run.specs.Lines as lines
use Rattle.dpl_run.proofs.lines.push_numbers.Given as goal

abbrev pub invariant-loop-number : goal.invariant-loop-number
invariant-loop-number l = l.out.items ++ lines.numbers_text l.rest ≡ l.initial.out.items ++ lines.numbers_text l.numbers

abbrev pub decreases-loop-number : goal.decreases-loop-number
decreases-loop-number l = length l.rest
