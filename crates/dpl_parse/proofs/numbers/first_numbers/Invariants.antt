use Rattle.std.proofs.Common.{◌≡◌, ◌++◌, ◌-◌, take}
use Rattle.dpl_report.specs.Reading.{numbers_in}
use Rattle.dpl_parse.proofs.numbers.first_numbers.Given as goal

abbrev pub invariant-loop-turn : goal.invariant-loop-turn
invariant-loop-turn l = l.found.items ++ take (8 - l._turn) l.numbers ≡ take 8 (numbers_in l.line)
