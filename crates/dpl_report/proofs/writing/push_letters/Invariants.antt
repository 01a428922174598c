use Rattle.std.proofs.Common.{◌≡◌, ◌++◌, take, map}
use Rattle.dpl_report.specs.ReportLines.{mask_letter}
use Rattle.dpl_report.proofs.writing.push_letters.Given as goal

abbrev pub invariant-loop-colour : goal.invariant-loop-colour
invariant-loop-colour l = l.out.items ≡ l.initial.out.items ++ map mask_letter (take l.colour-index l.colours)
