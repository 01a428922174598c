use Rattle.std.proofs.Common.{◌≡◌, ◌≤◌, ◌+◌, ◌++◌, map, length}
use Rattle.std.specs.Prelude.{All}
use Rattle.dpl_form.specs.Lines.{lines_in}
use Rattle.dpl_words.specs.Scripts.{plain_line, line_text, Fits}
use Rattle.dpl_words.proofs.scripts.script.Given as goal

abbrev pub invariant-lines : goal.invariant-lines
invariant-lines l = (lines_in l.text ≡ map line_text (map plain_line l.found.items) ++ lines_in l.rest)
    × (All Fits (map plain_line l.found.items) × ((l.number ≡ length l.found.items + 1)
    × (length l.found.items + length l.rest ≤ length l.text)))

abbrev pub decreases-lines : goal.decreases-lines
decreases-lines l = length l.rest
