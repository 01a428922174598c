use Rattle.std.proofs.Common.{◌+◌, ◌≡◌, zero, length}
use Rattle.dpl_form.specs.Lines.{lines_in}
use Rattle.dpl_form.specs.Readers.{many, after_items}
use Rattle.dpl_report.specs.Reading.{item_aside}
use Rattle.dpl_parse.proofs.blocks.aside.Given as goal

abbrev pub invariant-lines : goal.invariant-lines
invariant-lines l = after_items l.found.items (many item_aside (λ e. e + 1) l.least (lines_in l.rest))
    ≡ many item_aside (λ e. e + 1) zero (lines_in l.text)

abbrev pub decreases-lines : goal.decreases-lines
decreases-lines l = length l.rest
