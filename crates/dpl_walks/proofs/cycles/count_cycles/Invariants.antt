use Rattle.std.proofs.Common.{◌≡◌, ◌≤◌, ◌+◌, length}
use Rattle.dpl_form.specs.Lines.{lines_in}
use Rattle.dpl_walks.specs.Cycles.{cycles_in, cycle_lines}
use Rattle.dpl_walks.proofs.cycles.count_cycles.Given as goal

abbrev pub invariant-lines : goal.invariant-lines
invariant-lines l = record {
  count : l.left + length (cycles_in l.rest) ≡ length (cycles_in l.text);
  rest : (cycle_lines (lines_in l.rest)).1 ≡ (cycle_lines (lines_in l.text)).1;
  few : l.left + length l.rest ≤ length l.text;
}

abbrev pub decreases-lines : goal.decreases-lines
decreases-lines l = length l.rest
