use Rattle.std.proofs.Common.{length, ◌-◌}
use Rattle.dpl_near.proofs.LineLemmas.{LinesUpTo}
use Rattle.dpl_near.proofs.lines.lines_of.Given as goal

abbrev pub invariant-lines : goal.invariant-lines
invariant-lines l = LinesUpTo l.borders l.start l.lines.items

abbrev pub decreases-lines : goal.decreases-lines
decreases-lines l = length l.borders - l.start
