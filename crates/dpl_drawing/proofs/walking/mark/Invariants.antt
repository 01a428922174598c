use Rattle.std.proofs.Common.{◌==◌, not}
use Rattle.std.specs.Prelude.{count_by}
use Rattle.dpl_drawing.proofs.MarkLemmas.{Walking}
use Rattle.dpl_drawing.proofs.walking.mark.Given as goal

abbrev pub invariant-loop-place : goal.invariant-loop-place
invariant-loop-place l = Walking l.ring l.start l.label l.fn.labels l.labels l.place

abbrev pub decreases-loop-place : goal.decreases-loop-place
decreases-loop-place l = count_by (λ x. not (x == l.label)) l.labels
