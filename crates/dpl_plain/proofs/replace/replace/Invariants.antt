use Rattle.dpl_plain.proofs.PlainLemmas.{IsReplaced}
use Rattle.dpl_plain.proofs.replace.replace.Given as goal

abbrev pub invariant-loop-place : goal.invariant-loop-place
invariant-loop-place l = IsReplaced l.fn.list l.list l.old l.new l.place
