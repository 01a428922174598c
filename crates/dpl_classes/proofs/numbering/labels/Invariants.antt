use Rattle.dpl_classes.proofs.LabelLemmas.{Numbered}
use Rattle.dpl_classes.proofs.numbering.labels.Given as goal

abbrev pub invariant-loop-i : goal.invariant-loop-i
invariant-loop-i l = Numbered l.roots l.i l.label.items l.count
