use Rattle.dpl_plain.proofs.PlainLemmas.{IsCounted}
use Rattle.dpl_plain.proofs.cycles.count_cycles.Given as goal

abbrev pub invariant-loop-dart : goal.invariant-loop-dart
invariant-loop-dart l = IsCounted l.fn.nexts l.nexts l.set l.count l.dart
