use Rattle.dpl_sign.specs.Drawings.{is_in as in_set}
use Rattle.dpl_drawing.proofs.NumberLemmas.{AreNumbered}
use Rattle.dpl_drawing.proofs.numbering.number.Given as goal

abbrev pub invariant-loop-dart : goal.invariant-loop-dart
invariant-loop-dart l = AreNumbered l.nexts (in_set l.set) l.numbers.items 4294967295 l.count l.dart
