use Rattle.dpl_map.specs.Rows.{AreChosen}
use Rattle.dpl_map.proofs.rows.choose.Given as goal

abbrev pub invariant-loop-dart : goal.invariant-loop-dart
invariant-loop-dart l = AreChosen l.set l.numbers l.dart l.faces.items l.darts.items
