use Rattle.std.proofs.Common.{arith}
use Rattle.std.proofs.lemmas.Int.{ints, to_z-of_z}
use Rattle.dpl_index.proofs.bounds.around.Goals as goal

pub returns-clause-first : goal.returns-clause-first
returns-clause-first c = record {
  left = search (arith, ints, to_z-of_z, c.lesser-left.ensures);
  right = search (arith, ints, to_z-of_z, c.greater-right.ensures);
  low = search (arith, ints, to_z-of_z, c.lesser-low.ensures);
  high = search (arith, ints, to_z-of_z, c.greater-high.ensures);
}

pub returns-clause-second : goal.returns-clause-second
returns-clause-second c = record {
  left = search (arith, ints, to_z-of_z, c.lesser-left.ensures);
  right = search (arith, ints, to_z-of_z, c.greater-right.ensures);
  low = search (arith, ints, to_z-of_z, c.lesser-low.ensures);
  high = search (arith, ints, to_z-of_z, c.greater-high.ensures);
}
