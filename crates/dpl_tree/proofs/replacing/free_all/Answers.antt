use Rattle.std.proofs.Common.{arith}
use Rattle.dpl_laminar.proofs.Numbers.{has_at}
use Rattle.dpl_tree.proofs.replacing.free_all.Goals as goal

pub bounds-labels-sets : goal.bounds-labels-sets
bounds-labels-sets c = omega (arith, c.requires _ (has_at c.args.sets.now c.loop-i.i c.loop-i-test.true), c.loop-i.auto.labels)
