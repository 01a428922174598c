use Rattle.dpl_laminar.specs.Storing.{sets_of}
use Rattle.dpl_tree.proofs.RoundLemmas.{IsRising}
use Rattle.dpl_tree.proofs.ring.child_with.Given as goal

abbrev pub invariant-loop : goal.invariant-loop
invariant-loop l = IsRising (sets_of l.family) l.set l.member l.counter l.child
