use Rattle.dpl_laminar.specs.Storing.{sets_of}
use Rattle.dpl_pack.specs.Notes.{noted, AreSeatedTo}
use Rattle.dpl_pack.proofs.checks.are_seated.Given as goal

abbrev pub invariant-loop-t : goal.invariant-loop-t
invariant-loop-t l = AreSeatedTo (sets_of l.tree.family.now) (noted l.notes) l.terminals l.t
