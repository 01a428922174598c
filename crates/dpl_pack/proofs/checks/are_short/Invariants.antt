use Rattle.dpl_laminar.specs.Storing.{sets_of}
use Rattle.dpl_pack.specs.Notes.{noted, AreShortTo}
use Rattle.dpl_pack.proofs.checks.are_short.Given as goal

abbrev pub invariant-loop-k : goal.invariant-loop-k
invariant-loop-k l = AreShortTo (sets_of l.tree.family.now) (noted l.notes) l.ways l.k
