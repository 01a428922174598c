use Rattle.std.specs.Io.KnownBytes.{Keeps}
use Rattle.dpl_ext.proofs.interrupted.write_again.Given as goal

abbrev pub invariant-loop-repeat : goal.invariant-loop-repeat
invariant-loop-repeat g l = Keeps (g.W.Write.contents l.initial.to) (g.W.Write.contents l.to)
