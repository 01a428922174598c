use Rattle.std.specs.Io.KnownBytes.{Keeps}
use Rattle.dpl_ext.proofs.interrupted.read_again.Given as goal

abbrev pub invariant-loop-repeat : goal.invariant-loop-repeat
invariant-loop-repeat g l = Keeps (g.R.Read.remaining l.initial.from) (g.R.Read.remaining l.from)
