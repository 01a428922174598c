use Rattle.std.proofs.Common.{◌≡◌, ℕ, length, take, drop}
use Rattle.std.specs.Io.KnownBytes.{Appends}
use Rattle.dpl_ext.proofs.writing.write_all.Given as goal

abbrev pub invariant-loop-rest : goal.invariant-loop-rest
invariant-loop-rest g l =
    record {
      same : g.K.Sink.faults l.sink ≡ g.K.Sink.faults l.initial.sink;
      count : ℕ;
      rest : l.rest ≡ drop count l.bytes;
      taken : Appends (g.K.Sink.taken l.initial.sink) (g.K.Sink.taken l.sink) (take count l.bytes);
    }

abbrev pub decreases-loop-rest : goal.decreases-loop-rest
decreases-loop-rest g l = length l.rest
