use Rattle.std.proofs.Common.{◌≡◌, ◌<◌, ℕ}
use Rattle.std.specs.Prelude.{slice_index_or}
use Rattle.dpl_sign.specs.Drawings.{no_port}
use Rattle.dpl_sum.proofs.comparing.same_ports.Given as goal

abbrev pub invariant-loop-e : goal.invariant-loop-e
invariant-loop-e l = (i : ℕ) → i < l.e → slice_index_or l.ports i (no_port, no_port) ≡ slice_index_or l.others i (no_port, no_port)
