use Rattle.std.proofs.Common.{◌≡◌, ◌<◌, ℕ}
use Rattle.std.specs.Prelude.{slice_index_or}
use Rattle.dpl_sign.specs.Walks.{no_edge}
use Rattle.dpl_sum.proofs.comparing.same_edges.Given as goal

abbrev pub invariant-loop-e : goal.invariant-loop-e
invariant-loop-e l = (i : ℕ) → i < l.e → slice_index_or l.edges i no_edge ≡ slice_index_or l.others i no_edge
