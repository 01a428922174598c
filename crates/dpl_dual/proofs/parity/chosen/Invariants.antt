use Rattle.std.proofs.Common.{◌≡◌, false}
use Rattle.std.specs.Prelude.{filter, slice_index_or}
use Rattle.std.specs.List.{range_with_len}
use Rattle.dpl_dual.proofs.parity.chosen.Given as goal

abbrev pub invariant-loop-face : goal.invariant-loop-face
invariant-loop-face l = l.list.items ≡ filter (λ f. slice_index_or l.test f false) (range_with_len 0 l.face)
