use Rattle.std.proofs.Common.{◌≡◌, take}
use Rattle.dpl_calls.specs.Totals.{shown}
use Rattle.dpl_edit.specs.Contents.{prim_count}
use Rattle.dpl_edit.proofs.weighing.weigh.Given as goal

abbrev pub invariant-loop-prim : goal.invariant-loop-prim
invariant-loop-prim l = l.sum ≡ shown (prim_count (take l.prim-index l.prims))
