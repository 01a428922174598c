use Rattle.std.proofs.Common.{◌≡◌, length}
use Rattle.dpl_cover.specs.Counts.{AreBlank}
use Rattle.dpl_cover.proofs.counts.loosen.Given as goal

abbrev pub invariant-loop-w : goal.invariant-loop-w
invariant-loop-w l = record { long : length l.blocks ≡ length l.fn.blocks; blank : AreBlank l.blocks }
