use Rattle.std.proofs.Common.{◌≡◌, length}
use Rattle.std.specs.Prelude.{slice_index}
use Rattle.dpl_sign.specs.Drawings.{dart_count, is_in}
use Rattle.dpl_plain.proofs.PartLemmas.{ArePartNames}
use Rattle.dpl_plain.proofs.parts.cross_all.Given as goal

abbrev pub invariant-loop-edge : goal.invariant-loop-edge
invariant-loop-edge l = (length l.names ≡ dart_count l.net) × ArePartNames l.net (is_in l.set) (slice_index l.names) l.edge
