use Rattle.std.proofs.Common.{◌≡◌, ℕ, ◌<◌, ◌%◌}
use Rattle.dpl_sign.specs.Drawings.{is_in}
use Rattle.dpl_sign.specs.Parity.{passages_on_face, is_clash_edge}
use Rattle.dpl_plain.proofs.parity.are_met.Given as goal

abbrev pub invariant-loop-face : goal.invariant-loop-face
invariant-loop-face l = (f : ℕ) → f < l.face → passages_on_face l.net (is_in l.set) (is_in l.chosen)
    f % 2 ≡ passages_on_face l.net (is_in l.set) (is_clash_edge l.net) f % 2
