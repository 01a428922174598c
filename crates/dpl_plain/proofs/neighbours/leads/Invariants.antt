use Rattle.std.proofs.Common.{drop}
use Rattle.std.specs.Prelude.{◌↔◌}
use Rattle.dpl_sign.specs.Drawings.{is_in}
use Rattle.dpl_sign.specs.Parity.{IsFacePath}
use Rattle.dpl_plain.proofs.neighbours.leads.Given as goal

abbrev pub invariant-loop-next : goal.invariant-loop-next
invariant-loop-next l = IsFacePath l.net (is_in l.set) l.f l.faces l.g ↔ IsFacePath l.net (is_in l.set) l.here (drop l.next-index l.faces) l.g
