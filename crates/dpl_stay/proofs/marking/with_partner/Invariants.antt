use Rattle.std.proofs.Common.{◌≡◌, map, take}
use Rattle.dpl_stay.specs.Marks.{has_partner}
use Rattle.dpl_stay.proofs.marking.with_partner.Given as goal

abbrev pub invariant-loop-partner : goal.invariant-loop-partner
invariant-loop-partner l = l.fine.items ≡ map has_partner (take l.partner-index l.partners)
