use Rattle.std.proofs.Common.{◌≡◌, ◌*◌, ◌≤◌, ◌^◌}
use Rattle.std.specs.Prelude.{◌&&◌}
use Rattle.dpl_cycle.specs.Sums.{sum_on}
use Rattle.dpl_sign.specs.Colourings.{agree, colour_of}
use Rattle.dpl_balance.specs.Areas as spec
use Rattle.dpl_balance.proofs.measuring.fragments_area.Given as goal

abbrev pub invariant-loop-v : goal.invariant-loop-v
invariant-loop-v l =
    (l.found ≡ sum_on (λ v. spec.all_fragments v && agree (colour_of l.colours v) l.on_b) (spec.area_at l.rects) l.v)
    × (l.found ≤ l.v * 2 ^ 62)
