use Rattle.std.proofs.Common.{◌≡◌, ◌*◌, ◌<◌, ◌≤◌, ◌^◌, ◌==◌, ℕ, length, slice_index_or}
use Rattle.std.specs.Prelude.{◌&&◌}
use Rattle.dpl_cycle.specs.Sums.{sum_on}
use Rattle.dpl_sign.specs.Colourings.{agree, colour_of}
use Rattle.dpl_balance.specs.Areas.{area_at}
use Rattle.dpl_balance.proofs.adding.add_sides.Given as goal

abbrev pub invariant-loop-v : goal.invariant-loop-v
invariant-loop-v l =
    ((c : ℕ) → c < length l.fn.sides → slice_index_or l.sides c 0 ≡ sum_on
    (λ v. (slice_index_or l.number v 0 == c) && agree (colour_of l.colours v) l.on_b) (area_at l.rects) l.v)
    × (((c : ℕ) → c < length l.fn.sides → slice_index_or l.sides c 0 ≤ l.v * 2 ^ 62)
    × (length l.sides ≡ length l.fn.sides))
