use Rattle.std.proofs.Common.{arith, ap, length, length-append, [], ◌∷◌}
use Rattle.std.specs.Prelude.{slice_index}
use Rattle.dpl_euler.proofs.CircleLemmas.{trail_goes_on, trail_short}
use Rattle.dpl_euler.proofs.circling.cycle_from.Goals as goal

pub loop-cycle-smaller : goal.loop-cycle-smaller
loop-cycle-smaller c =
    omega (
      arith,
      ap length c.in_ok-push.ensures.items,
      length-append c.loop-cycle.cycle.items (c.loop-cycle.place ∷ []),
      trail_short _ _ _ _ _ c.loop-cycle.invariant,
    )

pub loop-cycle-preserved : goal.loop-cycle-preserved
loop-cycle-preserved c =
    rw c.in_ok-push.ensures.items (trail_goes_on (slice_index c.args.nexts.now) _ _ _ _ _ c.requires.ring.1 c.loop-cycle.invariant c.if-place-start.false)
