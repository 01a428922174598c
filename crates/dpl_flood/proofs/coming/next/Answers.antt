use Rattle.std.proofs.Common.{arith, ◌≡◌, ◌+◌, ◌-◌, ap, length}
use Rattle.std.specs.Prelude.{slice_index}
use Rattle.dpl_flood.proofs.coming.next.Goals as goal

pub next_on-requires-clause-now : goal.next_on-requires-clause-now
next_on-requires-clause-now c = c.requires.now (slice_index c.args.queue.now c.place-place.result) c.place-place.ensures.first

pub next_of-requires-clause-now : goal.next_of-requires-clause-now
next_of-requires-clause-now c =
    let ways = length c.args.dual.now.crosses in
    let is : ways + (c.place-place.result - length c.as_slice-ways.result.now) ≡ c.place-place.result =
    omega (arith, c.if-place-ways.false, ap length c.as_slice-ways.ensures) in
    omega (arith, ap (slice_index c.args.queue.now) is, c.requires.now (slice_index c.args.queue.now c.place-place.result) c.place-place.ensures.first)
