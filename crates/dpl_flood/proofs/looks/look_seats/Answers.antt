use Rattle.std.proofs.Common.{◌∙◌, ◌+◌, ap, sym, inl, inr, get_or}
use Rattle.dpl_flood.specs.States.{SeatsOf, sea_of}
use Rattle.dpl_flood.proofs.TopLemmas.{for_around, one_seat_more}
use Rattle.dpl_flood.proofs.looks.look_seats.Goals as goal

pub loop-i-preserved : goal.loop-i-preserved
loop-i-preserved c =
    let seats = c.args.state.now.seats in
    let members = c.args.members.now in
    let i = c.loop-i.i in
    for_around c.args.dual.now (sea_of c.args.state.now) (SeatsOf seats members i) (SeatsOf seats members (i + 1))
    (get_or c.as_slice-seats.result.now (get_or members i 0) 0) c.args.queue.now c.loop-i.queue c.look_around.new.queue
    c.loop-i.invariant c.look_around.ensures.keys (λ g m. elim (one_seat_more seats members i g m) [
      | inl l ↦ inl l
      | inr e ↦ inr (e ∙ ap (λ z. get_or z (get_or members i 0) 0) (sym c.as_slice-seats.ensures))
    ])
