use Rattle.std.proofs.Common.{◌∙◌, ◌+◌, ap, sym, subst, get_or, inl, inr, false}
use Rattle.std.proofs.lemmas.Bool.{true≢false}
use Rattle.dpl_flood.specs.States.{AreKeyedFor, SeatsAmong, sea_of}
use Rattle.dpl_flood.proofs.TopLemmas.{for_around, for_fewer, one_seat_among}
use Rattle.dpl_flood.proofs.thawing.look_seats_among.Goals as goal
use Rattle.dpl_flood.proofs.thawing.look_seats_among.Goals.{then-tops, else-tops}

pub loop-i-preserved : goal.loop-i-preserved
loop-i-preserved c =
    let d = c.args.dual.now in
    let s = sea_of c.args.state.now in
    let seats = c.args.state.now.seats in
    let tops = c.args.tops.now in
    let i = c.loop-i.i in
    let less = SeatsAmong s seats tops i in
    let more = SeatsAmong s seats tops (i + 1) in
    elim c.if-tops.branch [
      | then-tops w ↦ subst (AreKeyedFor d s more c.args.queue.now) (sym w.queue-is)
          (for_around d s less more (get_or c.as_slice-seats.result.now i 0) c.args.queue.now c.loop-i.queue w.look_around.new.queue c.loop-i.invariant
          w.look_around.ensures.keys (λ g m. elim (one_seat_among s seats tops i g m) [
            | inl l ↦ inl l
            | inr e ↦ inr (e.1 ∙ ap (λ z. get_or z i 0) (sym c.as_slice-seats.ensures))
          ]))
      | else-tops w ↦ subst (AreKeyedFor d s more c.args.queue.now) (sym w.queue-is)
          (for_fewer d s less more c.args.queue.now c.loop-i.queue c.loop-i.invariant (λ g m. elim (one_seat_among s seats tops i g m) [
            | inl l ↦ l
            | inr e ↦ absurd (true≢false (sym e.0 ∙ ap (λ z. get_or tops z false) (sym c.tops.ensures.value) ∙ w.if-tops.false))
          ]))
    ]
