use Rattle.std.proofs.Common.{map, ◌<◌, length}
use Rattle.dpl_cell.specs.Places.{corners_of}
use Rattle.dpl_near.specs.Around.{Shaped}
use Rattle.dpl_near.proofs.AroundLemmas.{wanted_asked}
use Rattle.dpl_near.proofs.PairLemmas.{before_more}
use Rattle.dpl_near.proofs.pairing.push_behind.Goals as goal

pub returns : goal.returns
returns c =
    let rects = c.args.rects.now in
    let i = c.item_at-i.result in
    let s : Shaped = record { rects = map corners_of rects; shape = c.args.shape.now; reach = c.args.reach } in
    let within : i < length rects = rw c.item_at-i.ensures (c.requires.order c.args.place 0 c.requires.place) in
    before_more s c.args.index.now.order c.args.place i c.put_asked_behind.new.found.items _ _ _ _ c.item_at-i.ensures
    (λ m low l w. c.in_ok-put_asked_behind.ensures.all m low l
    (wanted_asked rects c.args.shape.now c.args.reach i c.index-rects-i.result _ _ c.requires.index within c.index-rects-i.is
    c.ask_around-ask.ensures.kind c.ask_around-ask.ensures.near c.ask_around-ask.ensures.far _ w))
    (rw c.as_slice.ensures.value at c.in_ok-push_near_ones.ensures) c.requires.before
