use Rattle.std.proofs.Common.{arith, ◌≡◌, ◌<◌, ℕ, ◌∙◌}
use Rattle.dpl_sign.specs.Colourings.{colour_of}
use Rattle.dpl_parts.specs.Picks.{is_taken}
use Rattle.dpl_stay.specs.Pairs.{at}
use Rattle.dpl_stay.specs.Laying.{chosen}
use Rattle.dpl_stay.proofs.KeepLemmas.{are_mixed}
use Rattle.dpl_stay.proofs.keeping.keep_colours.Goals as goal

pub returns-clause-best : goal.returns-clause-best
returns-clause-best c = λ kb ka bb ba.
    let stay = c.in_ok-stay.ensures in
    let n = c.requires.one in
    let each : (v : ℕ) → v < c.args.new.now.net.now.graph.nodes → colour_of c.in_ok-found.found.items v
    ≡ chosen (is_taken c.in_ok-stay.stay.taken.items v)
    (at c.in_ok-stay.stay.partners.items v) c.args.old.now.colours.now (colour_of c.args.new.now.colours.now v) =
    λ v l. (rw (c.as_slice-2.ensures.value, c.as_slice-3.ensures.value) at c.in_ok-found.ensures.each) v (omega (arith, l, n)) in
    let taken = rw c.as_slice.ensures.value at c.in_ok-_part.ensures.taken in
    let all = rw c.as_slice.ensures.value at c.in_ok-_part.ensures.all in
    let old = stay.part c.in_ok-_part._part.net _ _ c.in_ok-_part.ensures.part taken in
    c.optima_stay.ensures c.in_ok-_part._part.net c.args.old.now.net.now c.args.new.now.net.now _ old.0 _ _ old.1 c.in_ok-_part.ensures.part
    c.args.old.now.colours.now c.args.new.now.colours.now c.in_ok-found.found.items kb ka bb ba (c.in_ok-found.ensures.long ∙ n)
    (are_mixed c.args.new.now.rects.now c.args.old.now.rects.now c.args.new.now.net.now c.args.old.now.net.now
    c.in_ok-stay.stay.partners.items c.in_ok-stay.stay.taken.items
    c.args.old.now.colours.now c.args.new.now.colours.now c.in_ok-found.found.items stay each c.in_ok-_part._part.net _ _ c.in_ok-_part.ensures.part taken all)
