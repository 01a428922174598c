use Rattle.std.proofs.Common.{rules, arith, ◌≡◌, ◌≤ℤ◌, SFits, w64}
use Rattle.std.proofs.lemmas.Int.{ints, to_z-of_z}
use Rattle.dpl_tiles.proofs.CancelLemmas.{cancelling_none, cancelling_more, cancelling_skip, cancelling_all, end_front}
use Rattle.dpl_tiles.proofs.cancelling.sides_between.Goals as goal

pub loop-rest-init : goal.loop-rest-init
loop-rest-init c = rw c.in_ok-sides.ensures.items (cancelling_none _ c.requires.sorted c.requires.paired)

pub loop-rest-preserved-in_ok-push : goal.loop-rest-preserved-in_ok-push
loop-rest-preserved-in_ok-push c =
    let f : SFits w64 c.second-item.result.row = search rules in
    let high : c.side_up_to.result.high ≡ c.second-item.result.row = simp to_z-of_z at c.side_up_to.ensures.high in
    cancelling_more _ _ _ c.loop-rest.rest.now _ c.first-item.result c.second-item.result c.side_up_to.result
    c.loop-rest.invariant (end_front _ _ _ _ _ c.in-len2-up.len_at_least c.first-item.is c.second-item.is)
    c.in_ok-push.ensures.items c.side_up_to.ensures.column c.side_up_to.ensures.low high

pub loop-rest-preserved : goal.loop-rest-preserved
loop-rest-preserved c =
    let f : SFits w64 c.first-item.result.row = search rules in
    let g : SFits w64 c.second-item.result.row = search rules in
    let past : c.second-item.result.row ≤ℤ c.first-item.result.row = let h = simp to_z-of_z at c.if-first-second.false in grind (arith, ints) in
    cancelling_skip _ _ c.loop-rest.rest.now _ c.first-item.result c.second-item.result c.loop-rest.invariant
    (end_front _ _ _ _ _ c.in-len2-up.len_at_least c.first-item.is c.second-item.is) past

pub returns : goal.returns
returns c = cancelling_all _ _ c.loop-rest.rest.now c.loop-rest.invariant (let h = c.in_default.len_below in omega arith)
