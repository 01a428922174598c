use Rattle.std.proofs.Common.{arith, rules, pos, w64, SFits, get_or}
use Rattle.std.proofs.lemmas.Int.{ints, to_z-of_z}
use Rattle.dpl_tiles.proofs.PairLemmas.{pairing_more, pairing_skip, pair_front}
use Rattle.dpl_tiles.proofs.crossing.push_pairs.Goals as goal

pub loop-rest-preserved-in_ok-push : goal.loop-rest-preserved-in_ok-push
loop-rest-preserved-in_ok-push c =
    let f : SFits w64 (get_or c.loop-rest.rest.now 0 (pos 0)) = search rules in
    let g : SFits w64 (get_or c.loop-rest.rest.now 1 (pos 0)) = search rules in
    pairing_more _ _ _ _ _ _ (get_or c.loop-rest.rest.now 0 (pos 0)) (get_or c.loop-rest.rest.now 1 (pos 0))
    c.new.result c.loop-rest.invariant (pair_front _ c.in-len2-up.len_at_least) c.in_ok-push.ensures.items
    (simp to_z-of_z at c.new.ensures.from) (simp to_z-of_z at c.new.ensures.to)

pub loop-rest-preserved : goal.loop-rest-preserved
loop-rest-preserved c = pairing_skip _ _ _ _ _ (get_or c.loop-rest.rest.now 0 (pos 0))
    (get_or c.loop-rest.rest.now 1 (pos 0)) c.loop-rest.invariant (pair_front _ c.in-len2-up.len_at_least)
    (let h = c.if-from-to.false in grind (arith, ints))
