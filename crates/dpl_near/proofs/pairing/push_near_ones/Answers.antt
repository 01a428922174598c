use Rattle.std.proofs.Common.{◌<◌, length, map}
use Rattle.std.proofs.lemmas.List.{length-map}
use Rattle.dpl_cell.specs.Places.{corners_of}
use Rattle.dpl_near.proofs.PairLemmas.{with_none, with_more, with_all}
use Rattle.dpl_near.proofs.pairing.push_near_ones.Goals as goal

pub loop-j-init : goal.loop-j-init
loop-j-init c = with_none _ c.args.i c.args.found.now _ _ c.requires.pairs

pub loop-j-preserved : goal.loop-j-preserved
loop-j-preserved c =
    let within : c.args.i < length (map corners_of c.args.rects.now) = rw (length-map c.args.rects.now corners_of) c.requires.within in
    with_more _ c.args.i c.args.found.now c.loop-j.j-index _ _ _ _ _ _ within c.in_ok-push_if_near.ensures c.loop-j.invariant

pub returns : goal.returns
returns c = with_all _ c.args.i c.args.found.now c.loop-j.j-index _ _ _ _ c.loop-j-test.false c.loop-j.invariant
