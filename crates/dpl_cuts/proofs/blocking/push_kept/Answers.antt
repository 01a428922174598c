use Rattle.std.proofs.Common.{get_or, map}
use Rattle.std.proofs.lemmas.List.{get_or_default}
use Rattle.dpl_cell.specs.Places.{corners_of}
use Rattle.dpl_cuts.proofs.BlockLemmas.{kept_none, kept_more, kept_all, rect_is}
use Rattle.dpl_cuts.proofs.blocking.push_kept.Goals as goal

pub loop-k-init : goal.loop-k-init
loop-k-init c = kept_none _ _ _

pub loop-k-preserved : goal.loop-k-preserved
loop-k-preserved c =
    let k = get_or c.args.kept.now c.loop-k.k-index 0 in
    kept_more (map corners_of c.args.keep.now) (corners_of c.args.tile.now) (corners_of c.index-keep-k.result)
    c.args.kept.now c.loop-k.k-index k _ _ _ c.share_of.result c.loop-k-test.true
    (get_or_default c.args.kept.now c.loop-k.k-index 0 k c.loop-k-test.true)
    (rect_is c.args.keep.now k c.index-keep-k.result (c.requires c.loop-k.k-index 0 c.loop-k-test.true) c.index-keep-k.is)
    c.share_of.ensures c.loop-k.invariant c.in_ok-push_some.ensures

pub returns : goal.returns
returns c = kept_all _ _ _ c.loop-k.k-index _ _ c.loop-k-test.false c.loop-k.invariant
