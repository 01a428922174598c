use Rattle.dpl_pack.specs.Spots.{near_one}
use Rattle.dpl_pack.proofs.SpotLemmas.{more_of, all_of}
use Rattle.dpl_pack.proofs.spots.add_row.Goals as goal

pub loop-i-preserved : goal.loop-i-preserved
loop-i-preserved c = more_of (near_one c.args.value c.args.end) c.args.row.now c.loop-i.i (0, 0) c.args.near.now.items _ _
    c.loop-i-test.true c.loop-i.invariant c.in_ok-add_one.ensures

pub returns : goal.returns
returns c = all_of (near_one c.args.value c.args.end) c.args.row.now c.loop-i.i c.args.near.now.items _ c.loop-i-test.false c.loop-i.invariant
