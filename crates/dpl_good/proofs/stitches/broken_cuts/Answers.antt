use Rattle.std.proofs.Common.{arith, ◌<◌, length, map}
use Rattle.dpl_report.specs.Plain.{plain_zone}
use Rattle.dpl_good.specs.Conditions.{cuts_from}
use Rattle.dpl_good.proofs.ZoneLemmas.{one_edge}
use Rattle.dpl_good.proofs.stitches.broken_cuts.Goals as goal

pub loop-edge-preserved : goal.loop-edge-preserved
loop-edge-preserved c =
    let l : c.loop-edge.edge-index < length c.args.edges.now = omega arith in
    record {
      found = one_edge (map plain_zone c.loop-edge.found.items) (map plain_zone c.push_here.new.found.items)
          c.args.colours.now c.loop-edge.e c.loop-edge.edge-index c.args.edges.now c.edge-item.result
          c.loop-edge.left.now c.cuts_after-left.result.now
          (cuts_from c.args.colours.now 0 c.args.edges.now c.args.cuts.now) l c.edge-item.is c.in_ok-push_here.ensures
          c.cuts_after-left.ensures c.loop-edge.invariant.found;
      number = omega arith;
    }
