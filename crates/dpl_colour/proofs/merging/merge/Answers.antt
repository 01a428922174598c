use Rattle.std.proofs.Common.{arith, get_or, false}
use Rattle.dpl_colour.specs.Merges.{painted}
use Rattle.dpl_colour.proofs.MergeLemmas.{differ_flip}
use Rattle.dpl_colour.proofs.ListedLemmas.{named_less, walked_more, merged_is}
use Rattle.dpl_colour.proofs.merging.merge.Goals as goal

pub nodes-smaller : goal.nodes-smaller
nodes-smaller c = named_less c.args.change.from c.args.change.to c.nodes.names c.nodes.node
    (omega (arith, c.nodes.invariant.inside, c.nodes.auto.names)) c.nodes-test.true c.requires.apart

pub nodes-preserved : goal.nodes-preserved
nodes-preserved c = walked_more c.args.change c.args.next.now (painted c.args.names.now c.args.colours.now) c.nodes.node
    (painted c.nodes.names c.nodes.colours) _ c.requires.apart c.requires.sizes c.nodes-test.true
    (differ_flip c.args.change.flip (get_or c.nodes.colours c.nodes.node false)) c.nodes.invariant

pub returns : goal.returns
returns c = merged_is c.args.change c.args.next.now (painted c.args.names.now c.args.colours.now) c.nodes.node
    (painted c.nodes.names c.nodes.colours) c.requires.apart c.nodes-test.false c.nodes.invariant
