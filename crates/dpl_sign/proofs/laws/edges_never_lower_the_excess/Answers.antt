use Rattle.dpl_sign.specs.Drawings.{is_in}
use Rattle.dpl_sign.specs.Excess.{with_edge}
use Rattle.dpl_sign.proofs.ExcessLemmas.{excess_effect, one_more}
use Rattle.dpl_sign.proofs.laws.edges_never_lower_the_excess.Goals as goal

pub returns-clause-joins : goal.returns-clause-joins
returns-clause-joins c = (excess_effect c.args.net.now (is_in c.args.set.now)
    (with_edge (is_in c.args.set.now) c.args.edge) c.args.edge
    (one_more c.args.net.now (is_in c.args.set.now) c.args.edge c.requires.edge c.requires.new)).joins

pub returns-clause-splits : goal.returns-clause-splits
returns-clause-splits c = (excess_effect c.args.net.now (is_in c.args.set.now)
    (with_edge (is_in c.args.set.now) c.args.edge) c.args.edge
    (one_more c.args.net.now (is_in c.args.set.now) c.args.edge c.requires.edge c.requires.new)).splits

pub returns-clause-crosses : goal.returns-clause-crosses
returns-clause-crosses c = (excess_effect c.args.net.now (is_in c.args.set.now)
    (with_edge (is_in c.args.set.now) c.args.edge) c.args.edge
    (one_more c.args.net.now (is_in c.args.set.now) c.args.edge c.requires.edge c.requires.new)).crosses
