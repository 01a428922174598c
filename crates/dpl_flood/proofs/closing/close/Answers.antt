use Rattle.dpl_flood.proofs.FlowLemmas.{same_keys}
use Rattle.dpl_flood.proofs.CloseLemmas.{through_same, through_nearer}
use Rattle.dpl_flood.proofs.closing.close.Goals as goal

pub tie_through-requires-clause-sides : goal.tie_through-requires-clause-sides
tie_through-requires-clause-sides g c = c.sides_of-sides.ensures c.args.dual.now c.requires.forest

pub fold-requires-clause-tied : goal.fold-requires-clause-tied
fold-requires-clause-tied g c = c.in_ok-tie_through.ensures.tied

pub fold-requires-clause-same : goal.fold-requires-clause-same
fold-requires-clause-same g c = through_same c.args.dual.now c.args.state.now c.tie_through.new.state c.args.single c.sides_of-sides.result
    (c.sides_of-sides.ensures c.args.dual.now c.requires.forest) c.in_ok-tie_through.ensures

pub fold-requires-clause-keys : goal.fold-requires-clause-keys
fold-requires-clause-keys g c = same_keys c.args.dual.now c.args.state.now c.tie_through.new.state c.args.queue.now c.in_ok-tie_through.ensures.sea c.requires.keys

pub returns-clause-nearer : goal.returns-clause-nearer
returns-clause-nearer g c = through_nearer c.args.dual.now c.args.state.now c.tie_through.new.state c.fold.new.state c.sides_of-sides.result
    c.in_ok-tie_through.ensures c.in_ok-fold.ensures.nearer
