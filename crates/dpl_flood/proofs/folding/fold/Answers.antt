use Rattle.dpl_flood.proofs.FoldingLemmas.{folded_stands, folded_keys, forest_folded, folded_nearer}
use Rattle.dpl_flood.proofs.folding.fold.Goals as goal

pub fold_ring-requires-clause-tied : goal.fold_ring-requires-clause-tied
fold_ring-requires-clause-tied g c = (c.args.dual.now, c.requires.tied)

pub look_top-requires-clause-state : goal.look_top-requires-clause-state
look_top-requires-clause-state g c = folded_stands c.args.dual.now c.args.state.now c.fold_ring.new.state c.args.join c.in_ok-set.set c.requires.tied.forest c.in_ok-set.ensures.folded

pub returns-clause-forest : goal.returns-clause-forest
returns-clause-forest g c = forest_folded c.args.dual.now c.args.state.now c.fold_ring.new.state c.args.join c.in_ok-set.set c.requires.tied c.in_ok-set.ensures.folded

pub returns-clause-keys : goal.returns-clause-keys
returns-clause-keys g c = folded_keys c.args.dual.now c.args.state.now c.fold_ring.new.state c.args.join c.in_ok-set.set c.args.queue.now c.look_top.new.queue
    c.requires.tied.forest c.in_ok-set.ensures.folded c.look_top.ensures.keys c.requires.keys

pub returns-clause-nearer : goal.returns-clause-nearer
returns-clause-nearer g c = folded_nearer c.args.dual.now c.args.state.now c.fold_ring.new.state c.args.join c.in_ok-set.set c.requires.tied c.in_ok-set.ensures.folded
