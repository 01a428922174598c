use Rattle.dpl_refine.specs.Gains.{piece_at}
use Rattle.dpl_refine.proofs.TurnLemmas.{turned_cost}
use Rattle.dpl_refine.proofs.PieceLemmas.{turned_ends}
use Rattle.dpl_refine.proofs.laws.turns_cost.Goals as goal

pub returns : goal.returns
returns c = λ count' a. turned_cost c.args.piece.now (piece_at c.args.piece.now c.args.node) c.args.old.now c.args.new.now
    c.args.graph.now.edges (turned_ends c.args.graph.now c.args.piece.now count' a c.args.node c.args.old.now c.args.new.now
    c.requires.node c.requires.turned)
