use Rattle.std.proofs.Common.{false, slice_index_or, sym, subst}
use Rattle.dpl_refine.specs.Refined.{IsCheaperOrSameAround}
use Rattle.dpl_refine.proofs.PieceLemmas.{colouring_turned}
use Rattle.dpl_refine.proofs.AroundLemmas.{none_around}
use Rattle.dpl_refine.proofs.refining.begun.Goals as goal

pub cheaper_around-requires-clause-tried : goal.cheaper_around-requires-clause-tried
cheaper_around-requires-clause-tried c = rw c.as_slice-3.ensures.value (colouring_turned c.args.graph.now c.args.piece.now c.args.count
    c.requires.pieces (λ p. slice_index_or c.as_slice-2.result.now p false) c.args.colours.now c.in_ok-found.found.items
    c.requires.colouring c.in_ok-found.ensures.long c.in_ok-found.ensures.each)

pub returns-clause-around : goal.returns-clause-around
returns-clause-around c = subst (IsCheaperOrSameAround c.args.graph.now c.args.colours.now) (sym c.in_ok-same.ensures.items)
    (none_around c.args.graph.now c.args.colours.now)
