use Rattle.dpl_sign.specs.Colourings.{IsColouring, cost_of}
use Rattle.dpl_refine.specs.Refined.{IsCheaperOrSame, IsCheaperOrSameAround}
use Rattle.dpl_refine.proofs.refining.settle.Given as goal

abbrev pub invariant-turns : goal.invariant-turns
invariant-turns l = IsColouring l.graph l.best.items × (IsCheaperOrSame l.graph l.fn.colours.items l.best.items
    × IsCheaperOrSameAround l.graph l.fn.colours.items l.best.items)

abbrev pub decreases-turns : goal.decreases-turns
decreases-turns l = cost_of l.graph l.best.items
