use Rattle.std.proofs.Common.{arith, ap, ◌∙◌, Bool, List, length, map}
use Rattle.dpl_sign.specs.Colourings.{cost_of}
use Rattle.dpl_sign.specs.Packings.{bound_of}
use Rattle.dpl_sum.specs.Laying.{solved_part}
use Rattle.dpl_sum.proofs.SolutionLemmas.{solution_sum, restated, bound_low}
use Rattle.dpl_sum.proofs.combining.combine.Goals as goal

pub cost-cost-requires : goal.cost-cost-requires
cost-cost-requires c = ap (λ (xs : List Bool). length xs) c.as_slice.ensures.value ∙ c.in_ok-colours.ensures.long

pub total-bound-requires : goal.total-bound-requires
total-bound-requires c =
    let e = ap bound_of (c.as_slice-2.ensures.value ∙ c.in_ok-cycles.ensures) in
    let b = bound_low c.args.net.now (map solved_part c.args.parts.now) c.requires.share c.requires.solved in
    omega (arith, e, b)

pub returns : goal.returns
returns c =
    let s = solution_sum c.args.net.now (map solved_part c.args.parts.now) c.requires.share c.requires.solved
    c.in_ok-colours.colours.items c.in_ok-colours.ensures.long c.in_ok-colours.ensures.agree in
    restated c.args.net.now c.in_ok-colours.colours.items _ c.cost-cost.result _ c.new.result _
    c.in_ok-drawing.drawing.excess _ c.new-2.result _ c.total-bound.result s
    (c.cost-cost.ensures ∙ ap (cost_of c.args.net.now.graph) c.as_slice.ensures.value)
    (c.new.ensures ∙ c.in_ok-drawing.ensures.aside)
    c.in_ok-drawing.ensures.excess
    (c.new-2.ensures ∙ c.in_ok-cycles.ensures)
    (c.total-bound.ensures ∙ ap bound_of (c.as_slice-2.ensures.value ∙ c.in_ok-cycles.ensures))
