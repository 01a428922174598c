use Rattle.std.proofs.Common.{arith, ap, subst, sym, ◌∙◌, ◌++◌}
use Rattle.dpl_sign.specs.Colourings.{cost_of}
use Rattle.dpl_sign.specs.Packings.{bound_of}
use Rattle.dpl_map.specs.Views.{view_of}
use Rattle.dpl_solve.specs.Solved.{IsSolution}
use Rattle.dpl_solve.proofs.FinishLemmas.{bound_small, solution}
use Rattle.dpl_solve.proofs.solving.tell.Goals as goal

pub total-bound-requires : goal.total-bound-requires
total-bound-requires c =
    omega (
      arith,
      ap bound_of c.deref-2.ensures.value,
      bound_small c.args.net.now.graph (view_of c.args.map.now) c.in_ok-colours.colours.items c.args.cycles.items
          c.requires.edges c.in_ok-colours.ensures.colouring c.requires.solution.packing c.requires.solution.kept,
    )

pub returns : goal.returns
returns c =
    subst (λ z. IsSolution c.args.net.now c.in_ok-colours.colours.items c.cost-cost.result c.new.result c.excess.result
    z c.total-bound.result) (sym c.new-2.ensures) (solution c.args.net.now c.args.map.now c.requires.map c.args.joined.now
    c.in_ok-colours.colours.items c.cost-cost.result c.new.result c.excess.result c.args.cycles.items
    c.total-bound.result c.requires.solution c.in_ok-colours.ensures.colouring c.in_ok-colours.ensures.broken
    (c.cost-cost.ensures ∙ ap (cost_of c.args.net.now.graph) c.deref.ensures.value)
    (c.new.ensures ∙ c.in_ok-extend_from_slice.ensures.items ∙
    ap (λ z. z ++ c.aside.result.now) c.new-aside.ensures.items ∙ c.aside.ensures) c.excess.ensures
    (c.total-bound.ensures ∙ ap bound_of c.deref-2.ensures.value))
