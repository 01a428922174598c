use Rattle.std.proofs.Common.{arith, ◌≤◌, [], subst, sym, ◌∙◌}
use Rattle.dpl_sign.specs.Packings.{IsPacking}
use Rattle.std.proofs.lemmas.List.Elements.{All-nil}
use Rattle.dpl_sign.specs.Walks.{IsOddWalk}
use Rattle.dpl_bound.proofs.tests.no_cycles.Goals as goal

pub returns : goal.returns
returns c =
    let none : IsPacking c.args.graph.now [] = record {
      halves = All-nil (λ d. 1 ≤ d.half);
      odd = All-nil (λ d. IsOddWalk c.args.graph.now d.walk);
      within = λ e k f. omega arith;
    } in
    subst (λ z. IsPacking c.args.graph.now z) (sym (c.new-2.ensures ∙ c.new.ensures.items)) none
