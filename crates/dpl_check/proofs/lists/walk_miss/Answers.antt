use Rattle.std.proofs.Common.{◌∙◌, sym}
use Rattle.dpl_good.proofs.WalkLaws.{walk_is_odd}
use Rattle.dpl_parse.specs.Read.{cycle_of}
use Rattle.dpl_check.proofs.lists.walk_miss.Goals as goal

pub returns-clause-odd : goal.returns-clause-odd
returns-clause-odd c =
    let law = walk_is_odd c.args.graph.now c.args.cycle (cycle_of c.args.walk).walk in
    (λ e. law.0 (sym c.first_walk_miss.ensures ∙ e), λ o. c.first_walk_miss.ensures ∙ law.1 o)
