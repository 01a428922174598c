use Rattle.std.proofs.Common.{◌∙◌, sym}
use Rattle.dpl_good.proofs.ListLaws.{clash_lines_are, clashes_told}
use Rattle.dpl_check.proofs.FirstLaws.{lists_first}
use Rattle.dpl_good.specs.Conditions.{ends_miss}
use Rattle.dpl_check.proofs.compare.clash_lines_miss.Goals as goal

pub returns-clause-none : goal.returns-clause-none
returns-clause-none c =
    let law = clash_lines_are c.args.found c.args.wanted.now in
    (λ e. law.0 (sym c.in_ok-miss.ensures ∙ e), λ e. c.in_ok-miss.ensures ∙ law.1 e)

pub returns-clause-first : goal.returns-clause-first
returns-clause-first c = λ m e. lists_first (λ b. b.edge) ends_miss clashes_told c.args.found c.args.wanted.now m (sym c.in_ok-miss.ensures ∙ e)
