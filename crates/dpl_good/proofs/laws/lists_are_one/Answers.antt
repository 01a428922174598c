use Rattle.dpl_sign.specs.declared.edges.Kind.TheVariants.{Stitch, Clash}
use Rattle.dpl_good.proofs.FactLemmas.{same_lines, same_names}
use Rattle.dpl_good.proofs.LetterLemmas.{one_list, all_aside}
use Rattle.dpl_good.proofs.laws.lists_are_one.Goals as goal

pub returns-clause-lines : goal.returns-clause-lines
returns-clause-lines c g colours kind x y p q e = same_names g colours kind x y p q e

pub returns-clause-clashes : goal.returns-clause-clashes
returns-clause-clashes c g colours xs ys a b = same_lines g colours Clash xs ys a b

pub returns-clause-stitches : goal.returns-clause-stitches
returns-clause-stitches c g colours xs ys a b = one_list g colours Stitch (λ z. z.at) xs ys a b

pub returns-clause-aside : goal.returns-clause-aside
returns-clause-aside c = all_aside
