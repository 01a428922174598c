use Rattle.std.proofs.Common.{◌≤◌, length, List, ℕ, subst, sym}
use Rattle.dpl_gen.proofs.LengthLemmas.{layout_short}
use Rattle.dpl_gen.proofs.making.layout.Goals as goal

pub returns-clause-short : goal.returns-clause-short
returns-clause-short c =
    let rows : c.from.result ≤ 200 = rw c.from.ensures c.requires.rows.1 in
    let columns : c.from-2.result ≤ 200 = rw c.from-2.ensures c.requires.columns.1 in
    subst (λ (xs : List ℕ). length xs ≤ 2000000) (sym c.in_ok-text.ensures) (layout_short c.args.start c.from.result c.from-2.result rows columns)
