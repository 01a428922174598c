use Rattle.std.proofs.Common.{◌≡◌, length}
use Rattle.std.proofs.lemmas.Result.{IfOk-weaker}
use Rattle.dpl_list.specs.Rows.{rows_by}
use Rattle.dpl_euler.specs.Searches.{AreRows}
use Rattle.dpl_euler.specs.Rows.{AreListed}
use Rattle.dpl_euler.proofs.RowLemmas.{rows_whole}
use Rattle.dpl_euler.proofs.rows.rows_of.Goals as goal

pub returns : goal.returns
returns c =
    let g = c.args.graph.now in
    let set = c.args.set.now in
    let listed : AreListed g set (length g.edges) c.deref.result.now c.deref-2.result.now =
    rw (c.deref.ensures.value, c.deref-2.ensures.value) c.in_ok-add_all.ensures in
    IfOk-weaker c.by_key.result (λ v. v ≡ rows_by c.deref.result.now c.deref-2.result.now g.nodes) (λ v. AreRows g set v)
    (λ v e. rows_whole g set c.deref.result.now c.deref-2.result.now v e listed) c.by_key.ensures
