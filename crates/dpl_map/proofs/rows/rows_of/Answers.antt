use Rattle.std.proofs.Common.{ap, ◌∙◌, ◌≡◌, ◌<◌, ℕ, List, [], length}
use Rattle.std.specs.Prelude.{slice_index_or}
use Rattle.std.proofs.lemmas.Result.{IfOk-weaker}
use Rattle.dpl_list.specs.Rows.{rows_by}
use Rattle.dpl_list.proofs.Grouping.{rows_by_length}
use Rattle.dpl_map.specs.Fields.{darts_below}
use Rattle.dpl_map.specs.Rows.{AreChosen}
use Rattle.dpl_map.proofs.RowLemmas.{row_by}
use Rattle.dpl_map.proofs.rows.rows_of.Goals as goal

pub returns-clause-length : goal.returns-clause-length
returns-clause-length c = IfOk-weaker c.by_key.result (λ v. v ≡ rows_by c.deref.result.now c.deref-2.result.now c.args.faces)
    (λ v. length v ≡ c.args.faces)
    (λ v e. ap (λ (z : List (List ℕ)). length z) e ∙ rows_by_length c.deref.result.now c.deref-2.result.now c.args.faces) c.by_key.ensures

pub returns-clause-each : goal.returns-clause-each
returns-clause-each c =
    let set = c.args.set.now in
    let numbers = c.args.numbers.now in
    let chosen : AreChosen set numbers (length numbers) c.deref.result.now c.deref-2.result.now =
    rw (c.deref.ensures.value, c.deref-2.ensures.value) c.in_ok-choose.ensures in
    IfOk-weaker c.by_key.result (λ v. v ≡ rows_by c.deref.result.now c.deref-2.result.now c.args.faces)
    (λ v. (f : ℕ) → f < c.args.faces → slice_index_or v f [] ≡ darts_below set numbers f (length numbers))
    (λ v e f h. row_by set numbers c.deref.result.now c.deref-2.result.now v c.args.faces f h e chosen) c.by_key.ensures
