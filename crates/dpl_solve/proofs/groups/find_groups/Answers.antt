use Rattle.std.proofs.Common.{arith, ap, ◌∙◌, ◌≡◌, length, List, ℕ}
use Rattle.std.proofs.lemmas.Result.{IfOk-weaker}
use Rattle.dpl_list.specs.Rows.{rows_by}
use Rattle.dpl_solve.specs.Groups.{AreGroups}
use Rattle.dpl_solve.proofs.GroupLemmas.{keyed_all}
use Rattle.dpl_solve.proofs.groups.find_groups.Goals as goal

pub returns : goal.returns
returns c =
    let d = c.args.dual.now in
    let same : c.as_slice-odd.result.now ≡ d.odd = c.as_slice-odd.ensures in
    IfOk-weaker c.by_key.result (λ v. v ≡ rows_by c.deref.result.now c.as_slice-odd.result.now c.loop-i.count) (λ v. AreGroups d v)
    (λ v e. keyed_all d c.loop-i.i c.loop-i.count c.loop-i.groups.items c.loop-i.places.items v
    (omega (arith, c.loop-i-test.false, ap (λ (z : List ℕ). length z) same))
    (e ∙ ap (λ (z : List ℕ). rows_by z c.as_slice-odd.result.now c.loop-i.count) c.deref.ensures.value ∙
    ap (λ (z : List ℕ). rows_by c.loop-i.groups.items z c.loop-i.count) same) c.loop-i.invariant) c.by_key.ensures
