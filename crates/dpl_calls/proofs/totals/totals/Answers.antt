use Rattle.std.proofs.Common.{◌≡◌, ◌∙◌, ℕ, List, [], map, sum_by, length, ap, arith, get_or, set}
use Rattle.std.proofs.lemmas.List.{length-set}
use Rattle.indexmap.specs.IndexMap.{keys, values}
use Rattle.dpl_calls.specs.declared.entry.Entry.{Entry}
use Rattle.dpl_calls.specs.Parts.{Part}
use Rattle.dpl_calls.specs.Totals.{shown}
use Rattle.dpl_calls.specs.Table.{entry_part}
use Rattle.dpl_calls.specs.Places.{body_at}
use Rattle.dpl_calls.specs.Counted.{own_of, kept_of, kept_total}
use Rattle.dpl_calls.proofs.Stable.{step_right}
use Rattle.dpl_calls.proofs.totals.totals.Goals as goal

pub loop-head-preserved : goal.loop-head-preserved
loop-head-preserved c =
    let own : Part → ℕ = own_of c.args.count in
    let numbers : List ℕ = keys c.args.table.now.definitions in
    let heads : c.as_slice-head-items.result.now ≡ c.args.groups.now.heads = c.as_slice-head-items.ensures in
    let long : length c.as_slice-head-items.result.now ≡ length c.args.groups.now.heads = ap (λ (xs : List ℕ). length xs) heads in
    let head : ℕ = get_or c.args.groups.now.heads c.loop-head.head-index 0 in
    let same : get_or c.as_slice-head-items.result.now c.loop-head.head-index 0 ≡ head = ap (λ (xs : List ℕ). get_or xs c.loop-head.head-index 0) heads in
    let body : map entry_part c.body_at.result.now ≡ body_at c.args.table.now head =
    ap (λ (es : List Entry). map entry_part es) (c.body_at.ensures ∙ ap (λ (n : ℕ). get_or (values c.args.table.now.definitions) n []) same) in
    let value : c.entries_total.result ≡ shown (sum_by (kept_total own (kept_of numbers c.loop-head.totals.items)) (body_at c.args.table.now head)) =
    c.entries_total.ensures.value
    ∙ (ap (λ (ts : List ℕ). shown (sum_by (kept_total own (kept_of numbers ts)) (map entry_part c.body_at.result.now))) c.deref.ensures.value
    ∙ ap (λ (ps : List Part). shown (sum_by (kept_total own (kept_of numbers c.loop-head.totals.items)) ps)) body) in record {
      right = step_right own c.args.table.now c.args.groups.now.labels c.args.groups.now.heads c.requires.groups
          c.requires.loops c.loop-head.head-index c.entries_total.result c.loop-head.totals.items _
          (omega (arith, long, c.loop-head-test.true)) c.loop-head.invariant.len
          (ap (λ (n : ℕ). set c.loop-head.totals.items n c.entries_total.result) same) value c.loop-head.invariant.right;
      len = length-set c.loop-head.totals.items (get_or c.as_slice-head-items.result.now c.loop-head.head-index 0)
          c.entries_total.result ∙ c.loop-head.invariant.len;
    }
