use Rattle.std.proofs.Common.{◌≡◌, ◌∙◌, ◌+◌, suc, ℕ, List, None, map, sum_by, length, ap, arith}
use Rattle.indexmap.specs.IndexMap.{keys}
use Rattle.dpl_calls.specs.declared.entry.Entry.{Entry}
use Rattle.dpl_calls.specs.Parts.{Part}
use Rattle.dpl_calls.specs.Totals.{total_of, shown}
use Rattle.dpl_calls.specs.Table.{entry_part, bodies_of}
use Rattle.dpl_calls.specs.Counted.{own_of, kept_of, kept_total}
use Rattle.dpl_calls.proofs.Stable.{top_right}
use Rattle.dpl_calls.proofs.totals.total.Goals as goal

pub returns : goal.returns
returns c =
    let own : Part → ℕ = own_of c.args.count in
    let numbers : List ℕ = keys c.args.table.now.definitions in
    let count : ℕ = length c.args.table.now.definitions.entries in
    let top : map entry_part c.as_slice.result.now ≡ bodies_of c.args.table.now None = ap (λ (es : List Entry). map entry_part es) c.as_slice.ensures.value in
    let value : c.entries_total.result ≡ shown (sum_by (kept_total own (kept_of numbers c.in_ok-totals.totals.items)) (bodies_of c.args.table.now None)) =
    c.entries_total.ensures.value
    ∙ (ap (λ (ts : List ℕ). shown (sum_by (kept_total own (kept_of numbers ts)) (map entry_part c.as_slice.result.now))) c.deref.ensures.value
    ∙ ap (λ (ps : List Part). shown (sum_by (kept_total own (kept_of numbers c.in_ok-totals.totals.items)) ps)) top) in
    let deep : suc count ≡ count + 1 = omega arith in
    (value
    ∙ top_right own c.args.table.now c.args.groups.now.labels c.args.groups.now.heads c.requires.groups c.requires.loops
    c.in_ok-totals.totals.items (bodies_of c.args.table.now None) (λ x h low. c.in_ok-totals.ensures.value x h))
    ∙ ap (λ (n : ℕ). shown (total_of own n (bodies_of c.args.table.now) (bodies_of c.args.table.now None))) deep
