use Rattle.std.proofs.Common.{arith, rules, ◌≤◌, ◌^◌, length}
use Rattle.dpl_cover.proofs.CoverLemmas.{few_permuted, none_passed, first_low, first_high}
use Rattle.dpl_cover.proofs.cover.Cover.new.Goals as goal

pub returns-clause-cover : goal.returns-clause-cover
returns-clause-cover c =
    let few : length c.in_ok-begins.begins.items ≤ 2 ^ 40 =
    few_permuted _ _ (2 ^ 40) c.in_ok-begins.ensures.same (let t = c.if-boxes-gt-MOST_BOXES.false in omega (arith, t)) in
    record {
      few = few;
      same = rw c.as_slice.ensures.value at c.in_ok-ends.ensures.same;
      rising = c.in_ok-begins.ensures.order;
      closing = c.in_ok-ends.ensures.order;
      columns = rw c.as_slice-2.ensures.value at c.in_ok-columns.ensures;
      begun = none_passed (λ r. r.y1) _ _ first_low;
      closed = none_passed (λ r. r.y2) _ _ first_high;
      counted = c.in_ok-each.ensures c.in_ok-columns.columns.items (search rules);
    }
