use Rattle.std.proofs.Common.{eqb, sym, ◌∙◌}
use Rattle.std.proofs.lemmas.List.Filters.{dedup_is}
use Rattle.std.proofs.lemmas.List.Sorted.{list_any-IsPermutation}
use Rattle.std.proofs.lemmas.Map.Keys.{IsStrictlyIncreasing-dedup}
use Rattle.dpl_laminar.proofs.Rows.{has_deduped}
use Rattle.dpl_laminar.proofs.members.Members.union.Goals as goal

pub returns-clause-rising : goal.returns-clause-rising
returns-clause-rising c =
    let is = dedup_is _ _ _ c.dedup.ensures.filtered in
    rw is (IsStrictlyIncreasing-dedup _ c.sort_unstable.ensures.sorted)

pub returns-clause-held : goal.returns-clause-held
returns-clause-held c = λ m.
    let is = dedup_is _ _ _ c.dedup.ensures.filtered in
    let moved = list_any-IsPermutation (λ y. eqb y m) _ _ c.sort_unstable.ensures.permutation in
    rw is (has_deduped _ m ∙ sym moved ∙ c.in_ok-held.ensures m)
