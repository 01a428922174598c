use Rattle.std.proofs.Common.{rules}
use Rattle.std.proofs.lemmas.List.Sorted.{IsNonDecreasingBy-from_sort_by_key}
use Rattle.dpl_pack.proofs.RankLemmas.{ranked_from}
use Rattle.dpl_pack.proofs.ranks.rank.Goals as goal

pub returns : goal.returns
returns c = ranked_from c.args.faces.now c.args.depths.now _ _ c.in_ok-list.ensures c.sort_unstable_by_key.ensures.permutation
    (IsNonDecreasingBy-from_sort_by_key (λ e. e.0) _ c.sort_unstable_by_key.ensures.sorted (λ a r q k. search rules))
