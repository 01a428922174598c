use Rattle.std.proofs.lemmas.List.Filters.{dedup_is}
use Rattle.dpl_near.proofs.JoinLemmas.{first_once, kept_once}
use Rattle.dpl_near.proofs.joining.put_in_order.Goals as goal

pub returns-clause-ordered : goal.returns-clause-ordered
returns-clause-ordered c = let is = dedup_is _ _ _ c.dedup.ensures.filtered in rw is (first_once _ c.sort_unstable.ensures.sorted)

pub returns-clause-same : goal.returns-clause-same
returns-clause-same c p = let is = dedup_is _ _ _ c.dedup.ensures.filtered in rw is (kept_once _ _ c.sort_unstable.ensures.permutation p)
