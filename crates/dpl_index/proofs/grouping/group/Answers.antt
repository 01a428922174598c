use Rattle.std.proofs.Common.{rules, ◌≡◌, length}
use Rattle.dpl_index.proofs.StopLemmas.{named_permuted}
use Rattle.dpl_index.proofs.grouping.group.Goals as goal

pub returns : goal.returns
returns c n names =
    let e : length c.sort_by_key.new.self.items ≡ length c.args.groups.now.items = search rules in
    named_permuted _ _ c.sort_by_key.ensures.permutation e n names
