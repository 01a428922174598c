use Rattle.std.proofs.Common.{rules, ◌≤◌, length}
use Rattle.dpl_index.proofs.KindLemmas.{asked_all}
use Rattle.dpl_index.proofs.kinded.KindIndex.few_asked.Goals as goal

pub returns : goal.returns
returns c =
    let few : length c.gather_asked.new.found.items ≤ c.args.most = search rules in
    rw (← c.self.view_is) (asked_all _ _ _ _ c.self.invariant.index
    (rw (c.as_slice-bounds.ensures.value, c.as_slice-kinds.ensures.value, c.as_slice-stops.ensures.value) at (c.in_ok-gather_asked.ensures.all few)))
