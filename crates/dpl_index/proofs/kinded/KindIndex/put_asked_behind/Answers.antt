use Rattle.std.proofs.Common.{rules, ◌≤◌, length}
use Rattle.dpl_index.proofs.KindLemmas.{asked_behind}
use Rattle.dpl_index.proofs.kinded.KindIndex.put_asked_behind.Goals as goal

pub returns : goal.returns
returns c =
    let few : length c.gather_asked.new.found.items ≤ 18446744073709551615 = search rules in
    rw (← c.self.view_is) (asked_behind _ _ _ c.args.place _
    (rw (c.as_slice-bounds.ensures.value, c.as_slice-kinds.ensures.value, c.as_slice-stops.ensures.value) at (c.in_ok-gather_asked.ensures.all few)))
