use Rattle.std.proofs.Common.{rules, ◌≤◌, length}
use Rattle.dpl_index.proofs.MeetingLemmas.{meeting_in_order}
use Rattle.dpl_index.proofs.index.Index.meeting.Goals as goal

pub returns : goal.returns
returns c =
    let few : length c.in_ok-found.found.items ≤ 18446744073709551615 = search rules in
    rw (← c.self.view_is) (meeting_in_order _ _ _ _ (rw c.as_slice-bounds.ensures.value at (c.in_ok-found.ensures few))
    c.put_in_order.ensures.ordered c.put_in_order.ensures.same)
