use Rattle.std.proofs.Common.{inl, inr}
use Rattle.dpl_index.proofs.MeetingLemmas.{not_met}
use Rattle.dpl_index.proofs.kinded.may_hold.Goals as goal

pub returns-else-do_meet : goal.returns-else-do_meet
returns-else-do_meet c e = inl (not_met _ _ _ c.if-do_meet.false c.do_meet.ensures.1)

pub returns-then-is_of : goal.returns-then-is_of
returns-then-is_of c e = inr (c.is_of.ensures.0 c.if-is_of.true, not_met _ _ _ e c.do_meet-then-is_of.ensures.1)
