use Rattle.dpl_flood.proofs.ShiftLemmas.{left_over}
use Rattle.dpl_flood.proofs.shores.leave.Goals as goal

pub returns-clause-left : goal.returns-clause-left
returns-clause-left c = (left_over c.requires.state.0 c.args.state.now c.args.set c.in-Some.face c.in-Some.ensures.0 c.pop.new.self c.requires.state.1
    c.requires.set c.requires.drops c.in-Some.ensures.1.0 c.in-Some.ensures.1.1).1

pub returns-clause-state : goal.returns-clause-state
returns-clause-state c = λ d st. (left_over d c.args.state.now c.args.set c.in-Some.face c.in-Some.ensures.0 c.pop.new.self st
    c.requires.set c.requires.drops c.in-Some.ensures.1.0 c.in-Some.ensures.1.1).0
