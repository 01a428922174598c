use Rattle.dpl_flood.specs.Holdings.{stack_of}
use Rattle.dpl_flood.specs.States.{AreKeyedFor, StacksAmong, sea_of}
use Rattle.dpl_flood.proofs.thawing.look_stacks_among.Given as goal

abbrev pub invariant-loop-i : goal.invariant-loop-i
invariant-loop-i l = AreKeyedFor l.dual (sea_of l.state) (StacksAmong (sea_of l.state) (stack_of l.state.held) l.tops l.i) l.fn.queue l.queue
