use Rattle.dpl_flood.specs.Holdings.{stack_of}
use Rattle.dpl_flood.specs.States.{AreKeyedFor, StacksOf, sea_of}
use Rattle.dpl_flood.proofs.looks.look_stacks.Given as goal

abbrev pub invariant-loop-i : goal.invariant-loop-i
invariant-loop-i l = AreKeyedFor l.dual (sea_of l.state) (StacksOf (sea_of l.state) (stack_of l.state.held) l.top l.members l.i) l.fn.queue l.queue
