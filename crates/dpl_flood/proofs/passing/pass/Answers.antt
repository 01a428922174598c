use Rattle.std.proofs.Common.{arith}
use Rattle.dpl_flood.proofs.ClockLemmas.{value_early}
use Rattle.dpl_flood.proofs.passing.pass.Goals as goal

pub pass_all-requires-clause-room : goal.pass_all-requires-clause-room
pass_all-requires-clause-room g c = λ i h e.
    let is = rw c.deref.ensures.value at e in
    omega (arith, value_early c.requires.state.0 c.args.state.now c.requires.state.1 i is, c.requires.early, c.requires.later)
