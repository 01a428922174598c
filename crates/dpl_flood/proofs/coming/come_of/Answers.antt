use Rattle.std.proofs.Common.{arith}
use Rattle.dpl_flood.proofs.ComeLemmas.{come_down}
use Rattle.dpl_flood.proofs.coming.come_of.Goals as goal

pub returns-in-Some : goal.returns-in-Some
returns-in-Some c = λ d st. come_down d c.args.state.now c.args.set c.in-Some.field-0 c.in-Some.ensures.0 st c.requires.set
    (omega (arith, c.if-state-fall.false, c.fall.ensures)) c.in-Some.ensures.1
