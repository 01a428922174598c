use Rattle.std.proofs.Common.{suc}
use Rattle.dpl_parse.proofs.StandingLemmas.{no_negative, no_negative_zero}
use Rattle.dpl_parse.proofs.standing.negative_at.Goals as goal

pub returns-then-number-eq0 : goal.returns-then-number-eq0
returns-then-number-eq0 c = no_negative_zero c.in-Some.number c.in-Some.rest.now c.args.digits.now c.if-number-eq0.true c.in-Some.ensures

pub returns-in-None : goal.returns-in-None
returns-in-None c = no_negative c.args.digits.now (λ n rest a. c.in-None.ensures (suc n) rest a)
