use Rattle.std.proofs.Common.{◌==◌, pos, unsigned_abs}
use Rattle.std.specs.Prelude.{int_lt}
use Rattle.dpl_calls.proofs.TurnLaws.{directed, sense_kept}
use Rattle.dpl_calls.proofs.laws.turns_follow_their_direction.Goals as goal

pub returns-clause-direction : goal.returns-clause-direction
returns-clause-direction c = directed c.args.to.now.x c.args.to.now.y c.requires

pub returns-clause-sense : goal.returns-clause-sense
returns-clause-sense c = sense_kept (unsigned_abs c.args.to.now.y == 0) (int_lt c.args.to.now.x (pos 0)) (int_lt c.args.to.now.y (pos 0))
