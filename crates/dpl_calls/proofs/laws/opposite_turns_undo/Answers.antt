use Rattle.dpl_calls.proofs.TurnLaws.{opposite}
use Rattle.dpl_calls.proofs.laws.opposite_turns_undo.Goals as goal

pub returns : goal.returns
returns c p = rw (c.requires.x, c.requires.y) (opposite c.args.to.now.x c.args.to.now.y p)
