use Rattle.std.proofs.Common.{sym, subst}
use Rattle.dpl_run.specs.Answer.{DueOf}
use Rattle.dpl_run.specs.Telling.{IsWorked}
use Rattle.dpl_run.proofs.commands.carry_out.Goals as goal

pub returns-in-Load : goal.returns-in-Load
returns-in-Load c =
    subst (λ z. IsWorked (DueOf z c.args.text.now c.args.second.now) c.load_made.result.status
    c.load_made.result.output.items) (sym c.in-Load.is) c.load_made.ensures
