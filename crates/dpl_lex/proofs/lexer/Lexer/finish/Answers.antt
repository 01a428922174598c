use Rattle.std.proofs.Common.{length}
use Rattle.dpl_lex.proofs.CuttingLemmas.{passed_whole}
use Rattle.dpl_lex.proofs.lexer.Lexer.finish.Goals as goal

pub returns-clause-commands : goal.returns-clause-commands
returns-clause-commands c =
    rw (c.commands_at.ensures, ← c.self.view_is)
    (passed_whole c.self.inside.spans.items c.self.inside.place (length c.self.inside.text.items) c.self.inside.text.items c.self.invariant.2)
