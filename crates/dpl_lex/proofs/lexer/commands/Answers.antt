use Rattle.dpl_lex.proofs.CuttingLemmas.{passed_whole}
use Rattle.dpl_lex.proofs.lexer.commands.Goals as goal

pub returns : goal.returns
returns c =
    rw c.commands_at.ensures
    (passed_whole _ c.in_ok-place.place _ c.args.text.now
    (λ rest. rw c.new-spans.ensures.items at (c.in_ok-place.ensures.cut rest)))
