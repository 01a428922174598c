use Rattle.std.proofs.Common.{◌≡◌, length}
use Rattle.dpl_lex.specs.Classes.{is_blank, drop_while}
use Rattle.dpl_lex.proofs.classes.skip_blanks.Given as goal

abbrev pub invariant-blanks : goal.invariant-blanks
invariant-blanks l = drop_while is_blank l.rest ≡ drop_while is_blank l.bytes

abbrev pub decreases-blanks : goal.decreases-blanks
decreases-blanks l = length l.rest
