use Rattle.std.proofs.Common.{◌≡◌, length}
use Rattle.dpl_lex.specs.Classes.{is_separator, drop_while}
use Rattle.dpl_lex.proofs.classes.skip_separators.Given as goal

abbrev pub invariant-separators : goal.invariant-separators
invariant-separators l = drop_while is_separator l.rest ≡ drop_while is_separator l.bytes

abbrev pub decreases-separators : goal.decreases-separators
decreases-separators l = length l.rest
