use Rattle.std.proofs.Common.{◌≡◌, ◌+◌, length}
use Rattle.dpl_layout_tests.proofs.lex.fed_in.Given as goal

abbrev pub invariant-pieces : goal.invariant-pieces
invariant-pieces l = length l.lexer + length l.rest ≡ length l.text

abbrev pub decreases-pieces : goal.decreases-pieces
decreases-pieces l = length l.rest
