use Rattle.std.proofs.Common.{◌≡◌, ◌<◌, ◌≤◌, ◌*◌, ◌+◌, length}
use Rattle.dpl_lex.specs.Classes.{is_digit, drop_while}
use Rattle.dpl_lex.specs.Number.{digits_value, greatest}
use Rattle.dpl_lex.proofs.number.digits.Given as goal

abbrev pub invariant-digits : goal.invariant-digits
invariant-digits l =
    record {
      rest : drop_while is_digit l.rest ≡ drop_while is_digit l.bytes;
      same : l.value ≤ greatest → digits_value l.value l.rest ≡ digits_value 0 l.bytes;
      beyond : greatest < l.value → greatest < digits_value 0 l.bytes;
      small : l.value ≤ 10 * greatest + 9;
    }

abbrev pub decreases-digits : goal.decreases-digits
decreases-digits l = length l.rest
