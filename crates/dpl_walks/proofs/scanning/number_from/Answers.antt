use Rattle.std.proofs.Common.{◌≡◌, ◌-◌, true, ◌∷◌, arith, rules}
use Rattle.dpl_lex.specs.Classes.{is_digit}
use Rattle.std.specs.Fmt.{decimal}
use Rattle.std.proofs.Common.{◌++◌}
use Rattle.dpl_walks.proofs.DecimalLemmas.{digit_on, digit_beyond}
use Rattle.dpl_walks.proofs.scanning.number_from.Goals as goal

pub returns-then-value-most : goal.returns-then-value-most
returns-then-value-most c = λ n behind at.
    let d : is_digit c.in-Some.digit.now ≡ true = search rules in
    let k : c.from.result ≡ c.in-Some.digit.now - 48 = search rules in
    let r : c.digits.rest.now ≡ c.in-Some.digit.now ∷ c.in-Some.others.now = search rules in
    digit_beyond c.args.most c.digits.value c.in-Some.digit.now c.from.result n c.digits.rest.now c.in-Some.others.now behind
    (decimal c.args.first ++ c.args.text.now) c.requires.limit c.digits.invariant.small d k c.if-value-most.true r c.digits.invariant.same at

pub digits-preserved : goal.digits-preserved
digits-preserved c =
    let d : is_digit c.in-Some.digit.now ≡ true = search rules in
    let k : c.from.result ≡ c.in-Some.digit.now - 48 = search rules in
    let r : c.digits.rest.now ≡ c.in-Some.digit.now ∷ c.in-Some.others.now = search rules in
    record {
      some = omega arith;
      small = c.if-value-most.false;
      same = digit_on c.digits.value c.in-Some.digit.now c.from.result c.digits.rest.now c.in-Some.others.now
          (decimal c.args.first ++ c.args.text.now) c.digits.invariant.some (omega arith) d k r c.digits.invariant.same;
    }
