use Rattle.std.proofs.Common.{◌≡◌, ◌-◌, ◌++◌, true, false, ◌∷◌, rules}
use Rattle.std.specs.Fmt.{decimal}
use Rattle.dpl_boxes.specs.Written.{has_no_digit}
use Rattle.dpl_lex.specs.Classes.{is_digit}
use Rattle.dpl_walks.proofs.DecimalLemmas.{decimal_nowhere, decimal_no_digit, one_digit, zero_none, zero_there}
use Rattle.dpl_walks.proofs.scanning.decimal_at.Goals as goal

pub returns-in_default : goal.returns-in_default
returns-in_default c = λ n rest at. decimal_nowhere c.args.most n rest c.args.text.now c.requires.limit c.in_default.ensures.cases at

pub returns-then-not-is_digit_byte : goal.returns-then-not-is_digit_byte
returns-then-not-is_digit_byte c = λ n rest at.
    let d : is_digit c.in-Some.first.now ≡ false = search rules in
    let t : c.args.text.now ≡ c.in-Some.first.now ∷ c.in-Some.others.now = search rules in
    decimal_no_digit c.args.most n c.in-Some.first.now rest c.in-Some.others.now c.args.text.now c.requires.limit t d at

pub returns-then-first-ne48 : goal.returns-then-first-ne48
returns-then-first-ne48 c =
    let d : is_digit c.in-Some.first.now ≡ true = search rules in
    let k : c.from.result ≡ c.in-Some.first.now - 48 = search rules in
    let t : c.args.text.now ≡ c.in-Some.first.now ∷ c.in-Some.others.now = search rules in
    let e : decimal c.from.result ++ c.in-Some.others.now ≡ c.args.text.now = rw k (one_digit c.in-Some.first.now c.in-Some.others.now c.args.text.now t d) in
    rw e at c.number_from.ensures

pub returns-then-not-is_end : goal.returns-then-not-is_end
returns-then-not-is_end c = λ n rest at.
    let t : c.args.text.now ≡ c.in-Some.first.now ∷ c.in-Some.others.now = search rules in
    let z : c.in-Some.first.now ≡ 48 = c.if-first-ne48.false in
    let d : has_no_digit c.in-Some.others.now ≡ false = search rules in
    zero_none c.args.most n c.in-Some.first.now rest c.in-Some.others.now c.args.text.now c.requires.limit t z d at

pub returns : goal.returns
returns c =
    let t : c.args.text.now ≡ c.in-Some.first.now ∷ c.in-Some.others.now = search rules in
    let z : c.in-Some.first.now ≡ 48 = c.if-first-ne48.false in
    let d : has_no_digit c.in-Some.others.now ≡ true = search rules in
    zero_there c.args.most c.in-Some.first.now c.in-Some.others.now c.args.text.now t z d
