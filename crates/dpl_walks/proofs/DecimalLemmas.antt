-- A number in decimal at the front of a text.
use Rattle.std.proofs.Common.{arith, ◌≡◌, ℕ, zero, suc, ◌+◌, ◌-◌, ◌*◌, ◌/◌, ◌%◌, ◌<◌, ◌≤◌, ◌^◌, true, false, List, [], ◌∷◌, ◌++◌}
use Rattle.std.proofs.Common.{length, drop, get_or, refl, sym, ap, subst, ◌∙◌, append_assoc, length-append, Option, None, Some}
use Rattle.std.specs.Prelude.{ℤ, pos, unsigned_abs}
use Rattle.std.specs.List.{list_all}
use Rattle.std.specs.Fmt.{decimal}
use Rattle.std.proofs.lemmas.Fmt.{decimal_digit, decimal_step, first_decimal, decimal_nonempty}
use Rattle.std.proofs.lemmas.Bool.{and_parts}
use Rattle.std.proofs.lemmas.Bool.Decides.{nat_tests}
use Rattle.dpl_lex.specs.Classes.{is_digit}
use Rattle.dpl_lex.specs.Number.{digits_value}
use Rattle.dpl_lex.proofs.Digits.{le_digits_value}
use Rattle.dpl_boxes.specs.Written.{has_no_digit}
use Rattle.dpl_boxes.proofs.NumberLemmas.{begins_with_digit, digits_with_zeros, digits_value-behind, signed_of-signed_decimal}
use Rattle.dpl_rules.specs.Readers.{signed_of}
use Rattle.dpl_walks.specs.Cycles.{IsDecimal, IsSpaced}

digit_is : (b : ℕ) → is_digit b ≡ true → (48 ≤ b) × (b ≤ 57)
digit_is b e = (grind (arith, nat_tests), grind (arith, nat_tests))

-- a digit behind a number
pub decimal_more : (n b : ℕ) → 0 < n → n ≤ 10 ^ 13 → is_digit b ≡ true → decimal (n * 10 + (b - 48)) ≡ decimal n ++ b ∷ []
decimal_more n b some small d =
    let r = digit_is b d in
    let q : (n * 10 + (b - 48)) / 10 ≡ n = omega arith in
    let m : 48 + (n * 10 + (b - 48)) % 10 ≡ b = omega arith in
    let step = decimal_step (n * 10 + (b - 48)) (omega arith) (omega arith) in
    rw (q, m) at step

-- the same with what follows it
pub decimal_on : (n b : ℕ) (others : List ℕ) → 0 < n → n ≤ 10 ^ 13 → is_digit b ≡ true
    → decimal (n * 10 + (b - 48)) ++ others ≡ decimal n ++ b ∷ others
decimal_on n b others some small d = ap (λ t. t ++ others) (decimal_more n b some small d) ∙ append_assoc (decimal n) (b ∷ []) others

digits_value-append : (m : ℕ) (ds more : List ℕ) → list_all is_digit ds ≡ true → digits_value m (ds ++ more) ≡ digits_value (digits_value m ds) more
digits_value-append m [] more h = refl
digits_value-append m (d ∷ ds) more h =
    let p = and_parts (is_digit d) (list_all is_digit ds) h in
    rw p.0 (digits_value-append (10 * m + (d - 48)) ds more p.1)

-- the digits behind a number go on from it
value_from : (n : ℕ) (more : List ℕ) → n ≤ 10 ^ 12 → digits_value 0 (decimal n ++ more) ≡ digits_value n more
value_from n more l =
    let d = digits_with_zeros 0 n l in
    digits_value-append 0 (decimal n) more d.all ∙ ap (λ m. digits_value m more) d.value

-- the number that stands at the front is that of the digits there
value_is : (n : ℕ) (rest : List ℕ) → n ≤ 10 ^ 12 → has_no_digit rest ≡ true → digits_value 0 (decimal n ++ rest) ≡ n
value_is n rest l e =
    let d = digits_with_zeros 0 n l in
    digits_value-behind 0 (decimal n) rest d.all e ∙ d.value

value_on : (n b : ℕ) (others : List ℕ) → is_digit b ≡ true → n * 10 + (b - 48) ≤ digits_value n (b ∷ others)
value_on n b others d = rw d (omega (arith, le_digits_value (10 * n + (b - 48)) others))

-- one digit more is beyond the limit
pub decimal_beyond : (most value b n : ℕ) (others rest : List ℕ) → most ≤ 10 ^ 12 → value ≤ most → is_digit b ≡ true
    → most < value * 10 + (b - 48) → ¬ IsDecimal most n rest (decimal value ++ b ∷ others)
decimal_beyond most value b n others rest l m d k at =
    let one = value_from value (b ∷ others) (omega arith) in
    let two = ap (λ t. digits_value 0 t) at.is ∙ value_is n rest (omega (arith, at.small)) at.ends in
    let same : digits_value value (b ∷ others) ≡ n = sym one ∙ two in
    omega (arith, value_on value b others d, at.small)

-- a digit more in front of a text
pub digit_on : (value b k : ℕ) (rest others whole : List ℕ) → 0 < value → value ≤ 10 ^ 12 → is_digit b ≡ true → k ≡ b - 48
    → rest ≡ b ∷ others → decimal value ++ rest ≡ whole → decimal (value * 10 + k) ++ others ≡ whole
digit_on value b k rest others whole some small d e r same =
    rw e (decimal_on value b others some (omega arith) d) ∙ ap (λ t. decimal value ++ t) (sym r) ∙ same

pub digit_beyond : (most value b k n : ℕ) (rest others behind whole : List ℕ) → most ≤ 10 ^ 12 → value ≤ most → is_digit b ≡ true → k ≡ b - 48
    → most < value * 10 + k → rest ≡ b ∷ others → decimal value ++ rest ≡ whole → ¬ IsDecimal most n behind whole
digit_beyond most value b k n rest others behind whole l small d e beyond r same at =
    decimal_beyond most value b n others behind l small d (omega arith)
    (subst (λ t. IsDecimal most n behind t) (sym same ∙ ap (λ t. decimal value ++ t) r) at)

first_is : (ds rest : List ℕ) (b : ℕ) (bs : List ℕ) → 0 < length ds → b ∷ bs ≡ ds ++ rest → b ≡ get_or ds 0 0
first_is [] rest b bs l e = absurd (omega arith)
first_is (d ∷ ds) rest b bs l e = ap (λ t. get_or t 0 0) e

no_digit_first : (ds rest : List ℕ) (b : ℕ) (bs : List ℕ) → begins_with_digit ds ≡ true → b ∷ bs ≡ ds ++ rest → is_digit b ≡ true
no_digit_first [] rest b bs h e = absurd (cc)
no_digit_first (d ∷ ds) rest b bs h e = ap is_digit (ap (λ t. get_or t 0 0) e) ∙ h

-- no number stands where nothing does
pub decimal_nowhere : (most n : ℕ) (rest text : List ℕ) → most ≤ 10 ^ 12 → length text ≡ 0 → ¬ IsDecimal most n rest text
decimal_nowhere most n rest text l e at =
    let small : n ≤ most = at.small in
    let long : length text ≡ length (decimal n ++ rest) = ap (λ t. length t) at.is in
    omega (arith, length-append (decimal n) rest, decimal_nonempty n (omega arith))

-- nor where no digit does
pub decimal_no_digit : (most n b : ℕ) (rest bs text : List ℕ) → most ≤ 10 ^ 12 → text ≡ b ∷ bs → is_digit b ≡ false → ¬ IsDecimal most n rest text
decimal_no_digit most n b rest bs text l e d at =
    let h = no_digit_first (decimal n) rest b bs (digits_with_zeros 0 n (omega (arith, at.small))).some (sym e ∙ at.is) in
    absurd (cc)

-- no digit follows a zero
behind_none : (n : ℕ) (rest text : List ℕ) → n ≤ 10 ^ 12 → has_no_digit rest ≡ true → has_no_digit text ≡ false → ¬ (48 ∷ text ≡ decimal n ++ rest)
behind_none zero rest text l h d e =
    let f : 48 ∷ text ≡ 48 ∷ rest = e ∙ ap (λ t. t ++ rest) (decimal_digit 0 (omega arith)) in
    let g : text ≡ rest = ap (λ t. drop 1 t) f in
    let k : has_no_digit text ≡ true = ap has_no_digit g ∙ h in
    absurd (cc)
behind_none (suc n) rest text l h d e =
    omega (arith, first_decimal (suc n) (omega arith) (omega arith), first_is (decimal (suc n)) rest 48 text (decimal_nonempty (suc n) (omega arith)) e)

pub zero_none : (most n b : ℕ) (rest others text : List ℕ) → most ≤ 10 ^ 12 → text ≡ b ∷ others → b ≡ 48 → has_no_digit others ≡ false
    → ¬ IsDecimal most n rest text
zero_none most n b rest others text l e z d at =
    behind_none n rest others (omega (arith, at.small)) at.ends d (ap (λ k. k ∷ others) (sym z) ∙ sym e ∙ at.is)

pub zero_there : (most b : ℕ) (others text : List ℕ) → text ≡ b ∷ others → b ≡ 48 → has_no_digit others ≡ true → IsDecimal most 0 others text
zero_there most b others text e z h =
    record { small = omega arith; ends = h; is = e ∙ ap (λ k. k ∷ others) z ∙ sym (ap (λ t. t ++ others) (decimal_digit 0 (omega arith))) }

-- a digit that is none of zero begins a number
pub one_digit : (b : ℕ) (others text : List ℕ) → text ≡ b ∷ others → is_digit b ≡ true → decimal (b - 48) ++ others ≡ text
one_digit b others text e d =
    let r = digit_is b d in
    let m : 48 + (b - 48) ≡ b = omega arith in
    let f = decimal_digit (b - 48) (omega arith) in
    ap (λ t. t ++ others) f ∙ ap (λ k. k ∷ others) m ∙ sym e

-- ---- behind a space

pub spaced_there : (most n : ℕ) (rest digits text : List ℕ) → text ≡ 32 ∷ digits → IsDecimal most n rest digits → IsSpaced most n rest text
spaced_there most n rest digits text e at = record { small = at.small; ends = at.ends; is = e ∙ ap (λ t. 32 ∷ t) at.is }

pub spaced_none : (most n : ℕ) (rest digits text : List ℕ) → text ≡ 32 ∷ digits → ¬ IsDecimal most n rest digits → ¬ IsSpaced most n rest text
spaced_none most n rest digits text e none at =
    none (record { small = at.small; ends = at.ends; is = ap (λ t. drop 1 t) (sym e ∙ at.is) })

abbrev first_read : Option (ℤ × List ℕ) → ℤ × List ℕ
first_read None = (pos 0, [])
first_read (Some p) = p

spaced_read : (most n : ℕ) (rest text : List ℕ) → most ≤ 10 ^ 12 → IsSpaced most n rest text → signed_of text ≡ Some (pos n, rest)
spaced_read most n rest text l at = ap signed_of at.is ∙ signed_of-signed_decimal (pos n) rest (omega (arith, at.small)) at.ends

-- a number stands at the front in one way
pub record AreSame (n m : ℕ) (rest others : List ℕ) : Type 0 where
  pub number : n ≡ m
  pub behind : rest ≡ others

pub spaced_once : (most n m : ℕ) (rest others text : List ℕ) → most ≤ 10 ^ 12 → IsSpaced most n rest text → IsSpaced most m others text
    → AreSame n m rest others
spaced_once most n m rest others text l a b =
    let e = sym (spaced_read most n rest text l a) ∙ spaced_read most m others text l b in
    record { number = ap (λ o. unsigned_abs (first_read o).0) e; behind = ap (λ o. (first_read o).1) e }
