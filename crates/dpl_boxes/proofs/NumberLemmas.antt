-- A printed number is read back.
use Rattle.std.proofs.Common.{arith, ◌≡◌, ◌==◌, ℕ, zero, suc, ◌+◌, ◌-◌, ◌*◌, ◌/◌, ◌%◌, ◌<◌, ◌≤◌, ◌^◌, Bool, true, false, List, [], ◌∷◌, ◌++◌, refl, Some}
use Rattle.std.specs.Prelude.{ℤ, pos, negsuc, ◌-ℤ◌, unsigned_abs, nat_lt, replicate}
use Rattle.std.specs.List.{list_all}
use Rattle.std.specs.Fmt.{decimal, signed_decimal}
use Rattle.std.proofs.lemmas.Fmt.{decimal_by_steps}
use Rattle.std.proofs.lemmas.List.Folds.{list_all-append}
use Rattle.std.proofs.lemmas.Bool.Decides.{nat_tests}
use Rattle.std.proofs.lemmas.Int.{ints}
use Rattle.dpl_lex.specs.Classes.{is_digit, is_separator, drop_while}
use Rattle.dpl_lex.specs.Number.{greatest, digits_value, of_magnitude, of_negated, unsigned_at, signed_at}
use Rattle.dpl_lex.specs.CuttingLaws.{is_inside}
pub use Rattle.dpl_boxes.specs.Written.{has_no_digit}
use Rattle.dpl_rules.specs.Readers.{unsigned_of, signed_of}
use Rattle.std.proofs.lemmas.Bool.{and_parts}

-- a digit stands at the front
abbrev pub begins_with_digit : List ℕ → Bool
begins_with_digit [] = false
begins_with_digit (b ∷ bs) = is_digit b

-- the digits of a number
pub record AreDigitsOf (n : ℕ) (ds : List ℕ) : Type 0 where
  pub some : begins_with_digit ds ≡ true
  pub all : list_all is_digit ds ≡ true
  pub value : digits_value 0 ds ≡ n

digit : (n : ℕ) → n < 10 → is_digit (48 + n) ≡ true
digit n l = grind (arith, nat_tests)

begins-append : (ds es : List ℕ) → begins_with_digit ds ≡ true → begins_with_digit (ds ++ es) ≡ true
begins-append [] es h = absurd (cc)
begins-append (d ∷ ds) es h = h

-- what passes one test passes another
pub list_all-weaker : (p q : ℕ → Bool) → ((b : ℕ) → p b ≡ true → q b ≡ true) → (bs : List ℕ) → list_all p bs ≡ true → list_all q bs ≡ true
list_all-weaker p q w [] h = refl
list_all-weaker p q w (b ∷ bs) h =
    let s = and_parts (p b) (list_all p bs) h in
    rw (w b s.0) (list_all-weaker p q w bs s.1)

digits_value-append : (m : ℕ) (ds : List ℕ) (d : ℕ) → list_all is_digit ds ≡ true → is_digit d ≡ true
    → digits_value m (ds ++ d ∷ []) ≡ 10 * digits_value m ds + (d - 48)
digits_value-append m [] d h e = rw e refl
digits_value-append m (x ∷ ds) d h e =
    let p = and_parts (is_digit x) (list_all is_digit ds) h in
    rw (p.0) (digits_value-append (10 * m + (x - 48)) ds d p.1 e)

one_digit : (n : ℕ) → n < 10 → AreDigitsOf n ((48 + n) ∷ [])
one_digit n l = record {
  some = digit n l;
  all = rw (digit n l) refl;
  value = rw (digit n l) (omega arith);
}

more_digits : (n : ℕ) (ds : List ℕ) → 10 ≤ n → AreDigitsOf (n / 10) ds → AreDigitsOf n (ds ++ (48 + n % 10) ∷ [])
more_digits n ds l h =
    let small : n % 10 < 10 = omega arith in
    record {
      some = begins-append ds ((48 + n % 10) ∷ []) h.some;
      all = rw (list_all-append is_digit ds ((48 + n % 10) ∷ []), h.all, digit (n % 10) small) refl;
      value = rw (digits_value-append 0 ds (48 + n % 10) h.all (digit (n % 10) small), h.value) (omega arith);
    }

digits_of-decimal : (n : ℕ) → n < 2 ^ 64 → AreDigitsOf n (decimal n)
digits_of-decimal n l = decimal_by_steps AreDigitsOf one_digit more_digits n l

-- what follows the digits adds nothing
pub digits_value-behind : (m : ℕ) (ds rest : List ℕ) → list_all is_digit ds ≡ true → has_no_digit rest ≡ true → digits_value m (ds ++ rest) ≡ digits_value m ds
digits_value-behind m [] [] h e = refl
digits_value-behind m [] (b ∷ rest) h e = grind arith
digits_value-behind m (d ∷ ds) rest h e =
    let p = and_parts (is_digit d) (list_all is_digit ds) h in
    rw (p.0) (digits_value-behind (10 * m + (d - 48)) ds rest p.1 e)

drop_while-digits : (ds rest : List ℕ) → list_all is_digit ds ≡ true → has_no_digit rest ≡ true → drop_while is_digit (ds ++ rest) ≡ rest
drop_while-digits [] [] h e = refl
drop_while-digits [] (b ∷ rest) h e = grind arith
drop_while-digits (d ∷ ds) rest h e =
    let p = and_parts (is_digit d) (list_all is_digit ds) h in
    rw (p.0) (drop_while-digits ds rest p.1 e)

pub digit_is_no_separator : (b : ℕ) → is_digit b ≡ true → is_separator b ≡ false
digit_is_no_separator b e = grind (arith, nat_tests)

digit_is_no_minus : (b : ℕ) → is_digit b ≡ true → (b == 45) ≡ false
digit_is_no_minus b e = grind (arith, nat_tests)

-- what passes a test is dropped before the rest is looked at
pub drop_while-gap : (p : ℕ → Bool) (gap bs : List ℕ) → list_all p gap ≡ true → drop_while p (gap ++ bs) ≡ drop_while p bs
drop_while-gap p [] bs h = refl
drop_while-gap p (b ∷ gap) bs h =
    let s = and_parts (p b) (list_all p gap) h in
    rw (s.0) (drop_while-gap p gap bs s.1)

-- digits behind separators
unsigned_at-digits : (gap bs : List ℕ) → list_all is_separator gap ≡ true → begins_with_digit bs ≡ true
    → unsigned_at (gap ++ bs) ≡ (of_magnitude (digits_value 0 bs), drop_while is_digit bs)
unsigned_at-digits gap [] s h = absurd (cc)
unsigned_at-digits gap (b ∷ bs) s h = rw (drop_while-gap is_separator gap (b ∷ bs) s, digit_is_no_separator b h, h) refl

signed_at-digits : (gap bs : List ℕ) → list_all is_separator gap ≡ true → begins_with_digit bs ≡ true
    → signed_at (gap ++ bs) ≡ (of_magnitude (digits_value 0 bs), drop_while is_digit bs)
signed_at-digits gap [] s h = absurd (cc)
signed_at-digits gap (b ∷ bs) s h = rw (drop_while-gap is_separator gap (b ∷ bs) s, digit_is_no_separator b h, digit_is_no_minus b h, h) refl

signed_at-minus : (gap bs : List ℕ) → list_all is_separator gap ≡ true → begins_with_digit bs ≡ true
    → signed_at (gap ++ 45 ∷ bs) ≡ (of_negated (digits_value 0 bs), drop_while is_digit bs)
signed_at-minus gap [] s h = absurd (cc)
signed_at-minus gap (b ∷ bs) s h = rw (drop_while-gap is_separator gap (45 ∷ b ∷ bs) s, h) refl

in_bounds : (n : ℕ) → n ≤ greatest → nat_lt greatest n ≡ false
in_bounds n l = grind (arith, nat_tests)

pub negated : (n : ℕ) → pos 0 -ℤ pos (suc n) ≡ negsuc n
negated n = omega (arith, ints)

-- zeros in front change nothing
zero_before : (n : ℕ) (ds : List ℕ) → AreDigitsOf n ds → AreDigitsOf n (48 ∷ ds)
zero_before n ds d = record { some = refl; all = d.all; value = d.value }

pub digits_with_zeros : (zeros n : ℕ) → n ≤ greatest → AreDigitsOf n (replicate zeros 48 ++ decimal n)
digits_with_zeros zero n l = digits_of-decimal n (omega arith)
digits_with_zeros (suc zeros) n l = zero_before n (replicate zeros 48 ++ decimal n) (digits_with_zeros zeros n l)

-- an integer without a sign behind separators, and what follows it
pub unsigned_of-digits : (gap : List ℕ) (n : ℕ) (ds rest : List ℕ) → list_all is_separator gap ≡ true
    → n ≤ greatest → AreDigitsOf n ds → has_no_digit rest ≡ true
    → unsigned_of (gap ++ (ds ++ rest)) ≡ Some (n, rest)
unsigned_of-digits gap n ds rest s l d e =
    rw (
      unsigned_at-digits gap (ds ++ rest) s (begins-append ds rest d.some),
      digits_value-behind 0 ds rest d.all e,
      d.value,
      drop_while-digits ds rest d.all e,
      in_bounds n l,
    ) refl

pub signed_of-digits : (gap : List ℕ) (n : ℕ) (ds rest : List ℕ) → list_all is_separator gap ≡ true
    → n ≤ greatest → AreDigitsOf n ds → has_no_digit rest ≡ true
    → signed_of (gap ++ (ds ++ rest)) ≡ Some (pos n, rest)
signed_of-digits gap n ds rest s l d e =
    rw (
      signed_at-digits gap (ds ++ rest) s (begins-append ds rest d.some),
      digits_value-behind 0 ds rest d.all e,
      d.value,
      drop_while-digits ds rest d.all e,
      in_bounds n l,
    ) refl

pub signed_of-minus : (gap : List ℕ) (n : ℕ) (ds rest : List ℕ) → list_all is_separator gap ≡ true
    → n ≤ greatest → AreDigitsOf n ds → has_no_digit rest ≡ true
    → signed_of (gap ++ 45 ∷ (ds ++ rest)) ≡ Some (pos 0 -ℤ pos n, rest)
signed_of-minus gap n ds rest s l d e =
    rw (
      signed_at-minus gap (ds ++ rest) s (begins-append ds rest d.some),
      digits_value-behind 0 ds rest d.all e,
      d.value,
      drop_while-digits ds rest d.all e,
      in_bounds n l,
    ) refl

-- a decimal behind a space
pub unsigned_of-decimal : (n : ℕ) (rest : List ℕ) → n ≤ greatest → has_no_digit rest ≡ true → unsigned_of (32 ∷ (decimal n ++ rest)) ≡ Some (n, rest)
unsigned_of-decimal n rest l e = unsigned_of-digits (32 ∷ []) n (decimal n) rest refl l (digits_with_zeros 0 n l) e

pub signed_of-signed_decimal : (z : ℤ) (rest : List ℕ) → unsigned_abs z ≤ greatest → has_no_digit rest ≡ true
    → signed_of (32 ∷ (signed_decimal z ++ rest)) ≡ Some (z, rest)
signed_of-signed_decimal (pos n) rest l e = signed_of-digits (32 ∷ []) n (decimal n) rest refl l (digits_with_zeros 0 n l) e
signed_of-signed_decimal (negsuc n) rest l e =
    rw (← negated n) (signed_of-minus (32 ∷ []) (suc n) (decimal (suc n)) rest refl l (digits_with_zeros 0 (suc n) l) e)

digit_is_inside : (b : ℕ) → is_digit b ≡ true → is_inside b ≡ true
digit_is_inside b e = grind (arith, nat_tests)

pub inside_digits : (n : ℕ) (ds : List ℕ) → AreDigitsOf n ds → list_all is_inside ds ≡ true
inside_digits n ds d = list_all-weaker is_digit is_inside digit_is_inside ds d.all

-- no semicolon stands in a number
pub is_inside-signed_decimal : (z : ℤ) → unsigned_abs z ≤ greatest → list_all is_inside (signed_decimal z) ≡ true
is_inside-signed_decimal (pos n) l = inside_digits n (decimal n) (digits_with_zeros 0 n l)
is_inside-signed_decimal (negsuc n) l = inside_digits (suc n) (decimal (suc n)) (digits_with_zeros 0 (suc n) l)
