-- What stands between words.
use Rattle.std.proofs.Common.{arith, ◌≡◌, ℕ, ◌+◌, ◌≤◌, ◌<◌, Bool, true, false, List, [], ◌∷◌, ◌++◌, length, refl, length-append, None}
use Rattle.std.specs.List.{list_all}
use Rattle.std.proofs.lemmas.Bool.{and_parts}
use Rattle.std.proofs.lemmas.Bool.Decides.{nat_tests}
use Rattle.dpl_lex.specs.Classes.{is_blank, is_digit, is_separator, drop_while}
use Rattle.dpl_lex.specs.CuttingLaws.{is_inside}
use Rattle.dpl_rules.specs.Readers.{letter, signed_of, unsigned_of, spot_of}
use Rattle.dpl_boxes.specs.Written.{Word, IsSpelled, AreBlanks, IsGap, has_no_digit, is_apart, AreBehind}
use Rattle.dpl_boxes.specs.Written.Word.{Letters, Number, Integer}
use Rattle.dpl_boxes.proofs.NumberLemmas.{list_all-weaker, has_no_digit}

blank_is_separator : (b : ℕ) → is_blank b ≡ true → is_separator b ≡ true
blank_is_separator b e = grind (arith, nat_tests)

separator_is_inside : (b : ℕ) → is_separator b ≡ true → is_inside b ≡ true
separator_is_inside b e = grind (arith, nat_tests)

separator_is_no_digit : (b : ℕ) → is_separator b ≡ true → is_digit b ≡ false
separator_is_no_digit b e = grind (arith, nat_tests)

blanks_are_separators : (gap : List ℕ) → AreBlanks gap → list_all is_separator gap ≡ true
blanks_are_separators gap h = list_all-weaker is_blank is_separator blank_is_separator gap h

pub separators_are_inside : (gap : List ℕ) → list_all is_separator gap ≡ true → list_all is_inside gap ≡ true
separators_are_inside gap h = list_all-weaker is_separator is_inside separator_is_inside gap h

pub blanks_are_inside : (gap : List ℕ) → AreBlanks gap → list_all is_inside gap ≡ true
blanks_are_inside gap h = separators_are_inside gap (blanks_are_separators gap h)

separators_in_gap : (w : Word) (gap : List ℕ) → IsGap w gap → list_all is_separator gap ≡ true
separators_in_gap (Letters letters) gap h = blanks_are_separators gap h
separators_in_gap (Number n) gap h = h
separators_in_gap (Integer z) gap h = h

-- the first of some words, behind a gap
pub record Begins (v w : Word) (ws : List Word) (text : List ℕ) : Type 0 where
  pub gap : List ℕ
  pub bytes : List ℕ
  pub rest : List ℕ
  pub between : IsGap w gap
  pub separators : list_all is_separator gap ≡ true
  pub spelled : IsSpelled w bytes
  pub is : text ≡ gap ++ (bytes ++ rest)
  pub apart : is_apart v text ≡ true
  pub behind : AreBehind w ws rest

pub begins : (v w : Word) (ws : List Word) (text : List ℕ) → AreBehind v (w ∷ ws) text → Begins v w ws text
begins v w ws text h = record {
  gap = h.0;
  bytes = h.1;
  rest = h.2;
  between = h.3;
  separators = separators_in_gap w h.0 h.3;
  spelled = h.4;
  is = h.5;
  apart = h.6;
  behind = h.7;
}

-- a word with bytes makes the text shorter
pub shorter : (v w : Word) (ws : List Word) (text : List ℕ) (t : Begins v w ws text) → 1 ≤ length t.bytes → length t.rest < length text
shorter v w ws text t l =
    let size : length text ≡ length t.gap + (length t.bytes + length t.rest) =
    rw (t.is, length-append t.gap (t.bytes ++ t.rest), length-append t.bytes t.rest) refl in
    omega arith

-- nothing is left of what passes the test
drop_while-all : (p : ℕ → Bool) (bs : List ℕ) → list_all p bs ≡ true → drop_while p bs ≡ []
drop_while-all p [] h = refl
drop_while-all p (b ∷ bs) h =
    let s = and_parts (p b) (list_all p bs) h in
    rw (s.0) (drop_while-all p bs s.1)

no_digit_in_blanks : (gap : List ℕ) → AreBlanks gap → has_no_digit gap ≡ true
no_digit_in_blanks [] h = refl
no_digit_in_blanks (b ∷ gap) h =
    rw (separator_is_no_digit b (blank_is_separator b (and_parts (is_blank b) (list_all is_blank gap) h).0)) refl

apart_in_blanks : (v : Word) (text : List ℕ) → AreBlanks text → is_apart v text ≡ true
apart_in_blanks (Letters letters) text h = refl
apart_in_blanks (Number n) text h = no_digit_in_blanks text h
apart_in_blanks (Integer z) text h = no_digit_in_blanks text h

-- what stands behind a number begins with no digit
pub apart_behind : (v : Word) (ws : List Word) (text : List ℕ) → AreBehind v ws text → is_apart v text ≡ true
apart_behind v [] text h = apart_in_blanks v text h
apart_behind v (w ∷ ws) text h = (begins v w ws text h).apart

-- blanks alone hold no part
pub no_number_in_blanks : (text : List ℕ) → AreBlanks text → signed_of text ≡ None
no_number_in_blanks text h = rw (drop_while-all is_separator text (blanks_are_separators text h)) refl

pub no_count_in_blanks : (text : List ℕ) → AreBlanks text → unsigned_of text ≡ None
no_count_in_blanks text h = rw (drop_while-all is_separator text (blanks_are_separators text h)) refl

pub no_spot_in_blanks : (text : List ℕ) → AreBlanks text → spot_of text ≡ None
no_spot_in_blanks text h = rw (no_number_in_blanks text h) refl

pub no_letter_in_blanks : (b : ℕ) (text : List ℕ) → AreBlanks text → letter b text ≡ None
no_letter_in_blanks b text h = rw (drop_while-all is_blank text h) refl
