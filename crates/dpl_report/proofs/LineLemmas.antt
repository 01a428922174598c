-- The numbers of a line are read back, and a line has one line end.
use Rattle.std.proofs.Common.{arith, ◌≡◌, ℕ, zero, suc, ◌+◌, ◌%◌, ◌<◌, ◌≤◌, ◌^◌, Bool, true, false, ◌&&◌, ◌==◌, cond}
use Rattle.std.proofs.Common.{List, [], ◌∷◌, ◌++◌, length, refl, ap, ◌∙◌, append_assoc, length-append, Option, None}
use Rattle.std.specs.Prelude.{ℤ, pos, negsuc, ◌+ℤ◌, ◌-ℤ◌, ◌*ℤ◌, not, unsigned_abs, codes}
use Rattle.std.specs.List.{list_all, AllByRecursion}
use Rattle.std.specs.Fmt.{decimal, signed_decimal}
use Rattle.std.proofs.lemmas.Fmt.{decimal_by_steps}
use Rattle.std.proofs.lemmas.List.Folds.{list_all-append}
use Rattle.std.proofs.lemmas.Bool.Decides.{nat_tests}
use Rattle.dpl_cell.specs.Places.{Corners}
use Rattle.dpl_lex.specs.Classes.{is_digit, is_separator, drop_while}
use Rattle.dpl_lex.specs.Number.{greatest, signed_digits_at, digits_at, of_magnitude, of_negated, digits_value}
use Rattle.dpl_lex.specs.declared.number.Num.{Num}
use Rattle.dpl_lex.specs.declared.number.Num.TheVariants.{Nothing}
use Rattle.dpl_rules.specs.Readers.{number_at_front, signed_of, repeated}
use Rattle.dpl_boxes.specs.Masks.{box_line}
use Rattle.dpl_boxes.specs.Lines.{is_flat}
use Rattle.dpl_boxes.proofs.NumberLemmas.{has_no_digit, signed_of-signed_decimal}
use Rattle.dpl_form.specs.Lines.{is_line, is_nothing}
use Rattle.dpl_report.specs.ReportLines.{numbered, bracketed}
use Rattle.dpl_report.specs.Reading.{numbers_in}
use Rattle.std.proofs.lemmas.Bool.{and_parts, and_from}

-- ---- what stands before a number

abbrev number_with : Num × List ℕ → Option (ℤ × List ℕ)
number_with p = number_at_front p.0 p.1

abbrev digits_or : Bool → Num → List ℕ → List ℕ → Num × List ℕ
digits_or t n rest whole = cond t (n, rest) (Nothing, whole)

-- where no number stands it does not matter what was passed
any_whole : (t : Bool) (n : Num) (rest v w : List ℕ) → number_with (digits_or t n rest v) ≡ number_with (digits_or t n rest w)
any_whole true n rest v w = refl
any_whole false n rest v w = refl

digits_any : (of : ℕ → Num) (v w bs : List ℕ) → number_with (digits_at of v bs) ≡ number_with (digits_at of w bs)
digits_any of v w [] = refl
digits_any of v w (b ∷ bs) = any_whole (is_digit b) (of (digits_value 0 (b ∷ bs))) (drop_while is_digit (b ∷ bs)) v w

signed_by_test : (t : Bool) (v w : List ℕ) (b : ℕ) (bs : List ℕ) →
    number_with (cond t (digits_at of_negated v bs) (digits_at of_magnitude v (b ∷ bs))) ≡ number_with
    (cond t (digits_at of_negated w bs) (digits_at of_magnitude w (b ∷ bs)))
signed_by_test true v w b bs = digits_any of_negated v w bs
signed_by_test false v w b bs = digits_any of_magnitude v w (b ∷ bs)

signed_any : (v w bs : List ℕ) → number_with (signed_digits_at v bs) ≡ number_with (signed_digits_at w bs)
signed_any v w [] = refl
signed_any v w (b ∷ bs) = signed_by_test (b == 45) v w b bs

drop_while-append : (front rest : List ℕ) → list_all is_separator front ≡ true → drop_while is_separator (front ++ rest) ≡ drop_while is_separator rest
drop_while-append [] rest h = refl
drop_while-append (b ∷ bs) rest h = let s = and_parts (is_separator b) (list_all is_separator bs) h in rw s.0 (drop_while-append bs rest s.1)

-- separators before a number are passed
signed_of-word : (word rest : List ℕ) → list_all is_separator word ≡ true → signed_of (word ++ rest) ≡ signed_of rest
signed_of-word word rest h = rw (drop_while-append word rest h) (signed_any (word ++ rest) rest (drop_while is_separator rest))

-- ---- the numbers of a line

-- a number that a line can hold: its magnitude is at most 10^12
abbrev pub IsNear : ℤ → Type 0
IsNear z = unsigned_abs z ≤ greatest

-- what may follow the numbers
pub record IsEnd (end : List ℕ) : Type 0 where
  pub no_digit : has_no_digit end ≡ true
  pub no_number : signed_of end ≡ None

has_no_digit-numbered : (zs : List ℤ) (end : List ℕ) → IsEnd end → has_no_digit (numbered zs end) ≡ true
has_no_digit-numbered [] end e = e.no_digit
has_no_digit-numbered (z ∷ zs) end e = refl

numbers_again : (n : ℕ) (word : List ℕ) (zs : List ℤ) (end : List ℕ) → IsEnd end → length zs ≤ n
    → list_all is_separator word ≡ true → AllByRecursion IsNear zs
    → (repeated signed_of n (word ++ numbered zs end)).0 ≡ zs
numbers_again zero word [] end e l h a = refl
numbers_again (suc n) word [] end e l h a = rw (signed_of-word word end h, e.no_number) refl
numbers_again zero word (z ∷ zs) end e l h a = absurd (omega arith)
numbers_again (suc n) word (z ∷ zs) end e l h a =
    let k : length zs ≤ n = omega arith in
    rw (
      signed_of-word word (numbered (z ∷ zs) end) h,
      signed_of-signed_decimal z (numbered zs end) a.0 (has_no_digit-numbered zs end e),
    )
    (ap (λ ys. z ∷ ys) (numbers_again n [] zs end e k refl a.1))

-- numbers take a byte each at least
pub length-numbered : (zs : List ℤ) (end : List ℕ) → length zs ≤ length (numbered zs end)
length-numbered [] end = omega arith
length-numbered (z ∷ zs) end = omega (arith, length-numbered zs end, length-append (signed_decimal z) (numbered zs end))

-- the numbers of a line behind a word are read back
pub numbers_in-numbered : (first : ℕ) (word : List ℕ) (zs : List ℤ) (end : List ℕ) → IsEnd end
    → list_all is_separator word ≡ true → AllByRecursion IsNear zs
    → numbers_in (first ∷ (word ++ numbered zs end)) ≡ zs
numbers_in-numbered first word zs end e h a =
    numbers_again (suc (length (word ++ numbered zs end))) word zs end e (omega (arith, length-append word (numbered zs end), length-numbered zs end)) h a

-- the end of a comment ends the numbers
pub closing_is_end : IsEnd (codes ");\n")
closing_is_end = record { no_digit = refl; no_number = refl }

-- the end of a box ends the numbers
pub box_closing_is_end : IsEnd (codes ";\n")
box_closing_is_end = record { no_digit = refl; no_number = refl }

-- the numbers of a comment
pub numbers_in-bracketed : (word : List ℕ) (zs : List ℤ) → list_all is_separator word ≡ true → AllByRecursion IsNear zs → numbers_in (bracketed word zs) ≡ zs
numbers_in-bracketed word zs h a = numbers_in-numbered 40 word zs (codes ");\n") closing_is_end h a

-- the numbers of a box: its length, width and centre, in quarters of a hundredth of a micron
abbrev pub box_numbers : Corners → List ℤ
box_numbers b = ((b.x2 -ℤ b.x1) *ℤ pos 2) ∷ ((b.y2 -ℤ b.y1) *ℤ pos 2) ∷ (b.x1 +ℤ b.x2) ∷ (b.y1 +ℤ b.y2) ∷ []

four_parts : (a b c d : List ℕ)
    → ((((66 ∷ 32 ∷ a) ++ (32 ∷ b)) ++ (32 ∷ c)) ++ (32 ∷ d)) ++ (59 ∷ 10 ∷ []) ≡ 66 ∷ 32 ∷ (a ++ (32 ∷ (b ++ (32 ∷ (c ++ (32 ∷ (d ++ (59 ∷ 10 ∷ []))))))))
four_parts a b c d = simp append_assoc

-- the line of a box is made of these numbers
pub box_line-numbered : (b : Corners) → box_line b ≡ 66 ∷ numbered (box_numbers b) (codes ";\n")
box_line-numbered b = four_parts (signed_decimal ((b.x2 -ℤ b.x1) *ℤ pos 2)) (signed_decimal ((b.y2 -ℤ b.y1) *ℤ pos 2))
    (signed_decimal (b.x1 +ℤ b.x2)) (signed_decimal (b.y1 +ℤ b.y2))

-- the numbers of a box are read back from its line
pub numbers_in-box : (b : Corners) → AllByRecursion IsNear (box_numbers b) → numbers_in (box_line b) ≡ box_numbers b
numbers_in-box b a = rw (box_line-numbered b) (numbers_in-numbered 66 [] (box_numbers b) (codes ";\n") box_closing_is_end refl a)

-- ---- line ends

-- a byte that a comment in one line can hold: neither parenthesis, and no line end
abbrev pub is_comment_byte : ℕ → Bool
is_comment_byte b = is_flat b && not (b == 10)

pub flat_byte : (b : ℕ) → is_comment_byte b ≡ true → is_flat b ≡ true
flat_byte b h = (and_parts (is_flat b) (not (b == 10)) h).0

no_end : (b : ℕ) → is_comment_byte b ≡ true → not (b == 10) ≡ true
no_end b h = (and_parts (is_flat b) (not (b == 10)) h).1

line_by_test : (t : Bool) (bs rest : List ℕ) → not t ≡ true → is_line (bs ++ rest) ≡ is_line rest
    → cond t (is_nothing (bs ++ rest)) (is_line (bs ++ rest)) ≡ is_line rest
line_by_test true bs rest n h = absurd (cc)
line_by_test false bs rest n h = h

-- bytes without a line end in front of a text do not change whether it is one line
pub is_line-append : (front rest : List ℕ) → list_all is_comment_byte front ≡ true
    → is_line (front ++ rest) ≡ is_line rest
is_line-append [] rest h = refl
is_line-append (b ∷ bs) rest h =
    let s = and_parts (is_comment_byte b) (list_all is_comment_byte bs) h in
    line_by_test (b == 10) bs rest (no_end b s.0) (is_line-append bs rest s.1)

digit_is_comment_byte : (n : ℕ) → n < 10 → is_comment_byte (48 + n) ≡ true
digit_is_comment_byte n l =
    and_from (is_flat (48 + n)) (not (48 + n == 10)) (grind (arith, nat_tests)) (grind (arith, nat_tests))

comment_bytes-decimal : (n : ℕ) → n < 2 ^ 64 → list_all is_comment_byte (decimal n) ≡ true
comment_bytes-decimal = decimal_by_steps (λ n ds. list_all is_comment_byte ds ≡ true)
    (λ n l. rw (digit_is_comment_byte n l) refl)
    (λ n ds l h.
    let small : n % 10 < 10 = omega arith in
    rw (list_all-append is_comment_byte ds ((48 + n % 10) ∷ []), h, digit_is_comment_byte (n % 10) small) refl)

pub comment_bytes-signed : (z : ℤ) → IsNear z → list_all is_comment_byte (signed_decimal z) ≡ true
comment_bytes-signed (pos n) h = comment_bytes-decimal n (omega arith)
comment_bytes-signed (negsuc n) h = comment_bytes-decimal (suc n) (omega arith)

-- numbers in front of an end do not change whether it is one line
is_line-numbered : (zs : List ℤ) (end : List ℕ) → AllByRecursion IsNear zs → is_line (numbered zs end) ≡ is_line end
is_line-numbered [] end a = refl
is_line-numbered (z ∷ zs) end a =
    is_line-append (signed_decimal z) (numbered zs end) (comment_bytes-signed z a.0) ∙ is_line-numbered zs end a.1

-- a box is one line
pub is_line-box : (b : Corners) → AllByRecursion IsNear (box_numbers b) → is_line (box_line b) ≡ true
is_line-box b a = ap is_line (box_line-numbered b) ∙ is_line-numbered (box_numbers b) (codes ";\n") a
