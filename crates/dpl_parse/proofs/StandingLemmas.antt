-- Numbers that stand at the front of a text stand there in one way.
use Rattle.std.proofs.Common.{arith, ◌≡◌, ℕ, suc, ◌≤◌, true, List, [], ◌∷◌, ◌++◌, length, drop, refl, sym, ap, ◌∙◌}
use Rattle.std.proofs.Common.{Option, None, Some}
use Rattle.std.specs.Prelude.{ℤ, pos, negsuc}
use Rattle.std.specs.List.{AllByRecursion}
use Rattle.std.specs.Fmt.{decimal, signed_decimal}
use Rattle.dpl_lex.specs.Number.{greatest}
use Rattle.dpl_boxes.specs.Written.{has_no_digit}
use Rattle.dpl_boxes.proofs.NumberLemmas.{signed_of-signed_decimal}
use Rattle.dpl_rules.specs.Readers.{signed_of}
use Rattle.dpl_report.specs.ReportLines.{numbered}
use Rattle.dpl_report.proofs.LineLemmas.{IsNear}
use Rattle.dpl_walks.specs.Cycles.{IsDecimal, IsSpaced}
use Rattle.dpl_walks.proofs.DecimalLemmas.{decimal_no_digit, spaced_once, spaced_there}
use Rattle.dpl_parse.specs.Standing.{IsSigned, Stand}

-- ---- one integer

-- a minus begins no number without a sign
no_minus : (n : ℕ) (rest digits : List ℕ) → n ≤ greatest → has_no_digit rest ≡ true → ¬ (45 ∷ digits ≡ decimal n ++ rest)
no_minus n rest digits l e is =
    decimal_no_digit greatest n 45 rest digits (45 ∷ digits) (omega arith) refl refl (record { small = l; ends = e; is = is })

-- no number behind a minus, no integer
pub no_negative : (digits : List ℕ) → ((n : ℕ) (rest : List ℕ) → ¬ IsDecimal greatest (suc n) rest digits)
    → (z : ℤ) (rest : List ℕ) → ¬ IsSigned z rest (45 ∷ digits)
no_negative digits none (pos n) rest s = no_minus n rest digits s.near s.ends s.is
no_negative digits none (negsuc n) rest s = none n rest (record { small = s.near; ends = s.ends; is = ap (λ t. drop 1 t) s.is })

decimal_once : (n m : ℕ) (rest others digits : List ℕ) → IsDecimal greatest n rest digits → IsDecimal greatest m others digits → n ≡ m
decimal_once n m rest others digits a b =
    (spaced_once greatest n m rest others (32 ∷ digits) (omega arith) (spaced_there greatest n rest digits (32 ∷ digits) refl a)
    (spaced_there greatest m others digits (32 ∷ digits) refl b)).number

-- a zero behind a minus is none
pub no_negative_zero : (m : ℕ) (others digits : List ℕ) → m ≡ 0 → IsDecimal greatest m others digits
    → (z : ℤ) (rest : List ℕ) → ¬ IsSigned z rest (45 ∷ digits)
no_negative_zero m others digits e at = no_negative digits (λ n rest a.
    let same : suc n ≡ m = decimal_once (suc n) m rest others digits a at in
    omega arith)

pub negative_there : (n : ℕ) (rest digits : List ℕ) → IsDecimal greatest (suc n) rest digits → IsSigned (negsuc n) rest (45 ∷ digits)
negative_there n rest digits a = record { near = a.small; ends = a.ends; is = ap (λ t. 45 ∷ t) a.is }

pub positive_there : (n : ℕ) (rest text : List ℕ) → IsDecimal greatest n rest text → IsSigned (pos n) rest text
positive_there n rest text a = record { near = a.small; ends = a.ends; is = a.is }

-- where neither a minus nor a number stands, no integer does
pub no_signed : (text : List ℕ) → ((digits : List ℕ) → ¬ (text ≡ 45 ∷ digits)) → ((n : ℕ) (rest : List ℕ) → ¬ IsDecimal greatest n rest text)
    → (z : ℤ) (rest : List ℕ) → ¬ IsSigned z rest text
no_signed text minus none (pos n) rest s = none n rest (record { small = s.near; ends = s.ends; is = s.is })
no_signed text minus none (negsuc n) rest s = minus (decimal (suc n) ++ rest) s.is

-- ---- behind a space

pub one_stands : (z : ℤ) (rest digits text : List ℕ) → text ≡ 32 ∷ digits → IsSigned z rest digits → Stand (z ∷ []) rest text
one_stands z rest digits text e s = record { near = (s.near, tt); ends = s.ends; is = e ∙ ap (λ t. 32 ∷ t) s.is }

pub none_stands : (digits text : List ℕ) → text ≡ 32 ∷ digits → ((z : ℤ) (rest : List ℕ) → ¬ IsSigned z rest digits)
    → (z : ℤ) (rest : List ℕ) → ¬ Stand (z ∷ []) rest text
none_stands digits text e none z rest s =
    none z rest (record { near = s.near.0; ends = s.ends; is = ap (λ t. drop 1 t) (sym e ∙ s.is) })

pub no_space : (text : List ℕ) → ((digits : List ℕ) → ¬ (text ≡ 32 ∷ digits)) → (z : ℤ) (rest : List ℕ) → ¬ Stand (z ∷ []) rest text
no_space text space z rest s = space (signed_decimal z ++ rest) s.is

-- ---- several of them

numbered_ends : (zs : List ℤ) (rest : List ℕ) → has_no_digit rest ≡ true → has_no_digit (numbered zs rest) ≡ true
numbered_ends [] rest e = e
numbered_ends (z ∷ zs) rest e = refl

numbered-append : (xs zs : List ℤ) (rest : List ℕ) → numbered (xs ++ zs) rest ≡ numbered xs (numbered zs rest)
numbered-append [] zs rest = refl
numbered-append (x ∷ xs) zs rest = ap (λ t. 32 ∷ (signed_decimal x ++ t)) (numbered-append xs zs rest)

near_parts : (xs zs : List ℤ) → AllByRecursion IsNear (xs ++ zs) → AllByRecursion IsNear xs × AllByRecursion IsNear zs
near_parts [] zs a = (tt, a)
near_parts (x ∷ xs) zs a = let p = near_parts xs zs a.1 in ((a.0, p.0), p.1)

near_joined : (xs zs : List ℤ) → AllByRecursion IsNear xs → AllByRecursion IsNear zs → AllByRecursion IsNear (xs ++ zs)
near_joined [] zs a b = b
near_joined (x ∷ xs) zs a b = (a.0, near_joined xs zs a.1 b)

-- the first of some numbers stand there too
pub first_stand : (xs zs : List ℤ) (rest text : List ℕ) → Stand (xs ++ zs) rest text → Stand xs (numbered zs rest) text
first_stand xs zs rest text s = record {
  near = (near_parts xs zs s.near).0;
  ends = numbered_ends zs rest s.ends;
  is = s.is ∙ numbered-append xs zs rest;
}

-- others behind them
pub stand_joined : (xs zs : List ℤ) (rest others text : List ℕ) → Stand xs others text → Stand zs rest others → Stand (xs ++ zs) rest text
stand_joined xs zs rest others text a b = record {
  near = near_joined xs zs a.near b.near;
  ends = b.ends;
  is = a.is ∙ ap (λ t. numbered xs t) b.is ∙ sym (numbered-append xs zs rest);
}

abbrev first_read : Option (ℤ × List ℕ) → ℤ × List ℕ
first_read None = (pos 0, [])
first_read (Some p) = p

-- the same numbers, and the same behind them
pub record AreTheSame (xs ys : List ℤ) (rest others : List ℕ) : Type 0 where
  pub numbers : xs ≡ ys
  pub behind : rest ≡ others

one_more : (x y : ℤ) (xs ys : List ℤ) (rest others : List ℕ) → x ≡ y → AreTheSame xs ys rest others → AreTheSame (x ∷ xs) (y ∷ ys) rest others
one_more x y xs ys rest others e s = record { numbers = cc (e, s.numbers); behind = s.behind }

same_by : (xs ys : List ℤ) (rest others : List ℕ) → length xs ≡ length ys → AllByRecursion IsNear xs → AllByRecursion IsNear ys
    → has_no_digit rest ≡ true → has_no_digit others ≡ true → numbered xs rest ≡ numbered ys others → AreTheSame xs ys rest others
same_by [] [] rest others l a b e f h = record { numbers = refl; behind = h }
same_by [] (y ∷ ys) rest others l a b e f h = absurd (omega arith)
same_by (x ∷ xs) [] rest others l a b e f h = absurd (omega arith)
same_by (x ∷ xs) (y ∷ ys) rest others l a b e f h =
    let one = signed_of-signed_decimal x (numbered xs rest) a.0 (numbered_ends xs rest e) in
    let two = signed_of-signed_decimal y (numbered ys others) b.0 (numbered_ends ys others f) in
    let both : signed_of (32 ∷ (signed_decimal x ++ numbered xs rest)) ≡ signed_of (32 ∷ (signed_decimal y ++ numbered ys others)) = ap signed_of h in
    let same = sym one ∙ both ∙ two in
    one_more x y xs ys rest others (ap (λ o. (first_read o).0) same)
    (same_by xs ys rest others (omega arith) a.1 b.1 e f (ap (λ o. (first_read o).1) same))

-- what stands behind as many numbers
pub others_stand : (xs ys zs : List ℤ) (others rest text : List ℕ) → length xs ≡ length ys → Stand xs others text → Stand (ys ++ zs) rest text
    → (xs ≡ ys) × Stand zs rest others
others_stand xs ys zs others rest text l a b =
    let first = first_stand ys zs rest text b in
    let same = same_by xs ys others (numbered zs rest) l a.near first.near a.ends first.ends (sym a.is ∙ first.is) in
    (same.numbers, record { near = (near_parts ys zs b.near).1; ends = b.ends; is = same.behind })

pub short_stands : (n : ℕ) (rest text : List ℕ) → IsSpaced 4294967295 n rest text → Stand (pos n ∷ []) rest text
short_stands n rest text a = record { near = (omega (arith, a.small), tt); ends = a.ends; is = a.is }

pub short_there : (n : ℕ) (zs : List ℤ) (rest text : List ℕ) → n ≤ 4294967295 → Stand (pos n ∷ zs) rest text
    → IsSpaced 4294967295 n (numbered zs rest) text
short_there n zs rest text l s = record { small = l; ends = numbered_ends zs rest s.ends; is = s.is }
