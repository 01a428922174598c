-- What is read as a number is written so.
use Rattle.std.proofs.Common.{arith, ◌≡◌, ◌∙◌, ℕ, suc, ◌+◌, ◌-◌, ◌*◌, ◌/◌, ◌%◌, ◌≤◌, ◌<◌, ◌^◌, Bool, true, false, List}
use Rattle.std.proofs.Common.{[], ◌∷◌, ◌++◌, refl, sym, subst, ap, append-nil, append_assoc, Option, Some}
use Rattle.std.specs.Prelude.{ℤ, pos, ◌-ℤ◌, unsigned_abs, nat_lt}
use Rattle.std.specs.List.{list_all}
use Rattle.std.specs.Fmt.{decimal}
use Rattle.std.proofs.lemmas.Fmt.{decimal_step, decimal_digit}
use Rattle.std.proofs.lemmas.Bool.{and_parts}
use Rattle.std.proofs.lemmas.Bool.Decides.{nat_tests}
use Rattle.dpl_lex.specs.Classes.{is_digit, drop_while}
use Rattle.dpl_lex.specs.Number.{greatest, digits_value, of_magnitude, of_negated, digits_at}
use Rattle.dpl_lex.specs.declared.number.Num.{Num}
use Rattle.dpl_lex.specs.declared.number.Num.TheVariants.{Value, Big, Nothing}
use Rattle.dpl_lex.proofs.Digits.{le_digits_value}
use Rattle.dpl_rules.specs.Readers.{number_at_front, beyond}
use Rattle.dpl_boxes.specs.Written.{AreDigits, has_no_digit}
use Rattle.dpl_boxes.proofs.NumberLemmas.{digits_value-behind}

pub from_some : {A : Type 0} → (a b : A) → ◌≡◌ {A = Option A} (Some a) (Some b) → a ≡ b
from_some a b e = cc

-- a list by what passes a test at its front

pub record Split (p : ℕ → Bool) (bs : List ℕ) : Type 0 where
  pub front : List ℕ
  pub rest : List ℕ
  pub is : bs ≡ front ++ rest
  pub all : list_all p front ≡ true
  pub drop : drop_while p bs ≡ rest

split_more : (p : ℕ → Bool) (b : ℕ) (bs : List ℕ) → p b ≡ true → Split p bs → Split p (b ∷ bs)
split_more p b bs e s = record {
  front = b ∷ s.front;
  rest = s.rest;
  is = ap (λ x. b ∷ x) s.is;
  all = rw e s.all;
  drop = rw e s.drop;
}

split_none : (p : ℕ → Bool) (b : ℕ) (bs : List ℕ) → p b ≡ false → Split p (b ∷ bs)
split_none p b bs e = record { front = []; rest = b ∷ bs; is = refl; all = refl; drop = rw e refl }

pub split : (p : ℕ → Bool) (bs : List ℕ) → Split p bs
split p [] = record { front = []; rest = []; is = refl; all = refl; drop = refl }
split p (b ∷ bs) = (elim (p b) as (λ t. p b ≡ t → Split p (b ∷ bs))
    [ true ↦ λ e. split_more p b bs e (split p bs) | false ↦ λ e. split_none p b bs e ]) refl

-- what is left begins with none that passes
dropped : (bs : List ℕ) → has_no_digit (drop_while is_digit bs) ≡ true
dropped [] = refl
dropped (b ∷ bs) = (elim (is_digit b) as (λ t. is_digit b ≡ t → has_no_digit (drop_while is_digit (b ∷ bs)) ≡ true)
    [ true ↦ λ e. rw e (dropped bs) | false ↦ λ e. rw (e, e) refl ]) refl

-- digits are the decimal of their value, behind zeros

at_least : (c : ℕ) → is_digit c ≡ true → 48 ≤ c
at_least c h = grind (arith, nat_tests)

at_most : (c : ℕ) → is_digit c ≡ true → c ≤ 57
at_most c h = grind (arith, nat_tests)

value_after : (n : ℕ) (ds : List ℕ) → 0 < n → list_all is_digit ds ≡ true → digits_value n ds < 2 ^ 64 → decimal (digits_value n ds) ≡ decimal n ++ ds
value_after n [] l h s = rw append-nil refl
value_after n (c ∷ cs) l h s =
    let p = and_parts (is_digit c) (list_all is_digit cs) h in
    let m : ℕ = 10 * n + (c - 48) in
    let few : digits_value m cs < 2 ^ 64 = rw (p.0) at s in
    let low = at_least c p.0 in
    let high = at_most c p.0 in
    let small : m < 2 ^ 64 = omega (arith, le_digits_value m cs) in
    let front : m / 10 ≡ n = omega arith in
    let last : 48 + m % 10 ≡ c = omega arith in
    let step : decimal m ≡ decimal (m / 10) ++ (48 + m % 10) ∷ [] = decimal_step m (omega arith) small in
    let both : decimal m ≡ decimal n ++ c ∷ [] = step ∙ (λ i. decimal (front i) ++ (last i ∷ [])) in
    rw (p.0) (value_after m cs (omega arith) p.1 few ∙ ap (λ x. x ++ cs) both ∙ append_assoc (decimal n) (c ∷ []) cs)

one_digit : (d : ℕ) → is_digit d ≡ true → decimal (d - 48) ≡ d ∷ []
one_digit d h =
    let low = at_least d h in
    let high = at_most d h in
    decimal_digit (d - 48) (omega arith) ∙ ap (λ x. x ∷ []) (omega arith)

more_digits : (d : ℕ) (ds : List ℕ) → is_digit d ≡ true → list_all is_digit ds ≡ true → 48 < d
    → digits_value (d - 48) ds ≤ greatest → d ∷ ds ≡ decimal (digits_value (d - 48) ds)
more_digits d ds h a l s = sym (value_after (d - 48) ds (omega arith) a (omega arith) ∙ ap (λ x. x ++ ds) (one_digit d h))

first_value : (d : ℕ) (ds : List ℕ) → is_digit d ≡ true → digits_value 0 (d ∷ ds) ≡ digits_value (d - 48) ds
first_value d ds h = let e : 10 * 0 + (d - 48) ≡ d - 48 = omega arith in rw (h, e) refl

zero_before : (n : ℕ) (ds : List ℕ) → AreDigits n ds → AreDigits n (48 ∷ ds)
zero_before n ds d = (suc d.0, ap (λ x. 48 ∷ x) d.1)

from_nonzero : (d : ℕ) (ds : List ℕ) → is_digit d ≡ true → list_all is_digit ds ≡ true → 48 < d
    → digits_value 0 (d ∷ ds) ≤ greatest → AreDigits (digits_value 0 (d ∷ ds)) (d ∷ ds)
from_nonzero d ds h a l s =
    let v = first_value d ds h in
    let t : digits_value (d - 48) ds ≤ greatest = rw v at s in
    rw v (0, more_digits d ds h a l t)

is_zero : (d : ℕ) → is_digit d ≡ true → nat_lt 48 d ≡ false → 48 ≡ d
is_zero d h t = let low = at_least d h in grind (arith, nat_tests)

is_nonzero : (d : ℕ) → nat_lt 48 d ≡ true → 48 < d
is_nonzero d t = grind (arith, nat_tests)

-- by the list behind its first digit
pub are_digits : (d : ℕ) (ds : List ℕ) → is_digit d ≡ true → list_all is_digit ds ≡ true
    → digits_value 0 (d ∷ ds) ≤ greatest → AreDigits (digits_value 0 (d ∷ ds)) (d ∷ ds)
are_digits d [] h a s = rw (first_value d [] h) (0, sym (one_digit d h))
are_digits d (e ∷ es) h a s = (elim (nat_lt 48 d) as (λ t. nat_lt 48 d ≡ t → AreDigits (digits_value 0 (d ∷ e ∷ es)) (d ∷ e ∷ es)) [
  | true ↦ λ t. from_nonzero d (e ∷ es) h a (is_nonzero d t) s
  | false ↦ λ t.
      let z = is_zero d h t in
      let p = and_parts (is_digit e) (list_all is_digit es) a in
      let few : digits_value 0 (48 ∷ e ∷ es) ≤ greatest = subst (λ x. digits_value 0 (x ∷ e ∷ es) ≤ greatest) (sym z) s in
      let others = are_digits e es p.0 p.1 few in
      subst (λ x. AreDigits (digits_value 0 (x ∷ e ∷ es)) (x ∷ e ∷ es)) z (zero_before (digits_value 0 (e ∷ es)) (e ∷ es) others)
]) refl

-- what is read at the front of some bytes: its digits, and what follows them
pub record Digits (of : ℕ → Num) (bs : List ℕ) (z : ℤ) (rest : List ℕ) : Type 0 where
  pub first : ℕ
  pub others : List ℕ
  pub is : bs ≡ (first ∷ others) ++ rest
  pub digit : is_digit first ≡ true
  pub all : list_all is_digit others ≡ true
  pub apart : has_no_digit rest ≡ true
  pub found : number_at_front (of (digits_value 0 (first ∷ others))) rest ≡ Some (z, rest)

same_rest : (n : Num) (r rest : List ℕ) (z : ℤ) → number_at_front n r ≡ Some (z, rest) → r ≡ rest
same_rest (Value y) r rest z h = let e : ◌≡◌ {A = ℤ × List ℕ} (y, r) (z, rest) = from_some (y, r) (z, rest) h in ap (λ (q : ℤ × List ℕ). q.1) e
same_rest Big r rest z h = let e : ◌≡◌ {A = ℤ × List ℕ} (pos beyond, r) (z, rest) = from_some (pos beyond, r) (z, rest) h in ap (λ (q : ℤ × List ℕ). q.1) e
same_rest Nothing r rest z h = absurd (cc)

digits_there : (of : ℕ → Num) (b : ℕ) (bs : List ℕ) (z : ℤ) (rest : List ℕ) (s : Split is_digit bs) → is_digit b ≡ true
    → number_at_front (of (digits_value (10 * 0 + (b - 48)) bs)) (drop_while is_digit bs) ≡ Some (z, rest) → Digits of (b ∷ bs) z rest
digits_there of b bs z rest s e h =
    let r = same_rest (of (digits_value (10 * 0 + (b - 48)) bs)) (drop_while is_digit bs) rest z h in
    let same : s.rest ≡ rest = sym s.drop ∙ r in
    let left : has_no_digit (drop_while is_digit bs) ≡ true = dropped bs in
    let no : has_no_digit s.rest ≡ true = rw s.drop at left in
    let value : digits_value (10 * 0 + (b - 48)) bs ≡ digits_value (10 * 0 + (b - 48)) s.front =
    ap (digits_value (10 * 0 + (b - 48))) s.is ∙ digits_value-behind (10 * 0 + (b - 48)) s.front s.rest s.all no in
    let parts : b ∷ bs ≡ (b ∷ s.front) ++ rest = rw (← same) (ap (λ x. b ∷ x) s.is) in
    record {
      first = b;
      others = s.front;
      is = parts;
      digit = e;
      all = s.all;
      apart = rw (← same) no;
      found = rw (e, ← value) (rw r at h);
    }

pub digits_read : (of : ℕ → Num) (whole bs : List ℕ) (z : ℤ) (rest : List ℕ)
    → number_at_front (digits_at of whole bs).0 (digits_at of whole bs).1 ≡ Some (z, rest) → Digits of bs z rest
digits_read of whole [] z rest h = absurd (cc)
digits_read of whole (b ∷ bs) z rest h = (elim (is_digit b) as (λ t. is_digit b ≡ t → Digits of (b ∷ bs) z rest) [
  | true ↦ λ e. digits_there of b bs z rest (split is_digit bs) e (rw e at h)
  | false ↦ λ e. let g : number_at_front Nothing whole ≡ Some (z, rest) = rw e at h in absurd (cc)
]) refl

-- a number within the bounds is no stand-in

too_big : (z : ℤ) (rest : List ℕ) → unsigned_abs z ≤ greatest → ◌≡◌ {A = Option (ℤ × List ℕ)} (Some (pos beyond, rest)) (Some (z, rest)) → ⊥
too_big z rest l h =
    let e : ◌≡◌ {A = ℤ × List ℕ} (pos beyond, rest) (z, rest) = from_some (pos beyond, rest) (z, rest) h in
    let f : pos beyond ≡ z = ap (λ (q : ℤ × List ℕ). q.0) e in
    let g : unsigned_abs (pos beyond) ≤ greatest = rw (← f) at l in
    omega arith

same_value : (y z : ℤ) (rest : List ℕ) → ◌≡◌ {A = Option (ℤ × List ℕ)} (Some (y, rest)) (Some (z, rest)) → y ≡ z
same_value y z rest h = let e : ◌≡◌ {A = ℤ × List ℕ} (y, rest) (z, rest) = from_some (y, rest) (z, rest) h in ap (λ (q : ℤ × List ℕ). q.0) e

-- what a number of this magnitude stands for
pub record Stands (y : ℤ) (n : ℕ) (z : ℤ) : Type 0 where
  pub few : n ≤ greatest
  pub same : y ≡ z

within : (n : ℕ) → nat_lt greatest n ≡ false → n ≤ greatest
within n e = grind (arith, nat_tests)

pub plain_stands : (n : ℕ) (z : ℤ) (rest : List ℕ) → unsigned_abs z ≤ greatest → number_at_front (of_magnitude n) rest ≡ Some (z, rest) → Stands (pos n) n z
plain_stands n z rest l h = (elim (nat_lt greatest n) as (λ t. nat_lt greatest n ≡ t → Stands (pos n) n z) [
  | true ↦ λ e. absurd (too_big z rest l (rw e at h))
  | false ↦ λ e. record { few = within n e; same = same_value (pos n) z rest (rw e at h) }
]) refl

pub minus_stands : (n : ℕ) (z : ℤ) (rest : List ℕ) → unsigned_abs z ≤ greatest → number_at_front (of_negated n) rest ≡ Some (z, rest) → Stands (pos 0 -ℤ pos n) n z
minus_stands n z rest l h = (elim (nat_lt greatest n) as (λ t. nat_lt greatest n ≡ t → Stands (pos 0 -ℤ pos n) n z) [
  | true ↦ λ e. absurd (too_big z rest l (rw e at h))
  | false ↦ λ e. record { few = within n e; same = same_value (pos 0 -ℤ pos n) z rest (rw e at h) }
]) refl
