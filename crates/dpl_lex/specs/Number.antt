-- The integers of a command (Mead and Conway 1980, section 4.5).
use Rattle.std.specs.Prelude.{◌-ℤ◌, ◌≡◌, ◌<◌, ◌≤◌, ℕ, pos, ◌+◌, ◌-◌, ◌*◌, ◌^◌, nat_lt, List, [], ◌∷◌, if◌then◌else◌, ◌==◌}
use Rattle.dpl_lex.specs.Classes.{is_digit, is_separator, drop_while}
use Rattle.dpl_lex.specs.declared.number.Num.{Num}
use Rattle.dpl_lex.specs.declared.number.Num.TheVariants.{Value, Big, Nothing}

-- the greatest magnitude
abbrev pub greatest : ℕ
greatest = 10 ^ 12

-- the number that n and the digits at the front make
abbrev pub digits_value : ℕ → List ℕ → ℕ
digits_value n [] = n
digits_value n (b ∷ bs) = if is_digit b then digits_value (10 * n + (b - 48)) bs else n

-- n without a sign
abbrev pub of_magnitude : ℕ → Num
of_magnitude n = if nat_lt greatest n then Big else Value (pos n)

-- n behind a minus
abbrev pub of_negated : ℕ → Num
of_negated n = if nat_lt greatest n then Big else Value (pos 0 -ℤ pos n)

-- the integer whose digits stand here, and what follows them; where there are none, nothing of the whole is passed
abbrev pub digits_at : (ℕ → Num) → List ℕ → List ℕ → Num × List ℕ
digits_at of whole [] = (Nothing, whole)
digits_at of whole (b ∷ bs) =
    if is_digit b then (of (digits_value 0 (b ∷ bs)), drop_while is_digit (b ∷ bs))
    else (Nothing, whole)

-- the same behind a minus that may stand there
abbrev pub signed_digits_at : List ℕ → List ℕ → Num × List ℕ
signed_digits_at whole [] = (Nothing, whole)
signed_digits_at whole (b ∷ bs) =
    if b == 45 then digits_at of_negated whole bs else digits_at of_magnitude whole (b ∷ bs)

-- the integer without a sign behind the separators, and what follows it
abbrev pub unsigned_at : List ℕ → Num × List ℕ
unsigned_at bytes = digits_at of_magnitude bytes (drop_while is_separator bytes)

-- the integer behind the separators, and what follows it
abbrev pub signed_at : List ℕ → Num × List ℕ
signed_at bytes = signed_digits_at bytes (drop_while is_separator bytes)

-- kept is n, or both are beyond the greatest magnitude
pub record StandsFor (n kept : ℕ) : Type 0 where
  pub same : kept ≤ greatest → kept ≡ n
  pub beyond : greatest < kept → greatest < n
