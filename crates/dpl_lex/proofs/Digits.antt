-- A number does not shrink as digits are added.
use Rattle.std.proofs.Common.{ℕ, ◌+◌, ◌-◌, ◌*◌, ◌≤◌, List, [], ◌∷◌, Bool, true, false, cond, arith}
use Rattle.dpl_lex.specs.Classes.{is_digit}
use Rattle.dpl_lex.specs.Number.{digits_value}

le_cond : (b : Bool) (n x : ℕ) → n ≤ x → n ≤ cond b x n
le_cond true n x h = h
le_cond false n x h = omega arith

pub le_digits_value : (n : ℕ) (bs : List ℕ) → n ≤ digits_value n bs
le_digits_value n [] = omega arith
le_digits_value n (b ∷ bs) = le_cond (is_digit b) n _ (omega (arith, le_digits_value (10 * n + (b - 48)) bs))
