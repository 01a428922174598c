-- The boxes of two masks are compared one mask after the other, once they are as many.
use Rattle.std.proofs.Common.{arith, ◌≡◌, ℕ, ◌+◌, List, [], ◌∷◌, ◌++◌, length, refl, sym, ap, ◌∙◌, Option, None, Some}
use Rattle.dpl_cell.specs.Places.{Corners}
use Rattle.dpl_rules.specs.Readers.{or_else}
use Rattle.dpl_good.specs.declared.refusals.Miss.{Miss}
use Rattle.dpl_good.specs.Misses.{numbers_miss}
use Rattle.dpl_good.specs.Conditions.{corner_numbers, boxes_miss}

or_assoc : (a b c : Option Miss) → or_else (or_else a b) c ≡ or_else a (or_else b c)
or_assoc None b c = refl
or_assoc (Some x) b c = refl

-- lists of boxes in two parts, of which the first are as many, differ where one of the parts does
pub boxes_miss-append : (place : ℕ) (xs ys vs ws : List Corners) → length xs ≡ length vs
    → boxes_miss place (xs ++ ys) (vs ++ ws) ≡ or_else (boxes_miss place xs vs) (boxes_miss (place + length xs) ys ws)
boxes_miss-append place [] ys [] ws e = let k : place + 0 ≡ place = omega arith in rw k refl
boxes_miss-append place [] ys (v ∷ vs) ws e = absurd (omega arith)
boxes_miss-append place (x ∷ xs) ys [] ws e = absurd (omega arith)
boxes_miss-append place (x ∷ xs) ys (v ∷ vs) ws e =
    let k : place + length (x ∷ xs) ≡ place + 1 + length xs = omega arith in
    let first = numbers_miss place (corner_numbers x) (corner_numbers v) in
    let rest = boxes_miss-append (place + 1) xs ys vs ws (omega arith) in
    rw k (ap (or_else first) rest ∙ sym (or_assoc first (boxes_miss (place + 1) xs vs) (boxes_miss (place + 1 + length xs) ys ws)))
