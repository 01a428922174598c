-- The first place at which two things differ.
use Rattle.std.specs.Prelude.{ℕ, ℤ, pos, ◌==◌, List, [], ◌∷◌, Option, None, Some, if◌then◌else◌}
use Rattle.std.specs.Ordering.{int_eq}
use Rattle.dpl_rules.specs.Readers.{or_else}
use Rattle.dpl_good.specs.declared.refusals.Miss.{Miss}

abbrev pub miss : ℕ → ℤ → ℤ → Miss
miss place found wanted = record { place = place; found = found; wanted = wanted }

abbrev pub number_miss : ℕ → ℕ → ℕ → Option Miss
number_miss place found wanted =
    if found == wanted then None else Some (miss place (pos found) (pos wanted))

-- two numbers of any sign
abbrev pub pair_miss : ℕ → ℤ → ℤ → Option Miss
pair_miss place x y = if int_eq x y then None else Some (miss place x y)

-- the first bytes that differ, 256 for the end of a name
abbrev pub name_miss : ℕ → List ℕ → List ℕ → Option Miss
name_miss place [] [] = None
name_miss place [] (b ∷ bs) = pair_miss place (pos 256) (pos b)
name_miss place (a ∷ others) [] = pair_miss place (pos a) (pos 256)
name_miss place (a ∷ others) (b ∷ bs) =
    or_else (pair_miss place (pos a) (pos b)) (name_miss place others bs)

-- the first numbers that differ
abbrev pub numbers_miss : ℕ → List ℤ → List ℤ → Option Miss
numbers_miss place [] ys = None
numbers_miss place (x ∷ xs) [] = None
numbers_miss place (x ∷ xs) (y ∷ ys) = or_else (pair_miss place x y) (numbers_miss place xs ys)
