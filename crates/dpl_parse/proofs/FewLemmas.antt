-- The first eight numbers of a line make what all of them make.
use Rattle.std.proofs.Common.{◌≡◌, List, [], ◌∷◌, take, refl}
use Rattle.std.specs.Prelude.{ℤ}
use Rattle.dpl_report.specs.Reading.{count_from}

pub count_of_few : (zs : List ℤ) → count_from (take 8 zs) ≡ count_from zs
count_of_few [] = refl
count_of_few (a ∷ []) = refl
count_of_few (a ∷ b ∷ zs) = refl
