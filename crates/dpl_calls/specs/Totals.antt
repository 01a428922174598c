-- How many calls are carried out, and how many primitives come.
use Rattle.std.specs.Prelude.{ℕ, zero, suc, ◌+◌, ◌^◌, min, List, length, sum_by, Some}
use Rattle.dpl_calls.specs.declared.figure.Figure.TheVariants.{Rectangle, Polygon}
use Rattle.dpl_calls.specs.Parts.{Part, Bodies}
use Rattle.dpl_calls.specs.Parts.Part.{Drawn, Called}

-- what a part counts alone, and what the definition that it calls counts
abbrev pub part_total : (Part → ℕ) → Bodies → (List Part → ℕ) → Part → ℕ
part_total own bodies inner (Drawn figure) = own (Drawn figure)
part_total own bodies inner (Called n moves) = own (Called n moves) + inner (bodies (Some n))

-- what all these parts count, with calls carried out at most so deep
abbrev pub total_of : (Part → ℕ) → ℕ → Bodies → List Part → ℕ
total_of own zero bodies parts = 0
total_of own (suc depth) bodies parts =
    sum_by (part_total own bodies (total_of own depth bodies)) parts

-- a call counts one
abbrev pub own_calls : Part → ℕ
own_calls (Drawn figure) = 0
own_calls (Called n moves) = 1

-- a rectangle counts one, a polygon as many as it has points
abbrev pub own_weight : Part → ℕ
own_weight (Drawn (Rectangle e)) = 1
own_weight (Drawn (Polygon corners)) = length corners
own_weight (Called n moves) = 0

-- the count that is shown
abbrev pub shown : ℕ → ℕ
shown n = min n (10 ^ 12)
