-- Lines whose items rise by their edges.
use Rattle.std.specs.Prelude.{ℕ, ℤ, List, Option}
use Rattle.dpl_rules.specs.Readers.{◌>>=◌}
use Rattle.dpl_report.specs.Reading.{numbers_in, from_edge, if_written}

-- the item that the numbers of a line make, where its edge is not below the least one and this is its line
abbrev pub item_from : {X : Type 0} → (List ℤ → Option X) → (X → ℕ) → (X → List ℕ) → ℕ → List ℕ → Option X
item_from made_of edge_of line_of least line = made_of (numbers_in line) >>= λ x.
    from_edge least (edge_of x) x >>= if_written line_of line
