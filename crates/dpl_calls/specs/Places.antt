-- The definitions of a table by their places, and the graph of their calls.
use Rattle.std.specs.Prelude.{ℕ, ◌+◌, ◌==◌, List, [], ◌∷◌, map, Option, None, Some, if◌then◌else◌}
use Rattle.std.proofs.Math.ListN.{get_or}
use Rattle.indexmap.specs.IndexMap.{keys, values}
use Rattle.dpl_groups.specs.Graph.{Graph}
use Rattle.dpl_calls.specs.declared.table.Table.{Table}
use Rattle.dpl_calls.specs.Parts.{Part}
use Rattle.dpl_calls.specs.Parts.Part.{Drawn, Called}
use Rattle.dpl_calls.specs.Table.{entry_part}

abbrev pub one_further : Option ℕ → Option ℕ
one_further None = None
one_further (Some i) = Some (i + 1)

-- the place of a number among others
abbrev pub place_among : ℕ → List ℕ → Option ℕ
place_among n [] = None
place_among n (k ∷ ks) = if n == k then Some 0 else one_further (place_among n ks)

abbrev pub with_place : Option ℕ → List ℕ → List ℕ
with_place None places = places
with_place (Some i) places = i ∷ places

-- the places of the definitions that these parts call
abbrev pub called_places : List ℕ → List Part → List ℕ
called_places numbers [] = []
called_places numbers (Drawn figure ∷ parts) = called_places numbers parts
called_places numbers (Called n moves ∷ parts) =
    with_place (place_among n numbers) (called_places numbers parts)

-- the parts of the definition at a place
abbrev pub body_at : Table → ℕ → List Part
body_at t i = map entry_part (get_or (values t.definitions) i [])

-- for each definition the definitions that it calls, by their places
abbrev pub graph_of : Table → Graph
graph_of t = map (λ entries.
    called_places (keys t.definitions) (map entry_part entries)) (values t.definitions)
