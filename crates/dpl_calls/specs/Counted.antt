-- Totals of definitions, as they are kept.
use Rattle.std.specs.Prelude.{ℕ, ◌+◌, ◌<◌, ◌≡◌, List, length, Option, None, Some}
use Rattle.std.proofs.Math.ListN.{get_or}
use Rattle.dpl_groups.specs.Graph.{Graph, IsEdge}
use Rattle.dpl_calls.specs.declared.totals.Count.{Count}
use Rattle.dpl_calls.specs.declared.totals.Count.TheVariants.{Calls, Weight}
use Rattle.dpl_calls.specs.declared.table.Table.{Table}
use Rattle.dpl_calls.specs.Parts.{Part}
use Rattle.dpl_calls.specs.Parts.Part.{Drawn, Called}
use Rattle.dpl_calls.specs.Totals.{own_calls, own_weight, total_of, shown}
use Rattle.dpl_calls.specs.Table.{bodies_of}
use Rattle.dpl_calls.specs.Places.{place_among, body_at}

abbrev pub own_of : Count → Part → ℕ
own_of Calls p = own_calls p
own_of Weight p = own_weight p

abbrev pub total_at : Option ℕ → List ℕ → ℕ
total_at None totals = 0
total_at (Some i) totals = get_or totals i 0

-- the total that is kept for a number
abbrev pub kept_of : List ℕ → List ℕ → ℕ → ℕ
kept_of numbers totals n = total_at (place_among n numbers) totals

-- what a part counts alone, and what is kept for the definition that it calls
abbrev pub kept_total : (Part → ℕ) → (ℕ → ℕ) → Part → ℕ
kept_total own kept (Drawn figure) = own (Drawn figure)
kept_total own kept (Called n moves) = own (Called n moves) + kept n

-- no edge stays in its group
abbrev pub HasNoLoop : Graph → List ℕ → Type 0
HasNoLoop g labels = (x y : ℕ) → IsEdge g x y → get_or labels y 0 < get_or labels x 0

-- the totals of all definitions, with calls carried out at most as deep as there are definitions
abbrev pub AreTotals : Count → Table → List ℕ → Type 0
AreTotals count t totals = (x : ℕ) → x < length t.definitions.entries
    → get_or totals x 0 ≡ shown (total_of (own_of count) (length t.definitions.entries)
    (bodies_of t) (body_at t x))

-- the totals of the groups with a smaller number
abbrev pub AreRight : (Part → ℕ) → Table → List ℕ → ℕ → List ℕ → Type 0
AreRight own t labels k totals = (x : ℕ) → x < length t.definitions.entries → get_or labels x 0 < k
    → get_or totals x 0 ≡ shown (total_of own (length t.definitions.entries) (bodies_of t)
    (body_at t x))
