-- What the functions below `combine` put together.
use Rattle.std.specs.Prelude.{◌≡◌, ℕ, zero, suc, ◌<◌, Bool, List, slice_index_or, slice_set}
use Rattle.dpl_sign.specs.Colourings.{colour_of}
use Rattle.dpl_parts.specs.Shares.{Part}
use Rattle.dpl_sum.specs.declared.combining.SolvedPart.{SolvedPart}

-- the part of a solved part, with the colours and the cycles of its solution
abbrev pub solved_part : SolvedPart → Part
solved_part s = record {
  net = s.part.net;
  node = λ v. slice_index_or s.part.nodes.items v 0;
  edge = λ e. slice_index_or s.part.edges.items e 0;
  colours = s.solution.colours.items;
  cycles = s.solution.cycles;
}

-- these colours at the places of the numbers below k
abbrev pub laid : (ℕ → ℕ) → (ℕ → Bool) → List Bool → ℕ → List Bool
laid place own colours zero = colours
laid place own colours (suc k) = slice_set (laid place own colours k) (place k) (own k)

-- the colours of a part at its nodes
abbrev pub with_part : Part → List Bool → List Bool
with_part p colours = laid p.node (colour_of p.colours) colours p.net.graph.nodes

-- the nodes of the first parts have their colours
abbrev pub AgreeBelow : List Bool → List Part → ℕ → Type 0
AgreeBelow colours parts n = (k : ℕ) (d : Part) → k < n → (v : ℕ) →
    v < (slice_index_or parts k d).net.graph.nodes →
    colour_of colours ((slice_index_or parts k d).node v)
    ≡ colour_of (slice_index_or parts k d).colours v
