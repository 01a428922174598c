-- What a piece wins and loses where it is turned over: an edge that leads out of it is broken afterwards exactly where it was not before.
use Rattle.std.specs.Prelude.{ℕ, ◌==◌, ◌&&◌, Bool, true, false, not, List, slice_index_or, sum_by, if◌then◌else◌}
use Rattle.dpl_sign.specs.declared.edges.Edge.{Edge}
use Rattle.dpl_sign.specs.Colourings.{agree, breaks}

abbrev pub piece_at : List ℕ → ℕ → ℕ
piece_at piece v = slice_index_or piece v 0

-- exactly one end of the edge is of the piece
abbrev pub leads_out : List ℕ → ℕ → Edge → Bool
leads_out piece p e = not (agree (piece_at piece e.a == p) (piece_at piece e.b == p))

-- the weight of an edge that leads out and is broken, or is not broken
abbrev pub weighed_at : Bool → List ℕ → List Bool → ℕ → Edge → ℕ
weighed_at broken piece colours p e =
    if leads_out piece p e && agree broken (breaks colours e) then e.weight else 0

abbrev pub weight_out : Bool → List Edge → List ℕ → List Bool → ℕ → ℕ
weight_out broken edges piece colours p = sum_by (weighed_at broken piece colours p) edges

-- what is broken is won
abbrev pub won_of : List Edge → List ℕ → List Bool → ℕ → ℕ
won_of edges piece colours p = weight_out true edges piece colours p

-- what is not broken is lost
abbrev pub lost_of : List Edge → List ℕ → List Bool → ℕ → ℕ
lost_of edges piece colours p = weight_out false edges piece colours p

-- the other colour, where it is turned over
abbrev pub turn : Bool → Bool → Bool
turn turned colour = if turned then not colour else colour
