-- The odd faces of the kept edges, each named by the least of its darts. They are the nodes of odd degree that the
-- conflict graphs of Xu and Chu 2010 pair, the terminals of a T-join in the dual graph.
use Rattle.std.specs.Prelude.{ℕ, Bool, List, filter}
use Rattle.std.specs.List.{range_with_len}
use Rattle.dpl_sign.specs.declared.nets.Net.{Net}
use Rattle.dpl_sign.specs.Drawings.{is_in, dart_count}
use Rattle.dpl_sign.specs.Excess.{kept_edges}
use Rattle.dpl_sign.specs.Parity.{is_odd_face}

-- the edge is kept
abbrev pub keeps : Net → ℕ → Bool
keeps net = is_in (kept_edges net)

-- all odd faces
abbrev pub odd_faces : Net → List ℕ
odd_faces net = filter (is_odd_face net (keeps net)) (range_with_len 0 (dart_count net))
