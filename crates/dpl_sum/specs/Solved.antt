-- Solved parts of a net.
use Rattle.std.specs.Prelude.{◌≡◌, ◌≢◌, ◌<◌, ℕ, true, List, All, AllPairs, Contains, length, map, slice_index_or}
use Rattle.dpl_sign.specs.Colourings.{cost_of}
use Rattle.dpl_sign.specs.declared.nets.Net.{Net}
use Rattle.dpl_sign.specs.Drawings.{no_port}
use Rattle.dpl_sign.specs.Parity.{is_odd_face, AreOfOnePart}
use Rattle.dpl_sign.specs.Walks.{edge_at}
use Rattle.dpl_sign.specs.Excess.{all_edges, aside_edges, excess}
use Rattle.dpl_sign.specs.Packings.{bound_of}
use Rattle.dpl_parts.specs.Parts.{dart}
use Rattle.dpl_parts.specs.Shares.{Part}
use Rattle.dpl_solve.specs.Named.{keeps}
use Rattle.dpl_solve.specs.Solved.{IsSolution}

-- the colours and the cycles of a part are a solution of its net
abbrev pub IsSolved : Part → Type 0
IsSolved p = IsSolution p.net p.colours (cost_of p.net.graph p.colours) (aside_edges p.net)
    (excess p.net all_edges) p.cycles (bound_of p.cycles)

-- different odd faces of one part of the dual
pub record AreOddTogether (net : Net) (faces : List ℕ) : Type 0 where
  pub odd : All (λ f. is_odd_face net (keeps net) f ≡ true) faces
  pub apart : AllPairs (λ f g. f ≢ g) faces
  pub linked : AllPairs (AreOfOnePart net (keeps net)) faces

-- one of the parts has these odd faces, in its own numbers, in one part of its dual
pub record AreInOne (parts : List Part) (faces : List ℕ) : Type 0 where
  pub part : Part
  pub among : Contains parts part
  pub own : List ℕ
  pub together : AreOddTogether part.net own
  pub are : map (dart part.edge) own ≡ faces

-- the same nodes, edges and ports, whatever the pieces
pub record AreSameNets (old new : Net) : Type 0 where
  pub nodes : old.graph.nodes ≡ new.graph.nodes
  pub count : length old.graph.edges ≡ length new.graph.edges
  pub edges : (e : ℕ) → e < length old.graph.edges → edge_at old.graph e ≡ edge_at new.graph e
  pub ports : (e : ℕ) → e < length old.graph.edges →
      slice_index_or old.ports e (no_port, no_port) ≡ slice_index_or new.ports e (no_port, no_port)
