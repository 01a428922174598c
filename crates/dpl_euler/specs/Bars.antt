-- Why an edge is set aside: its two corners are on two faces of one component, so that it would merge them, and by Euler's
-- formula the excess would rise by 2. Corners and faces are those of rotation systems (Mohar and Thomassen, "Graphs on
-- Surfaces", 2001, chapter 3).
use Rattle.std.specs.Prelude.{◌≡◌, ℕ, ◌+◌, ◌*◌, ◌/◌, ◌<◌, true, false, length, All, Contains}
use Rattle.dpl_sign.specs.declared.nets.Net.{Net}
use Rattle.dpl_sign.specs.Walks.{edge_at, IsPath}
use Rattle.dpl_sign.specs.Drawings.{next_in_face, next_around}
use Rattle.dpl_map.specs.Maps.{is_kept}
use Rattle.dpl_euler.specs.declared.types.Bar.{Bar}
use Rattle.dpl_euler.specs.Cycles.{IsCycleFrom}

-- where a dart leaves its node among the kept edges: the dart that leaves over the first kept edge counterclockwise
-- after it
abbrev pub corner_at : Net → ℕ → ℕ
corner_at net d = next_around net (is_kept net) d

-- A face of the kept edges, from the corner at the smaller end of the edge on, that does not have the corner at the
-- larger end, and a walk of kept edges from the smaller end to the larger one.
pub record IsBar (net : Net) (bar : Bar) : Type 0 where
  pub inside : bar.edge < length net.graph.edges
  pub aside : is_kept net bar.edge ≡ false
  pub face : IsCycleFrom (next_in_face net (is_kept net)) (corner_at net (2 * bar.edge)) bar.face
  pub drawn : All (λ d. is_kept net (d / 2) ≡ true) bar.face
  pub apart : ¬ Contains bar.face (corner_at net (2 * bar.edge + 1))
  pub some : 0 < length bar.walk
  pub walk : IsPath net.graph (edge_at net.graph bar.edge).a bar.walk
      (edge_at net.graph bar.edge).b
  pub kept : All (λ e. is_kept net e ≡ true) bar.walk

-- all edges before this one are kept, and it is not
pub record IsFirstAside (net : Net) (e : ℕ) : Type 0 where
  pub inside : e < length net.graph.edges
  pub aside : is_kept net e ≡ false
  pub least : (x : ℕ) → x < e → is_kept net x ≡ true
