-- What is read as the parts are solved, and what is written.
use Rattle.std.specs.Prelude.{◌≡◌, ◌*◌, ◌≤◌, length}
use Rattle.dpl_limits.specs.declared.TheConstants.{MOST_EDGES}
use Rattle.dpl_map.specs.Views.{view_of}
use Rattle.dpl_map.specs.Built.{IsMapOf}
use Rattle.dpl_dual.specs.Duals.{IsDual}
use Rattle.dpl_pack.specs.Marks.{AreClear}
use Rattle.dpl_solve.specs.declared.drawn.Drawn.{Drawn}
use Rattle.dpl_solve.specs.declared.work.Marks.{Marks}
use Rattle.dpl_solve.specs.declared.work.Work.{Work}

-- a graph within the limit on edges, its map, and the dual of the map
pub record IsDrawn (w : Drawn) : Type 0 where
  pub map : IsMapOf w.graph.now w.map.now
  pub dual : IsDual w.graph.now (view_of w.map.now) w.dual.now
  pub edges : length w.graph.now.edges ≤ MOST_EDGES

-- no face and no dart is marked
pub record AreFree (w : Drawn) (marks : Marks) : Type 0 where
  pub faces : length marks.inside.items ≡ (view_of w.map.now).faces
  pub darts : length marks.seen.items ≡ 2 * length w.graph.now.edges
  pub inside : AreClear marks.inside.items
  pub seen : AreClear marks.seen.items

-- there is a place for each edge, and no mark is set
pub record IsReady (w : Drawn) (work : Work) : Type 0 where
  pub places : length work.joined.items ≡ length w.graph.now.edges
  pub marks : AreFree w work.marks
