-- All parts of the dual, and the optimum.
use Rattle.std.specs.Prelude.{◌≡◌, ℕ, ◌+◌, ◌*◌, ◌%◌, ◌<◌, ◌≤◌, Bool, List, length, map, take, All}
use Rattle.dpl_sign.specs.declared.graphs.Signed.{Signed}
use Rattle.dpl_sign.specs.declared.nets.Net.{Net}
use Rattle.dpl_sign.specs.Drawings.{face_count}
use Rattle.dpl_sign.specs.declared.walks.Cycle.{Cycle}
use Rattle.dpl_sign.specs.Packings.{IsPacking, bound_of}
use Rattle.dpl_map.specs.Views.{MapView, view_of}
use Rattle.dpl_map.specs.Planes.{joined_bit}
use Rattle.dpl_colour.specs.Meets.{MeetsFaces}
use Rattle.dpl_dual.specs.declared.crosses.Dual.{Dual}
use Rattle.dpl_solve.specs.declared.drawn.Drawn.{Drawn}
use Rattle.dpl_solve.specs.declared.work.Work.{Work}
use Rattle.dpl_flood.specs.Flips.{all_ways, times}
use Rattle.dpl_solve.specs.Parts.{Part, IsPart, IsPaired, all_cycles, all_chains}
use Rattle.dpl_solve.specs.Groups.{numbers_of}
use Rattle.dpl_solve.specs.Tight.{PassKept, joined_weight}
use Rattle.dpl_solve.specs.Named.{keeps, odd_faces}
use Rattle.dpl_solve.specs.Solved.{PassOnce}

-- the parts of the first n groups are solved
pub record AreSolved (w : Drawn) (groups : List (List ℕ)) (n : ℕ) (work : Work) : Type 0 where
  pub parts : List Part
  pub numbers : map (λ p. p.part) parts ≡ numbers_of w.dual.now (take n groups)
  pub are : All (IsPart w.graph.now (view_of w.map.now) w.dual.now) parts
  pub paired : All (IsPaired w.dual.now) parts
  pub cycles_are : work.cycles.items ≡ all_cycles parts
  pub places : length work.joined.items ≡ length w.graph.now.edges
  pub joins : (e : ℕ) → e < length w.graph.now.edges → joined_bit work.joined.items e % 2
      ≡ times (all_ways (all_chains parts)) e % 2

-- joined edges that meet the faces, and a packing of no smaller weight
pub record IsOptimum (g : Signed) (m : MapView) (d : Dual) (joined : List Bool)
    (cycles : List Cycle) : Type 0 where
  pub places : length joined ≡ length g.edges
  pub meets : MeetsFaces g m joined
  pub packing : IsPacking g cycles
  pub kept : PassKept m cycles
  pub once : PassOnce cycles
  pub light : 2 * joined_weight g joined ≤ bound_of cycles
  pub few : length cycles ≤ d.faces + 2 * length d.odd

-- joined edges and cycles that make a solution
pub record MakeSolution (net : Net) (m : MapView) (joined : List Bool)
    (cycles : List Cycle) : Type 0 where
  pub places : length joined ≡ length net.graph.edges
  pub meets : MeetsFaces net.graph m joined
  pub packing : IsPacking net.graph cycles
  pub kept : PassKept m cycles
  pub once : PassOnce cycles
  pub light : 2 * joined_weight net.graph joined ≤ bound_of cycles
  pub few : length cycles ≤ face_count net (keeps net) + 2 * length (odd_faces net)
