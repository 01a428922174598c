-- Alternating trees over the tops of moats: Edmonds' trees, all at once, in which the joins that members have are as long as
-- their loads.
use Rattle.std.specs.Prelude.{◌≡◌, ◌≢◌, ℕ, ◌+◌, ◌*◌, ◌<◌, true, None, length}
use Rattle.dpl_laminar.specs.Families.{Sets, load_of}
use Rattle.dpl_laminar.specs.Storing.{sets_of}
use Rattle.dpl_dual.specs.declared.crosses.Dual.{Dual}
use Rattle.dpl_dual.specs.Duals.{way_at}
use Rattle.dpl_tree.specs.Stages.{IsStage, IsReady, AreRanked, KeepsTrees, potential}
use Rattle.dpl_tree.specs.steps.Forests.{Forest, IsPair, free, outer}
use Rattle.dpl_tree.specs.Views as views
use Rattle.dpl_tree.specs.Views.{forest_of}
use Rattle.dpl_flood.specs.declared.event.Crossing.{Crossing}
use Rattle.dpl_flood.specs.declared.state.State.{State}
use Rattle.dpl_flood.specs.Arenas.{IsLonger, IsOver}
use Rattle.dpl_flood.specs.Joins.{AreJoins, HaveSeats, dist_in}
use Rattle.dpl_flood.specs.Seas.{Sea, IsNamed, HaveMet}
use Rattle.dpl_flood.specs.States.{IsState, sea_of}

-- the trees of a state, with the pairs between its tops
abbrev pub trees_of : State → Forest
trees_of x = forest_of x.tree x.mates.items

-- how far two members are, by the joins that members have
abbrev pub dist_of : Dual → State → ℕ → ℕ → ℕ
dist_of d x = dist_in d.crosses x.arena x.joins (sets_of x.family)

-- a member that names a tree, of which its top is one
pub record NamesTree (s : Sea) (x : Forest) (a : ℕ) : Type 0 where
  pub named : IsNamed s a
  pub own : x.tree (s.sets.top a) ≡ a

-- Pairs, links and joins of rings are tight by some distances, each top has a pair or is outer, each tree is named by a member,
-- and only tops rest.
pub record AreTrees (dist : ℕ → ℕ → ℕ) (s : Sea) (x : Forest) : Type 0 where
  pub stage : IsStage s.sets.size s.sets dist x
  pub ready : (k : ℕ) → k < s.sets.size → IsReady s.sets.size s.sets x k
  pub names : (i : ℕ) → x.place i ≢ free → NamesTree s x (x.tree i)
  pub idle : (k : ℕ) → s.rests k ≡ true → (s.sets.live k ≡ true) × (s.sets.parent k ≡ None)

-- What a state with trees keeps.
pub record IsForested (d : Dual) (x : State) : Type 0 where
  pub state : IsState d x
  pub members : length x.seats ≡ (sets_of x.family).size
  pub mates : length x.mates.items ≡ (sets_of x.family).size
  pub sized : views.IsSized (sets_of x.family).size x.tree
  pub joins : AreJoins d.crosses x.arena x.joins
  pub seats : HaveSeats x.arena x.seats
  pub trees : AreTrees (dist_of d x) (sea_of x) (trees_of x)

-- trees, pairs and joins are as they were; chains may have been added
pub record IsSameForest (x y : State) : Type 0 where
  pub seats : y.seats ≡ x.seats
  pub tree : y.tree ≡ x.tree
  pub mates : y.mates ≡ x.mates
  pub joins : y.joins ≡ x.joins
  pub arena : IsLonger x.arena y.arena

-- who has an outer top has one afterwards, in the same tree
abbrev pub KeepsOuter : Sets → Forest → Sets → Forest → Type 0
KeepsOuter f x g y = (a : ℕ) → a < f.size → x.place (f.top a) ≡ outer → (y.place (g.top a) ≡ outer) × (y.tree (g.top a) ≡ x.tree (f.top a))

-- An event of trees, at the same time: they are nearer to their end, no new one has begun and none has ended, and ranks have
-- risen by little.
pub record IsNearer (x y : State) : Type 0 where
  pub time : y.time ≡ x.time
  pub seats : y.seats ≡ x.seats
  pub falls : potential (sets_of x.family).size (sets_of y.family) (trees_of y).place <
      potential (sets_of x.family).size (sets_of x.family) (trees_of x).place
  pub trees : KeepsTrees (trees_of x) (trees_of y)
  pub stay : KeepsOuter (sets_of x.family) (trees_of x) (sets_of y.family) (trees_of y)
  pub ranks : (bound : ℕ) → AreRanked (trees_of x) bound → AreRanked (trees_of y) (bound + 4 * (sets_of x.family).size)

-- two members of tops that grow are tight by the joins that members have
pub record IsTied (d : Dual) (x : State) (p : ℕ × ℕ) : Type 0 where
  pub forest : IsForested d x
  pub pair : IsPair (sets_of x.family).size (sets_of x.family) (trees_of x).place outer p.0 p.1
  pub tight : load_of (sets_of x.family) p.0 p.1 ≡ dist_of d x p.0 p.1

-- two tops have met over a way
pub record IsMeeting (d : Dual) (x : State) (c : Crossing) : Type 0 where
  pub forest : IsForested d x
  pub over : IsOver d.crosses c.from c.way c.to
  pub met : HaveMet (sea_of x) c.from c.to (way_at d.crosses c.way).length

-- What they have over it is noted: these two members are tight by the joins that members have now, and nothing else is new.
pub record HasTied (d : Dual) (x y : State) (one two : ℕ) (p : ℕ × ℕ) : Type 0 where
  pub forest : IsForested d y
  pub rest : y ≡ record x { joins = y.joins }
  pub from : p.0 ≡ one
  pub to : p.1 ≡ two
  pub tight : load_of (sets_of x.family) p.0 p.1 ≡ dist_of d y p.0 p.1
