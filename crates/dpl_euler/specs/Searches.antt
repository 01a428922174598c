-- A search over the edges of a set, breadth first. Only its own steps say this.
use Rattle.std.specs.Prelude.{◌≡◌, ℕ, ◌<◌, ◌≤◌, Bool, true, List, [], length, slice_index_or, All, Contains, Option, Some, None, is_some}
use Rattle.dpl_sign.specs.declared.graphs.Signed.{Signed}
use Rattle.dpl_sign.specs.Walks.{edge_at, across, leaves}
use Rattle.dpl_sign.specs.Drawings.{is_in}
use Rattle.dpl_euler.specs.declared.searching.Step.{Step}

-- an edge of the set at a node
abbrev pub IsAt : Signed → List Bool → ℕ → ℕ → Type 0
IsAt g set v e = (leaves g e v ≡ true) × (is_in set e ≡ true)

-- for each node the edges of the set at it
pub record AreRows (g : Signed) (set : List Bool) (rows : List (List ℕ)) : Type 0 where
  pub sizes : length rows ≡ g.nodes
  pub only : (v : ℕ) → All (IsAt g set v) (slice_index_or rows v [])
  pub all : (v e : ℕ) → IsAt g set v e → Contains (slice_index_or rows v []) e

-- what stands where there is no step
abbrev pub no_step : Step
no_step = record { node = 0; edge = 0; from = 0 }

abbrev pub step_at : List Step → ℕ → Step
step_at steps p = slice_index_or steps p no_step

-- the place of a node's step, if the node was reached
abbrev pub place_of : List (Option ℕ) → ℕ → Option ℕ
place_of places v = slice_index_or places v None

abbrev pub is_reached : List (Option ℕ) → ℕ → Bool
is_reached places v = is_some (place_of places v)

-- a step over an edge of the set back to the node of an earlier step
pub record LeadsBack (g : Signed) (set : List Bool) (steps : List Step) (p : ℕ)
    (step : Step) : Type 0 where
  pub earlier : step.from < p
  pub at : IsAt g set step.node step.edge
  pub there : across (edge_at g step.edge) step.node ≡ (step_at steps step.from).node

-- the nodes that were reached from one node, each by a step that leads back to an earlier one
pub record AreSteps (g : Signed) (set : List Bool) (goal : ℕ) (steps : List Step)
    (places : List (Option ℕ)) : Type 0 where
  pub sizes : length places ≡ g.nodes
  pub some : 0 < length steps
  pub first : (step_at steps 0).node ≡ goal
  pub nodes : (p : ℕ) → p < length steps → (step_at steps p).node < g.nodes
  pub back : (p : ℕ) → 0 < p → p < length steps → LeadsBack g set steps p (step_at steps p)
  pub found : (v p : ℕ) → place_of places v ≡ Some p →
      (p < length steps) × ((step_at steps p).node ≡ v)
  pub noted : (p : ℕ) → p < length steps → place_of places (step_at steps p).node ≡ Some p

-- each edge of the set at the node leads to one that was reached
abbrev pub IsClosed : Signed → List Bool → List (Option ℕ) → ℕ → Type 0
IsClosed g set places v = (e : ℕ) → IsAt g set v e →
    is_reached places (across (edge_at g e) v) ≡ true

-- the first steps were followed
abbrev pub AreFollowed : Signed → List Bool → List Step → List (Option ℕ) → ℕ → Type 0
AreFollowed g set steps places k = (p : ℕ) → p < k →
    IsClosed g set places (step_at steps p).node

-- what was reached before still is, by the same steps
pub record GoesOn (steps new : List Step) (places later : List (Option ℕ)) : Type 0 where
  pub longer : length steps ≤ length new
  pub same : (p : ℕ) → p < length steps → step_at new p ≡ step_at steps p
  pub reached : (v : ℕ) → is_reached places v ≡ true → is_reached later v ≡ true
