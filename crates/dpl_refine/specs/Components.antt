-- The components of a graph: the classes of its nodes under all its edges. What colours cost there, component by component.
use Rattle.std.specs.Prelude.{ℕ, ◌==◌, ◌&&◌, Bool, List, [], ◌∷◌, slice_index_or, sum_by, if◌then◌else◌}
use Rattle.dpl_classes.specs.Classes.{AreClasses}
use Rattle.dpl_sign.specs.declared.edges.Edge.{Edge}
use Rattle.dpl_sign.specs.declared.graphs.Signed.{Signed}
use Rattle.dpl_sign.specs.Colourings.{breaks}
use Rattle.dpl_sign.specs.Components.{component_of}
use Rattle.dpl_sign.specs.Excess.{all_edges}

-- edges lead from the node u to the node v
abbrev pub is_around : Signed → ℕ → ℕ → Bool
is_around g u v = component_of g all_edges v == component_of g all_edges u

-- the weight of an edge that begins at a node of a set and is broken
abbrev pub weight_in : (ℕ → Bool) → List Bool → Edge → ℕ
weight_in is_in colours e = if is_in e.a && breaks colours e then e.weight else 0

abbrev pub cost_in : (ℕ → Bool) → List Edge → List Bool → ℕ
cost_in is_in edges colours = sum_by (weight_in is_in colours) edges

-- the sum of the weights of the broken edges in the component of a node
abbrev pub cost_around : Signed → ℕ → List Bool → ℕ
cost_around g u colours = cost_in (is_around g u) g.edges colours

-- ---- words of the steps

-- the two ends of each edge
abbrev pub ends_of : List Edge → List (ℕ × ℕ)
ends_of [] = []
ends_of (e ∷ edges) = (e.a, e.b) ∷ ends_of edges

-- each node has the number of its component
abbrev pub AreParts : Signed → List ℕ → ℕ → Type 0
AreParts g part count = AreClasses (ends_of g.edges) g.nodes part count

abbrev pub is_of : List ℕ → ℕ → ℕ → Bool
is_of part k v = slice_index_or part v 0 == k

-- what the colours cost in the component with a number
abbrev pub cost_of_part : List ℕ → ℕ → List Edge → List Bool → ℕ
cost_of_part part k edges colours = cost_in (is_of part k) edges colours
