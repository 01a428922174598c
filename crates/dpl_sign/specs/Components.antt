-- The components of the edges of a set.
use Rattle.std.specs.Prelude.{◌≡◌, ℕ, zero, suc, Bool, true, false, List, length, All}
use Rattle.dpl_sign.specs.declared.graphs.Signed.{Signed}
use Rattle.dpl_sign.specs.Walks.{edge_at, IsPath}
use Rattle.dpl_cycle.specs.Names.{name_count, join}

-- the component of a node over the edges below k, named by a node: an edge joins those of its ends
abbrev pub names_below : Signed → (ℕ → Bool) → ℕ → ℕ → ℕ
names_below g set zero = λ v. v
names_below g set (suc k) =
    elim (set k) [
      | true ↦ join (names_below g set k) (edge_at g k).a (edge_at g k).b
      | false ↦ names_below g set k
    ]

-- two nodes are joined by edges of the set where this is the same
abbrev pub component_of : Signed → (ℕ → Bool) → ℕ → ℕ
component_of g set v = names_below g set (length g.edges) v

abbrev pub component_count : Signed → (ℕ → Bool) → ℕ
component_count g set = name_count (component_of g set) g.nodes

-- edges of the set lead from one node to the other
abbrev pub AreJoined : Signed → (ℕ → Bool) → ℕ → ℕ → Type 0
AreJoined g set u v = (es : List ℕ) × IsPath g u es v × All (λ e. set e ≡ true) es
