-- How far a drawing is from plane, by Euler's formula, and which edges are set aside for it. With V nodes, E edges,
-- F faces and C components a plane drawing has V - E + F = 2C.
use Rattle.std.specs.Prelude.{◌≡◌, ℕ, ◌+◌, ◌-◌, ◌*◌, ◌==◌, ◌||◌, zero, suc, nat_lt, Bool, true, not, List, [], ◌∷◌, ◌++◌, length, if◌then◌else◌}
use Rattle.dpl_sign.specs.declared.nets.Net.{Net}
use Rattle.dpl_sign.specs.Walks.{edge_at}
use Rattle.dpl_sign.specs.Drawings.{is_in, face_count, corner_face}
use Rattle.dpl_sign.specs.Components.{component_of, component_count}
use Rattle.dpl_cycle.specs.Sums.{count_on}

abbrev pub edge_count : Net → (ℕ → Bool) → ℕ
edge_count net set = count_on set (length net.graph.edges)

-- 2C - (V - E + F), which is never negative
abbrev pub excess : Net → (ℕ → Bool) → ℕ
excess net set = (2 * component_count net.graph set + edge_count net set)
    - (net.graph.nodes + face_count net set)

-- a set with one edge more
abbrev pub with_edge : (ℕ → Bool) → ℕ → ℕ → Bool
with_edge set e x = (x == e) || set x

-- edges of the set join the two ends of an edge
abbrev pub AreEndsJoined : Net → (ℕ → Bool) → ℕ → Type 0
AreEndsJoined net set e = component_of net.graph set (edge_at net.graph e).a
    ≡ component_of net.graph set (edge_at net.graph e).b

-- the two corners at which an edge leaves its ends are on one face
abbrev pub LiesInFace : Net → (ℕ → Bool) → ℕ → Type 0
LiesInFace net set e = corner_face net set (2 * e) ≡ corner_face net set (2 * e + 1)

-- the whole drawing
abbrev pub all_edges : ℕ → Bool
all_edges e = true

-- with the edge whose place comes next the excess is higher
abbrev pub raises_excess : Net → List Bool → Bool
raises_excess net kept = nat_lt (excess net (is_in kept)) (excess net (is_in (kept ++ true ∷ [])))

-- which of the first edges are kept: the next one is, unless it raises the excess of those so far
abbrev pub kept_before : Net → ℕ → List Bool
kept_before net zero = []
kept_before net (suc e) = kept_before net e ++ not (raises_excess net (kept_before net e)) ∷ []

abbrev pub kept_edges : Net → List Bool
kept_edges net = kept_before net (length net.graph.edges)

abbrev pub is_aside : Net → ℕ → Bool
is_aside net e = not (is_in (kept_edges net) e)

-- the numbers of the edges that are set aside among the first, in order
abbrev pub aside_before : Net → ℕ → List ℕ
aside_before net zero = []
aside_before net (suc e) =
    if is_aside net e then aside_before net e ++ e ∷ [] else aside_before net e

abbrev pub aside_edges : Net → List ℕ
aside_edges net = aside_before net (length net.graph.edges)
