-- Nodes that are taken out, one after another.
use Rattle.std.specs.Prelude.{ℕ, zero, suc, Bool, false, List, slice_index_or, slice_set, Option, Some, None, is_none, is_some, if◌then◌else◌}
use Rattle.dpl_sign.specs.declared.edges.Edge.{Edge}
use Rattle.dpl_sign.specs.Walks.{no_edge}
use Rattle.dpl_stay.specs.Pairs.{at}

abbrev pub has_partner : Option ℕ → Bool
has_partner o = is_some o

abbrev pub edge_in : List Edge → ℕ → Edge
edge_in edges e = slice_index_or edges e no_edge

-- the ends of each edge below k that has no twin are out
abbrev pub without_ends : List Edge → List (Option ℕ) → List Bool → ℕ → List Bool
without_ends edges twins fine zero = fine
without_ends edges twins fine (suc k) =
    if is_none (at twins k)
    then slice_set (slice_set (without_ends edges twins fine k) (edge_in edges k).a false) (edge_in edges k).b false
    else without_ends edges twins fine k

abbrev pub unset : List Bool → Option ℕ → List Bool
unset fine None = fine
unset fine (Some v) = slice_set fine v false

-- the partners of the ends of each edge below k that has no twin are out
abbrev pub without_partners : List Edge → List (Option ℕ) → List (Option ℕ) → List Bool → ℕ → List Bool
without_partners edges twins partners fine zero = fine
without_partners edges twins partners fine (suc k) =
    if is_none (at twins k)
    then unset (unset (without_partners edges twins partners fine k) (at partners (edge_in edges k).a)) (at partners (edge_in edges k).b)
    else without_partners edges twins partners fine k

-- the number of each node below k that is not fine is out
abbrev pub without_spoiled : List Bool → List ℕ → List Bool → ℕ → List Bool
without_spoiled fine number whole zero = whole
without_spoiled fine number whole (suc k) =
    if slice_index_or fine k false then without_spoiled fine number whole k
    else slice_set (without_spoiled fine number whole k) (slice_index_or number k 0) false
