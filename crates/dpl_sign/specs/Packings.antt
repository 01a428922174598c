-- Packings of odd walks, as Edmonds and Johnson 1973 pack cuts: the load of an edge is bounded by twice its weight,
-- so that whole numbers count in halves.
use Rattle.std.specs.Prelude.{◌≡◌, ℕ, ◌*◌, ◌<◌, ◌≤◌, ◌==◌, false, List, length, map, sum_by, if◌then◌else◌, All}
use Rattle.std.specs.List.{flat_map}
use Rattle.dpl_sign.specs.declared.graphs.Signed.{Signed}
use Rattle.dpl_sign.specs.declared.walks.Cycle.{Cycle}
use Rattle.dpl_sign.specs.Kinds.{is_bond}
use Rattle.dpl_sign.specs.Walks.{edge_at, IsOddWalk}

-- each passage of an edge with the half weight of its walk
abbrev pub passages_of : Cycle → List (ℕ × ℕ)
passages_of c = map (λ e. (e, c.half)) c.walk.edges

abbrev pub passages : List Cycle → List (ℕ × ℕ)
passages cs = flat_map passages_of cs

-- the half weights of an edge's passages
abbrev pub load : List (ℕ × ℕ) → ℕ → ℕ
load ps e = sum_by (λ p. if p.0 == e then p.1 else 0) ps

-- no stitch and no clash has more than twice its weight
abbrev pub OverloadsNoEdge : Signed → List (ℕ × ℕ) → Type 0
OverloadsNoEdge g ps = (e : ℕ) → e < length g.edges → is_bond (edge_at g e).kind ≡ false →
    load ps e ≤ 2 * (edge_at g e).weight

-- odd walks, each with a half weight of at least 1, that overload nothing
pub record IsPacking (g : Signed) (cs : List Cycle) : Type 0 where
  pub halves : All (λ c. 1 ≤ c.half) cs
  pub odd : All (λ c. IsOddWalk g c.walk) cs
  pub within : OverloadsNoEdge g (passages cs)

-- the sum of the half weights
abbrev pub bound_of : List Cycle → ℕ
bound_of cs = sum_by (λ c. c.half) cs
