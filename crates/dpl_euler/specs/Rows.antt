-- The edges of a set while they are listed at their ends. No public clause speaks of this.
use Rattle.std.specs.Prelude.{◌≡◌, ℕ, ◌<◌, Bool, List, length, All, Contains}
use Rattle.dpl_list.specs.Rows.{of_key}
use Rattle.dpl_sign.specs.declared.graphs.Signed.{Signed}
use Rattle.dpl_euler.specs.Searches.{IsAt}

-- those of the edges below k that are in the set are listed, each with its ends
pub record AreListed (g : Signed) (set : List Bool) (k : ℕ) (nodes edges : List ℕ) : Type 0 where
  pub sizes : length nodes ≡ length edges
  pub below : All (λ v. v < g.nodes) nodes
  pub only : (v : ℕ) → All (IsAt g set v) (of_key v nodes edges)
  pub all : (v e : ℕ) → e < k → IsAt g set v e → Contains (of_key v nodes edges) e
