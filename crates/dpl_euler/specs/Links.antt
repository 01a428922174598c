-- The links of edges in a list. Only the steps of the search for a crossing say this.
use Rattle.std.specs.Prelude.{◌≡◌, ℕ, ◌<◌, List, length, slice_index_or}
use Rattle.dpl_cuts.specs.declared.types.Fragments.{Fragments}
use Rattle.dpl_sign.specs.declared.nets.Net.{Net}
use Rattle.dpl_euler.specs.declared.segment.Segment.{Segment}
use Rattle.dpl_euler.specs.Segments.{ends_of}
use Rattle.dpl_euler.specs.Crossings.{link_at}

-- the links of the first edges
pub record AreLinks (f : Fragments) (net : Net) (links : List Segment) (k : ℕ) : Type 0 where
  pub sizes : length links ≡ k
  pub each : (e : ℕ) (d : Segment) → e < k → ends_of (slice_index_or links e d) ≡ link_at f net e
