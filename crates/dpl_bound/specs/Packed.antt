-- Packings that bound more than others, and loads while walks are laid one by one.
use Rattle.std.specs.Prelude.{◌≡◌, ◌⊎◌, ℕ, ◌+◌, ◌*◌, ◌<◌, ◌≤◌, false, List, length, slice_index_or}
use Rattle.dpl_sign.specs.declared.graphs.Signed.{Signed}
use Rattle.dpl_sign.specs.declared.walks.Cycle.{Cycle}
use Rattle.dpl_sign.specs.Kinds.{is_bond}
use Rattle.dpl_sign.specs.Walks.{edge_at}
use Rattle.dpl_sign.specs.Packings.{IsPacking, load, passages, bound_of}

-- the bound is greater than that before, or the cycles are the same
abbrev pub IsGreaterOrSame : List Cycle → List Cycle → Type 0
IsGreaterOrSame before after = (bound_of before < bound_of after) ⊎ (after ≡ before)

-- a load for each edge: that of a stitch or a clash is at most twice its weight
pub record AreWithin (g : Signed) (loads : List ℕ) : Type 0 where
  pub places : length loads ≡ length g.edges
  pub within : (e : ℕ) → e < length g.edges → is_bond (edge_at g e).kind ≡ false →
      slice_index_or loads e 0 ≤ 2 * (edge_at g e).weight

-- the loads of stitches and clashes have risen at least by those of some passages
abbrev pub HaveRisen : Signed → List ℕ → List (ℕ × ℕ) → List ℕ → Type 0
HaveRisen g before ps after =
    (e : ℕ) → e < length g.edges → is_bond (edge_at g e).kind ≡ false →
    slice_index_or before e 0 + load ps e ≤ slice_index_or after e 0

-- a packing, and loads that are at least those of its walks
pub record AreLaid (g : Signed) (cs : List Cycle) (loads : List ℕ) : Type 0 where
  pub packing : IsPacking g cs
  pub within : AreWithin g loads
  pub covers : (e : ℕ) → e < length g.edges → is_bond (edge_at g e).kind ≡ false →
      load (passages cs) e ≤ slice_index_or loads e 0
