-- Trees over the tops of moats: an outer top grows, an inner one falls, and a free one does neither, as in Edmonds'
-- alternating trees.
use Rattle.std.specs.Prelude.{◌≡◌, ◌≢◌, ℕ, Bool, true}
use Rattle.dpl_tree.specs.steps.Forests.{Place, free, gain, drop_of}
use Rattle.dpl_flood.specs.Seas.{Sea}

-- what tops gain and lose where they stand so
abbrev pub gains_in : (ℕ → Place) → ℕ → ℕ
gains_in place k = gain (place k)

abbrev pub losses_in : (ℕ → Place) → ℕ → ℕ
losses_in place k = drop_of (place k)

-- the tops grow and fall as they stand in trees
pub record AreRated (place : ℕ → Place) (s : Sea) : Type 0 where
  pub gain_is : (k : ℕ) → s.gain k ≡ gains_in place k
  pub loss_is : (k : ℕ) → s.loss k ≡ losses_in place k

-- only what stood in a tree and does not any more begins to rest
pub record AreRested (old new : ℕ → Place) (rests after : ℕ → Bool) : Type 0 where
  pub left : (k : ℕ) → old k ≢ free → new k ≡ free → after k ≡ true
  pub others : (k : ℕ) → new k ≡ old k → after k ≡ rests k
