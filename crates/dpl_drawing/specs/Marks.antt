-- One cycle of a ring gets a new label, and no other place. Only the walks along cycles say this.
use Rattle.std.specs.Prelude.{◌≡◌, ◌≢◌, ℕ, ◌<◌, List, length, slice_index}
use Rattle.dpl_cycle.specs.Cycles.{Permutes}
use Rattle.dpl_ring.specs.Rings.{least_of}

pub record MarksCycle (ring : List ℕ) (start label : ℕ) (old new : List ℕ) : Type 0 where
  pub lengths : length new ≡ length old
  pub marked : (z : ℕ) → z < length ring → least_of ring z ≡ least_of ring start →
      slice_index new z ≡ label
  pub others : (z : ℕ) → z < length ring → least_of ring z ≢ least_of ring start →
      slice_index new z ≡ slice_index old z

-- the list leads each of its places to another, and something leads back
abbrev pub LeadsBack : List ℕ → Type 0
LeadsBack nexts = (back : ℕ → ℕ) × Permutes (length nexts) (slice_index nexts) back
