-- Pairs in places, of which some are written.
use Rattle.std.specs.Prelude.{◌≡◌, ℕ, ◌<◌, Bool, List, map, length}
use Rattle.std.specs.declared.alloc.Global.{Global}
use Rattle.dpl_ring.specs.declared.pair.Pair.{Pair}
use Rattle.dpl_ring.specs.declared.block.Block.{Block}
use Rattle.dpl_ring.specs.declared.block.Lease.{Lease}
use Rattle.dpl_ring.specs.Places.{pair_at, is_written}

abbrev pub nexts_of : List Pair → List ℕ
nexts_of items = map (λ (p : Pair). p.next) items

abbrev pub prevs_of : List Pair → List ℕ
prevs_of items = map (λ (p : Pair). p.prev) items

abbrev pub AreWritten : List Bool → Type 0
AreWritten filled = (k : ℕ) → k < length filled → is_written filled k

-- each place is written, and the lease is that of the block
pub record IsWhole (block : Block) (lease : Lease Global) (alloc : Global) : Type 0 where
  pub written : AreWritten block.filled
  pub leased : (lease.alloc ≡ alloc) × (lease.at ≡ block.at) × (lease.count ≡ block.count)

-- the block afterwards has at each place the place's own number, twice
pub record IsIdentity (old new : Block) : Type 0 where
  pub same : (new.at ≡ old.at) × (new.count ≡ old.count)
  pub pairs : (k : ℕ) → k < new.count → pair_at new.items k ≡ record { next = k; prev = k }
  pub written : AreWritten new.filled
