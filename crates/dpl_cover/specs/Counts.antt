-- How often each place is counted: its own count, that of its block, and that of its wide block.
use Rattle.std.specs.Prelude.{◌≡◌, ◌⊎◌, ℕ, ◌≤◌, ◌<◌, ◌+◌, ◌*◌, ◌/◌, ◌^◌, ◌≢◌, int_lt, ℤ, pos, neg_ℤ, ◌+ℤ◌, ◌≤ℤ◌, List, Bool, length, slice_index_or}
use Rattle.dpl_cover.specs.declared.blocks.TheConstants.{BLOCK, WIDE}
use Rattle.dpl_cover.specs.declared.blocks.Block.{Block}
use Rattle.dpl_cover.specs.declared.counts.Piece.{Piece}

-- what stands past the end of a list of blocks
abbrev pub no_block : Block
no_block = record { whole = pos 0; low = pos 0; high = pos 0 }

abbrev pub own_at : List ℤ → ℕ → ℤ
own_at each k = slice_index_or each k (pos 0)

abbrev pub block_at : List Block → ℕ → Block
block_at blocks b = slice_index_or blocks b no_block

-- where the wide block of a place stands, and its block: the blocks of a wide block stand behind it
abbrev pub wide_of : ℕ → ℕ
wide_of k = k / WIDE * (BLOCK + 1)

abbrev pub block_of : ℕ → ℕ
block_of k = k / BLOCK + k / WIDE + 1

-- how often place k is counted in its wide block
abbrev pub part_at : List ℤ → List Block → ℕ → ℤ
part_at each blocks k = own_at each k +ℤ (block_at blocks (block_of k)).whole

-- how often it is counted
abbrev pub count_at : List ℤ → List Block → ℕ → ℤ
count_at each blocks k = part_at each blocks k +ℤ (block_at blocks (wide_of k)).whole

-- place k is counted more than not at all
abbrev pub is_counted : List ℤ → List Block → ℕ → Bool
is_counted each blocks k = int_lt (pos 0) (count_at each blocks k)

-- the number is one or minus one
abbrev pub IsUnit : ℤ → Type 0
IsUnit by = (by ≡ pos 1) ⊎ (by ≡ neg_ℤ (pos 1))

-- the number is at most n away from 0
abbrev pub IsUpTo : ℕ → ℤ → Type 0
IsUpTo n z = (neg_ℤ (pos n) ≤ℤ z) × (z ≤ℤ pos n)

-- so is each of these numbers below m
abbrev pub AreUpTo : ℕ → ℕ → (ℕ → ℤ) → Type 0
AreUpTo n m f = (k : ℕ) → k < m → IsUpTo n (f k)

-- all counts of places are at most n away from 0
pub record AreSmall (n : ℕ) (each : List ℤ) (blocks : List Block) : Type 0 where
  pub own : AreUpTo n (length each) (own_at each)
  pub part : AreUpTo n (length each) (part_at each blocks)
  pub count : AreUpTo n (length each) (count_at each blocks)

-- the place is none of those from a to b, b left out
abbrev pub IsBeside : ℕ → ℕ → ℕ → Type 0
IsBeside a b k = (k < a) ⊎ (b ≤ k)

-- the number was added to those of the first n from a to b, b left out
pub record IsAdded (n a b : ℕ) (by : ℤ) (old new : ℕ → ℤ) : Type 0 where
  pub inside : (k : ℕ) → a ≤ k → k < b → new k ≡ old k +ℤ by
  pub beside : (k : ℕ) → k < n → IsBeside a b k → new k ≡ old k

-- at most one was added to each of those, or taken away
pub record IsNear (n a b : ℕ) (old new : ℕ → ℤ) : Type 0 where
  pub beside : (k : ℕ) → k < n → IsBeside a b k → new k ≡ old k
  pub grown : (k m : ℕ) → k < n → IsUpTo m (old k) → IsUpTo (m + 1) (new k)

-- a number lies between those of a block
pub record IsBetween (block : Block) (z : ℤ) : Type 0 where
  pub low : block.low ≤ℤ z
  pub high : z ≤ℤ block.high

-- what lies between the numbers of a block lies between those of another where a count is added
abbrev pub HasWithin : ℤ → Block → Block → Type 0
HasWithin count block now = (z : ℤ) → IsUpTo (2 ^ 62) (z +ℤ count) → IsBetween block z → IsBetween now (z +ℤ count)

-- the numbers of one block lie beyond those of another
pub record IsWider (old new : Block) : Type 0 where
  pub low : new.low ≤ℤ old.low
  pub high : old.high ≤ℤ new.high

-- the number was added to the count of a block, so that what lay between its numbers lies there with the number added
pub record IsWholeGrown (b : ℕ) (by : ℤ) (old new : List Block) : Type 0 where
  pub long : length new ≡ length old
  pub whole : (block_at new b).whole ≡ (block_at old b).whole +ℤ by
  pub between : HasWithin by (block_at old b) (block_at new b)
  pub others : (j : ℕ) → j ≢ b → block_at new j ≡ block_at old j

-- a block has other numbers, and the same count as before
pub record IsKept (b : ℕ) (old new : List Block) : Type 0 where
  pub long : length new ≡ length old
  pub whole : (block_at new b).whole ≡ (block_at old b).whole
  pub others : (j : ℕ) → j ≢ b → block_at new j ≡ block_at old j

-- the own counts of the places from a to c, with the count of the block, lie between them
pub record IsRenewed (b a c : ℕ) (each : List ℤ) (old new : List Block) : Type 0 where
  pub kept : IsKept b old new
  pub between : (k : ℕ) → a ≤ k → k < c → IsUpTo (2 ^ 62) (own_at each k +ℤ (block_at old b).whole) →
      IsBetween (block_at new b) (own_at each k +ℤ (block_at old b).whole)

-- nothing is counted at once for a block, and that lies between its numbers
pub record AreBlank (blocks : List Block) : Type 0 where
  pub whole : (j : ℕ) → (block_at blocks j).whole ≡ pos 0
  pub between : (j : ℕ) → IsBetween (block_at blocks j) (pos 0)

-- what lies between the numbers of a block of a wide block lies, with the count of the wide block, between those of another;
-- for blocks beside those from a to c it may be what lay between those of the wide block
abbrev pub IsFit : ℕ → ℕ → ℕ → List Block → Block → Type 0
IsFit w a c blocks now = (j : ℕ) → w < j → j ≤ w + BLOCK → j < length blocks →
    HasWithin (block_at blocks w).whole (block_at blocks j) now ⊎ (IsBeside a c j × IsWider (block_at blocks w) now)

-- there is a block for each place, and what the place is counted in its wide block lies between its numbers
pub record AreParts (each : List ℤ) (blocks : List Block) : Type 0 where
  pub enough : (k : ℕ) → k < length each → block_of k < length blocks
  pub part : (k : ℕ) → k < length each → IsBetween (block_at blocks (block_of k)) (part_at each blocks k)

-- and what it is counted in all lies between the numbers of its wide block
pub record AreCounts (each : List ℤ) (blocks : List Block) : Type 0 where
  pub parts : AreParts each blocks
  pub wide : (k : ℕ) → k < length each → IsBetween (block_at blocks (wide_of k)) (count_at each blocks k)

-- the number was added to the counts of the places from a to b by these and their blocks alone
pub record IsPartChange (a b : ℕ) (by : ℤ) (each : List ℤ) (blocks : List Block) (each' : List ℤ)
    (blocks' : List Block) : Type 0 where
  pub parts : AreParts each' blocks'
  pub long : length each' ≡ length each
  pub part : IsAdded (length each) a b by (part_at each blocks) (part_at each' blocks')
  pub own : IsNear (length each) a b (own_at each) (own_at each')
  pub wide : (k : ℕ) → block_at blocks' (wide_of k) ≡ block_at blocks (wide_of k)

-- the number was added to the counts of the places from a to b
pub record IsChange (a b : ℕ) (by : ℤ) (each : List ℤ) (blocks : List Block) (each' : List ℤ)
    (blocks' : List Block) : Type 0 where
  pub counts : AreCounts each' blocks'
  pub long : length each' ≡ length each
  pub count : IsAdded (length each) a b by (count_at each blocks) (count_at each' blocks')
  pub part : IsNear (length each) a b (part_at each blocks) (part_at each' blocks')
  pub own : IsNear (length each) a b (own_at each) (own_at each')

-- places from one on are all counted, or none is
pub record IsAlike (each : List ℤ) (blocks : List Block) (at : ℕ) (piece : Piece) : Type 0 where
  pub further : at < piece.to
  pub within : piece.to ≤ length each
  pub same : (k : ℕ) → at ≤ k → k < piece.to → is_counted each blocks k ≡ piece.counted
