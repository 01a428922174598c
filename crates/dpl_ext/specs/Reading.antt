-- What reading a whole source answers.
use Rattle.std.specs.Prelude.{◌≡◌, ℕ, ◌+◌, ◌≤◌, List, ◌++◌, length}
use Rattle.std.specs.Io.KnownBytes.{IsAtEnd}
use Rattle.dpl_ext.specs.Device.{Seen, Gave, Rose}
use Rattle.dpl_ext.specs.declared.reading.ReadEnd.{ReadEnd}
use Rattle.dpl_ext.specs.declared.reading.ReadEnd.TheVariants.{Fault, TooLong, NoMemory}

-- these bytes are all that was left, and no read failed
pub record IsWhole (before now : Seen) (bytes : List ℕ) (limit : ℕ) : Type 0 where
  pub gave : Gave before now bytes
  pub at_end : IsAtEnd now.left
  pub within : length bytes ≤ limit
  pub steady : now.faults ≡ before.faults

-- what each refusal means, where so many bytes were read
abbrev pub MeansEnd : Seen → Seen → ℕ → ℕ → ReadEnd → Type 0
MeansEnd before now limit count Fault = (Rose before.faults now.faults) × (count ≤ limit)
MeansEnd before now limit count TooLong =
    (count ≡ limit + 1) × (now.faults ≡ before.faults)
MeansEnd before now limit count NoMemory = count ≤ limit

-- the source has given up what was read, and the refusal means what it says
pub record Refuses (before now : Seen) (limit : ℕ) (error : ReadEnd) : Type 0 where
  pub taken : List ℕ
  pub gave : Gave before now taken
  pub means : MeansEnd before now limit (length taken) error

-- a piece of what was left, of so many bytes and no more than there is room for, stands behind what the taker had;
-- it has no byte only at the end
pub record GivesPiece (before now : Seen) (got got_now : List ℕ) (room count : ℕ) : Type 0 where
  pub piece : List ℕ
  pub gave : Gave before now piece
  pub got_is : got_now ≡ got ++ piece
  pub counted : length piece ≡ count
  pub within : count ≤ room
  pub at_end : count ≡ 0 → IsAtEnd now.left
  pub steady : now.faults ≡ before.faults

-- the piece that was read behind so many bytes is not handed on
pub record StopsPiece (before now : Seen) (taken limit : ℕ) (error : ReadEnd) : Type 0 where
  pub piece : List ℕ
  pub gave : Gave before now piece
  pub means : MeansEnd before now limit (taken + length piece) error

-- so many bytes of what was left stand behind what the taker had, and no read failed
pub record HandsOn (before now : Seen) (got got_now : List ℕ) (count : ℕ) : Type 0 where
  pub bytes : List ℕ
  pub gave : Gave before now bytes
  pub got_is : got_now ≡ got ++ bytes
  pub counted : length bytes ≡ count
  pub steady : now.faults ≡ before.faults

-- all that was left stands behind what the taker had
pub record HandsWhole (before now : Seen) (got got_now : List ℕ) (limit : ℕ) : Type 0 where
  pub bytes : List ℕ
  pub whole : IsWhole before now bytes limit
  pub got_is : got_now ≡ got ++ bytes

-- a taker has a front of what was read, and nothing past the limit
pub record TookFront (before now : Seen) (limit : ℕ) (got got_now : List ℕ) : Type 0 where
  pub front : List ℕ
  pub rest : List ℕ
  pub gave : Gave before now (front ++ rest)
  pub got_is : got_now ≡ got ++ front
  pub within : length front ≤ limit
