-- What is due or free, and what writing it answers.
use Rattle.std.specs.Prelude.{◌≡◌, ◌≢◌, ◌⊎◌, ◌+◌, ◌<◌, ◌≤◌, ⊤, ℕ, Bool, true, ◌∷◌, ◌++◌, List, [], length, Option, Some, None, IfSome}
use Rattle.std.specs.Io.KnownBytes.{Appends}
use Rattle.dpl_ext.specs.Device.{AppendsFront, Rose, RoseBy, Seen, Texts, first_text}
use Rattle.dpl_run.specs.declared.status.Status.{Status}
use Rattle.dpl_run.specs.declared.status.Status.TheVariants.{Done, Limit, ReadFault, WriteFault, NoMemory}
use Rattle.dpl_limits.specs.declared.TheConstants.{MOST_LAYOUT_BYTES}
use Rattle.dpl_limits.specs.Limits.{number_of, most_of}
use Rattle.dpl_run.specs.Inputs.{Opened}

-- a failed read and want of memory come before anything is written; all else is due
abbrev pub IsDueOrFree : (Status → List ℕ → Type 0) → Status → List ℕ → Type 0
IsDueOrFree Due ReadFault output = output ≡ []
IsDueOrFree Due NoMemory output = output ≡ []
IsDueOrFree Due status output = Due status output

-- want of memory comes before anything is written; all else is due
abbrev pub IsWorked : (Status → List ℕ → Type 0) → Status → List ℕ → Type 0
IsWorked Due NoMemory output = output ≡ []
IsWorked Due status output = Due status output

-- something is written before Done alone, and no write has failed yet
abbrev pub IsBare : Status → List ℕ → Type 0
IsBare Done output = ⊤
IsBare WriteFault output = ⊥
IsBare status output = output ≡ []

-- why a text was not read whole: the source failed, or gave one byte more than the limit, or memory was wanting
abbrev pub StopsReading : Seen → Seen → ℕ → ℕ → Status → Type 0
StopsReading before now kind most (Limit k count) =
    (k ≡ kind) × (count ≡ most + 1) × RoseBy (most + 1) before.given now.given ×
    IfSome before.left (λ xs. most < length xs)
StopsReading before now kind most ReadFault = Rose before.faults now.faults
StopsReading before now kind most NoMemory = ⊤
StopsReading before now kind most status = ⊥

-- the whole output was taken, the sink did not fail, and the status is given
pub record IsWhole (status : Status) (output : List ℕ) (before now : Option (List ℕ))
    (faults faults_now : ℕ) (result : Status) : Type 0 where
  pub status_is : result ≡ status
  pub taken : Appends before now output
  pub steady : faults_now ≡ faults

-- the sink failed, and a front of the output was taken, which is not empty
pub record IsFault (output : List ℕ) (before now : Option (List ℕ)) (faults faults_now : ℕ)
    (result : Status) : Type 0 where
  pub fault : result ≡ WriteFault
  pub some : output ≢ []
  pub taken : AppendsFront before now output
  pub rose : Rose faults faults_now

abbrev pub IsTold : Status → List ℕ → Option (List ℕ) → Option (List ℕ) → ℕ → ℕ → Status → Type 0
IsTold status output before now faults faults_now result =
    IsWhole status output before now faults faults_now result ⊎
    IsFault output before now faults faults_now result

-- why the text of a name was not read whole: it could not be opened, or its reading stopped
abbrev pub StopsSecond : Opened → Seen → Seen → Option Texts → Status → Type 0
StopsSecond opened before now texts (Limit k count) =
    (k ≡ number_of opened.counted) × (count ≡ most_of opened.counted + 1) ×
    RoseBy (most_of opened.counted + 1) before.given now.given ×
    ((ts : Texts) → texts ≡ Some ts → (second : List ℕ) → first_text opened.name ts ≡ Some second →
    most_of opened.counted < length second)
StopsSecond opened before now texts ReadFault =
    Rose before.faults now.faults × (now.asked ≡ before.asked ++ opened.name ∷ [])
StopsSecond opened before now texts NoMemory = ⊤
StopsSecond opened before now texts status = ⊥

-- why what a command opens was not read whole
abbrev pub StopsOpening : Option Opened → Seen → Seen → Option Texts → Status → Type 0
StopsOpening None before now texts status = ⊥
StopsOpening (Some opened) before now texts status = StopsSecond opened before now texts status

-- these are the bytes of what a command opens, where the shelf tells them
abbrev pub IsSecondRead : Option Opened → Option Texts → List ℕ → Type 0
IsSecondRead None texts second = ⊤
IsSecondRead (Some opened) texts second =
    (ts : Texts) → texts ≡ Some ts → first_text opened.name ts ≡ Some second

-- the layout is within its limit, where it is read
abbrev pub IsShort : Bool → List ℕ → Type 0
IsShort reads text = reads ≡ true → length text ≤ MOST_LAYOUT_BYTES

-- the text that is opened is within its limit
abbrev pub IsSmall : Option Opened → List ℕ → Type 0
IsSmall None second = ⊤
IsSmall (Some opened) second = length second ≤ most_of opened.counted
