-- What the program answers, in the order in which its answers are tried: words, layout, second text, the work.
use Rattle.std.specs.Prelude.{◌≡◌, ◌⊎◌, ⊤, ℕ, ◌≤◌, ◌<◌, List, [], ◌∷◌, length, true, Option, Some, Result, Ok, Err}
use Rattle.std.specs.Io.KnownBytes.{Appends, Keeps}
use Rattle.dpl_limits.specs.declared.TheConstants.{MOST_LAYOUT_BYTES}
use Rattle.dpl_limits.specs.declared.counted.Counted.TheVariants.{LayoutBytes}
use Rattle.dpl_limits.specs.Limits.{number_of, most_of}
use Rattle.dpl_ext.specs.Device.{AppendsFront}
use Rattle.dpl_gen.specs.Layout.{layout}
use Rattle.dpl_layer.specs.declared.error.LayerError.{LayerError}
use Rattle.dpl_layer.specs.Reasons.{FirstOf, NoneOf, IsPassed}
use Rattle.dpl_layer.specs.Refusals.{layer_reasons}
use Rattle.dpl_core.specs.Reports.{IsSplit, IsBalancedSplit, IsRefinedSplit}
use Rattle.dpl_words.specs.Commands.{asked_by}
use Rattle.dpl_words.specs.declared.command.Command.{Command}
use Rattle.dpl_words.specs.declared.command.Command.TheVariants as asked
use Rattle.dpl_words.specs.declared.work.Work.{Work}
use Rattle.dpl_words.specs.declared.work.Work.TheVariants.{Split, Check, Cross, Edit, Balance, Refine}
use Rattle.dpl_options.specs.Options.{PlainOptions}
use Rattle.dpl_run.specs.declared.status.Status.{Status}
use Rattle.dpl_run.specs.declared.status.Status.TheVariants.{Done, Rejected, Usage, Limit, Script, ReadFault, WriteFault, NoMemory}
use Rattle.dpl_run.specs.Inputs.{Opened, reads_layout, opens, judges, follows}
use Rattle.dpl_run.specs.Errors.{status_of}
use Rattle.dpl_run.specs.due.Made.{IsMade}
use Rattle.dpl_run.specs.due.Check.{IsCheckDue}
use Rattle.dpl_run.specs.due.Load.{IsLoaded, made_options}
use Rattle.dpl_run.specs.due.Cross.{IsCrossed}
use Rattle.dpl_run.specs.due.Edit.{IsEditDue}

-- ---- what is due

-- for work on a layout that is within its limit, as is the file beside it
abbrev pub WorkDueOf : PlainOptions → Work (List ℕ) → List ℕ → List ℕ → Status → List ℕ → Type 0
WorkDueOf options Split text second =
    IsMade (FirstOf (layer_reasons options text)) (IsSplit options text)
WorkDueOf options (Check name) text second = IsCheckDue options text second
WorkDueOf options Cross text second =
    IsMade (FirstOf (layer_reasons options text)) (IsCrossed options text)
WorkDueOf options (Edit name) text second = IsEditDue options text second
WorkDueOf options Balance text second =
    IsMade (FirstOf (layer_reasons options text)) (IsBalancedSplit options text)
WorkDueOf options Refine text second =
    IsMade (FirstOf (layer_reasons options text)) (IsRefinedSplit options text)

-- for a command whose texts are within their limits
abbrev pub DueOf : Command → List ℕ → List ℕ → Status → List ℕ → Type 0
DueOf (asked.Layout options work) text second = WorkDueOf options work text second
DueOf (asked.Load start rows columns) text second =
    IsMade (FirstOf (layer_reasons made_options (layout start rows columns)))
    (IsLoaded made_options (layout start rows columns))

-- what is opened has more bytes than are taken
abbrev pub IsOpenedLong : Option Opened → List ℕ → LayerError → Type 0
IsOpenedLong asked second e = (opened : Opened) × (asked ≡ Some opened)
    × IsPassed opened.counted (most_of opened.counted < length second) e

-- why a command is not carried out: its layout has more bytes than are taken, or what it opens
abbrev pub bytes_reasons : Command → List ℕ → List ℕ → List (LayerError → Type 0)
bytes_reasons c text second =
    IsPassed LayoutBytes ((reads_layout c ≡ true) × (MOST_LAYOUT_BYTES < length text))
    ∷ IsOpenedLong (opens c) second ∷ []

-- a text has too many bytes, or the command is carried out
pub data IsDueFor (c : Command) (text second : List ℕ) : Status → List ℕ → Type 0 where
  too_long : (e : LayerError) → FirstOf (bytes_reasons c text second) e →
      IsDueFor c text second (status_of e) []
  carried_out : (status : Status) (output : List ℕ) → NoneOf (bytes_reasons c text second) →
      DueOf c text second status output → IsDueFor c text second status output

-- the status and the output that are due for a command, a layout and a second text
abbrev pub IsDueOf : Result Command ℕ → List ℕ → List ℕ → Status → List ℕ → Type 0
IsDueOf (Err kind) text second status output = (status ≡ Usage kind) × (output ≡ [])
IsDueOf (Ok c) text second status output = IsDueFor c text second status output

abbrev pub IsDue : List (List ℕ) → List ℕ → List ℕ → Status → List ℕ → Type 0
IsDue words = IsDueOf (asked_by words)

-- ---- what is answered

-- the status is due, and its output was written
pub record IsWritten (Due : Status → List ℕ → Type 0) (before now : Option (List ℕ))
    (status : Status) : Type 0 where
  pub output : List ℕ
  pub due : Due status output
  pub taken : Appends before now output

-- a front of an output was written that was due
pub record IsCutShort (Due : Status → List ℕ → Type 0) (before now : Option (List ℕ)) : Type 0 where
  pub output : List ℕ
  pub due : Due Done output
  pub taken : AppendsFront before now output

-- what a run answers and writes; a failed read and want of memory may take the place of any answer
abbrev pub Answers : (Status → List ℕ → Type 0) → Option (List ℕ) → Option (List ℕ) → Status →
    Type 0
Answers Due before now WriteFault = IsCutShort Due before now
Answers Due before now ReadFault = ⊤
Answers Due before now NoMemory = ⊤
Answers Due before now status = IsWritten Due before now status

-- nothing was written, but for a whole output and for a front of one
abbrev pub IsQuiet : Option (List ℕ) → Option (List ℕ) → Status → Type 0
IsQuiet before now Done = ⊤
IsQuiet before now WriteFault = ⊤
IsQuiet before now status = Keeps before now

-- ---- what is answered whatever the devices do

-- the limits that a command can pass: on the bytes of its layout, on what its layer has, on the bytes of what it opens
abbrev pub IsLimitOf : Command → ℕ → Type 0
IsLimitOf c kind = ((kind ≡ 1) × (reads_layout c ≡ true)) ⊎ ((2 ≤ kind) × (kind ≤ 7)) ⊎
    ((opened : Opened) × (opens c ≡ Some opened) × (kind ≡ number_of opened.counted))

-- Words that ask for nothing are answered so, but for want of memory, and no others are. Only a command that judges
-- rejects, only one that follows a script names a line of it, and each passes its own limits alone.
abbrev pub IsStatusOf : Result Command ℕ → Status → Type 0
IsStatusOf (Err kind) status = (status ≡ Usage kind) ⊎ (status ≡ NoMemory)
IsStatusOf (Ok c) (Usage kind) = ⊥
IsStatusOf (Ok c) (Rejected reason place found wanted) = judges c ≡ true
IsStatusOf (Ok c) (Limit kind count) = IsLimitOf c kind
IsStatusOf (Ok c) (Script line kind) = follows c ≡ true
IsStatusOf (Ok c) status = ⊤
