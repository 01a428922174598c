-- What the devices tell of the texts of a command, and what the command does to them.
use Rattle.std.specs.Prelude.{◌≡◌, ◌⊎◌, ◌+◌, ⊤, ℕ, ◌∷◌, ◌++◌, List, [], Bool, true, false, Option, Some, None, Result, Ok, Err}
use Rattle.dpl_ext.specs.Device.{Seen, Texts, Rose, RoseBy, first_text}
use Rattle.dpl_limits.specs.declared.TheConstants.{MOST_LAYOUT_BYTES, MOST_REPORT_BYTES, MOST_SCRIPT_BYTES}
use Rattle.dpl_words.specs.declared.command.Command.{Command}
use Rattle.dpl_run.specs.declared.status.Status.{Status}
use Rattle.dpl_run.specs.declared.status.Status.TheVariants.{Limit, ReadFault, NoMemory}
use Rattle.dpl_run.specs.Inputs.{Opened, reads_layout, opens}

-- ---- what is told

-- this is the layout, where it is read
abbrev pub IsLayoutTold : Bool → Option (List ℕ) → List ℕ → Type 0
IsLayoutTold false left text = ⊤
IsLayoutTold true left text = left ≡ Some text

-- this is the first text of the name, where one is opened
abbrev pub IsSecondTold : Option Opened → Option Texts → List ℕ → Type 0
IsSecondTold None texts second = ⊤
IsSecondTold (Some opened) texts second =
    (ts : Texts) × (texts ≡ Some ts) × (first_text opened.name ts ≡ Some second)

-- the devices tell this layout and this second text, as far as the command reads them
abbrev pub AreTold : Result Command ℕ → Option (List ℕ) → Option Texts → List ℕ → List ℕ →
    Type 0
AreTold (Err kind) left texts text second = ⊤
AreTold (Ok c) left texts text second =
    IsLayoutTold (reads_layout c) left text × IsSecondTold (opens c) texts second

-- the shelf tells its texts, and has none of the name that is opened
abbrev pub IsAbsent : Option Opened → Option Texts → Type 0
IsAbsent None texts = ⊥
IsAbsent (Some opened) texts =
    (ts : Texts) × (texts ≡ Some ts) × (first_text opened.name ts ≡ None)

-- the command opens such a text
abbrev pub AskForAbsent : Result Command ℕ → Option Texts → Type 0
AskForAbsent (Err kind) texts = ⊥
AskForAbsent (Ok c) texts = IsAbsent (opens c) texts

-- no text was read but the layout: a device failed, or memory was wanting, or the layout is too long
abbrev pub IsUnread : Status → Type 0
IsUnread ReadFault = ⊤
IsUnread NoMemory = ⊤
IsUnread (Limit kind count) = kind ≡ 1
IsUnread status = ⊥

-- ---- what is read

-- so many bytes were read, one more than the limit
abbrev pub PassesBytes : ℕ → ℕ → Seen → Seen → Type 0
PassesBytes most count before now = (count ≡ most) × RoseBy most before.given now.given

-- a call of the layout failed, where it is read
abbrev pub IsLayoutFault : Bool → Seen → Seen → Type 0
IsLayoutFault false before now = ⊥
IsLayoutFault true before now = Rose before.faults now.faults

-- a call of the shelf failed, after it was asked for the name
abbrev pub IsSecondFault : Option Opened → Seen → Seen → Type 0
IsSecondFault None before now = ⊥
IsSecondFault (Some opened) before now =
    Rose before.faults now.faults × (now.asked ≡ before.asked ++ opened.name ∷ [])

-- a call that failed is one of those by which the texts of the command are read
abbrev pub IsReadFault : Result Command ℕ → Seen → Seen → Seen → Seen → Type 0
IsReadFault (Err kind) layout layout_now second second_now = ⊥
IsReadFault (Ok c) layout layout_now second second_now =
    IsLayoutFault (reads_layout c) layout layout_now ⊎ IsSecondFault (opens c) second second_now

-- ---- what stays as it was

-- no name is asked for but this one, and that once at most
abbrev pub AsksFor : List ℕ → Seen → Seen → Type 0
AsksFor name before now = (now.asked ≡ before.asked) ⊎ (now.asked ≡ before.asked ++ name ∷ [])

-- the layout is as it was where it is not read
abbrev pub IsLayoutTouched : Bool → Seen → Seen → Type 0
IsLayoutTouched false before now = now ≡ before
IsLayoutTouched true before now = now.asked ≡ before.asked

-- the shelf is as it was where nothing is opened
abbrev pub IsSecondTouched : Option Opened → Seen → Seen → Type 0
IsSecondTouched None before now = now ≡ before
IsSecondTouched (Some opened) before now = AsksFor opened.name before now

-- a device that the command does not read is as it was
abbrev pub IsTouched : Result Command ℕ → Seen → Seen → Seen → Seen → Type 0
IsTouched (Err kind) layout layout_now second second_now =
    (layout_now ≡ layout) × (second_now ≡ second)
IsTouched (Ok c) layout layout_now second second_now =
    IsLayoutTouched (reads_layout c) layout layout_now × IsSecondTouched (opens c) second second_now

-- the counts of faults of `layout`, `second` and `out` are as they were
abbrev pub AreSteady : Seen → Seen → Seen → Seen → ℕ → ℕ → Type 0
AreSteady layout layout_now second second_now out out_now =
    (layout_now.faults ≡ layout.faults) × (second_now.faults ≡ second.faults) × (out_now ≡ out)

-- ---- all of it by the status

-- what a command did to the devices that it reads
pub record Reads (command : Result Command ℕ) (status : Status)
    (layout layout_now second second_now : Seen) : Type 0 where
  pub read : status ≡ ReadFault → IsReadFault command layout layout_now second second_now
  pub limit : (count : ℕ) → status ≡ Limit 1 count →
      PassesBytes (MOST_LAYOUT_BYTES + 1) count layout layout_now
  pub report_limit : (count : ℕ) → status ≡ Limit 9 count →
      PassesBytes (MOST_REPORT_BYTES + 1) count second second_now
  pub script_limit : (count : ℕ) → status ≡ Limit 10 count →
      PassesBytes (MOST_SCRIPT_BYTES + 1) count second second_now
  pub touched : IsTouched command layout layout_now second second_now
