-- What a command reads: the layout, and the text of a name. By these two tables all that is said of devices and of limits
-- on bytes is said once for all commands.
use Rattle.std.specs.Prelude.{ℕ, List, Bool, true, false, Option, Some, None}
use Rattle.dpl_limits.specs.declared.counted.Counted.{Counted}
use Rattle.dpl_limits.specs.declared.counted.Counted.TheVariants.{ReportBytes, ScriptBytes}
use Rattle.dpl_words.specs.declared.command.Command.{Command}
use Rattle.dpl_words.specs.declared.command.Command.TheVariants as asked
use Rattle.dpl_words.specs.declared.work.Work.TheVariants.{Check, Edit}

-- a text that is opened: the name asked of the shelf, and the limit that its bytes count for
pub record Opened : Type 0 where
  pub name : List ℕ
  pub counted : Counted

-- the command reads the layout
abbrev pub reads_layout : Command → Bool
reads_layout (asked.Layout options work) = true
reads_layout (asked.Load start rows columns) = false

-- the text that the command opens
abbrev pub opens : Command → Option Opened
opens (asked.Layout options (Check name)) = Some (record { name = name; counted = ReportBytes })
opens (asked.Layout options (Edit name)) = Some (record { name = name; counted = ScriptBytes })
opens c = None

-- the command judges a report
abbrev pub judges : Command → Bool
judges (asked.Layout options (Check name)) = true
judges c = false

-- the command follows a script
abbrev pub follows : Command → Bool
follows (asked.Layout options (Edit name)) = true
follows c = false
