-- Where the cells decide what is due.
use Rattle.std.specs.Prelude.{◌≡◌, ℕ, List, Option, Some, None, IfSome, Result, Ok}
use Rattle.dpl_options.specs.Options.{PlainOptions}
use Rattle.dpl_layer.specs.Reasons.{NoneOf}
use Rattle.dpl_layer.specs.Drawings.{drawing_reasons}
use Rattle.dpl_words.specs.declared.command.Command.{Command}
use Rattle.dpl_words.specs.declared.command.Command.TheVariants as asked
use Rattle.dpl_run.specs.Answer.{bytes_reasons}

-- the options by which a command draws its layout
abbrev pub drawn_by : Command → Option PlainOptions
drawn_by (asked.Layout options work) = Some options
drawn_by (asked.Load start rows columns) = None

-- the words are right, the texts within their limits on bytes, and the layout is drawn: its cells, or those of the made
-- layout, decide what is due
pub record GoByCells (command : Result Command ℕ) (text second : List ℕ) : Type 0 where
  pub asked : Command
  pub is : command ≡ Ok asked
  pub short : NoneOf (bytes_reasons asked text second)
  pub drawn : IfSome (drawn_by asked) (λ o. NoneOf (drawing_reasons o text))
