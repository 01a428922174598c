-- What reading one command answers.
use Rattle.std.specs.Prelude.{◌≡◌, Result, Ok, Err}
use Rattle.dpl_rules.specs.declared.command.Command.{Command}
use Rattle.dpl_rules.specs.declared.what.What.{What}
use Rattle.dpl_rules.specs.declared.what.Refusal.{Refusal}
use Rattle.dpl_rules.specs.declared.what.Refusal.TheVariants.{Breaks, NoMemory}

-- the answer is the definition's, unless memory ran out
abbrev pub Answers : Result Command Refusal → Result Command What → Type 0
Answers (Ok c) read = read ≡ Ok c
Answers (Err (Breaks what)) read = read ≡ Err what
Answers (Err NoMemory) read = Unit {0}
