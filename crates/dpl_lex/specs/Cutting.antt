-- A text and its commands (Mead and Conway 1980, section 4.5). `CuttingLaws` says the rules one by one.
use Rattle.std.specs.Prelude.{ℕ, ◌+◌, ◌-◌, ◌==◌, List, [], ◌∷◌, ◌++◌, Option, None, Some, ◌≤◌, if◌then◌else◌}
use Rattle.dpl_lex.specs.Classes.{is_blank}
use Rattle.dpl_lex.specs.declared.types.Span.{Span}
use Rattle.dpl_lex.specs.declared.types.Ending.{Ending}
use Rattle.dpl_lex.specs.declared.types.Ending.TheVariants.{End, NoEnd, Paren}
use Rattle.dpl_lex.specs.declared.types.Commands.{Commands}
use Rattle.dpl_lex.specs.declared.cutting.Place.{Place}
use Rattle.dpl_lex.specs.declared.cutting.Place.TheVariants.{Between, Inside, Comment, Ended}

-- from its first byte to its semicolon
abbrev pub span : ℕ → ℕ → Span
span start stop = record { start = start; end = stop }

-- Where the byte behind this one stands. `Between` is before a command, `Ended` behind the end command.
-- `Comment start depth` is in a comment that began at start, in depth more parentheses than its own.
-- `Inside start` is in any other command, or behind the parenthesis that closes a comment.
abbrev pub next : Place → ℕ → ℕ → Place
next Between at b =
    if is_blank b then Between
    else if b == 59 then Between
    else if b == 69 then Ended
    else if b == 40 then Comment at 0
    else Inside at
next (Inside start) at b = if b == 59 then Between else Inside start
next (Comment start depth) at b =
    if b == 40 then Comment start (depth + 1)
    else if b == 41 then (if depth == 0 then Inside start else Comment start (depth - 1))
    else Comment start depth
next Ended at b = Ended

-- the command that this byte finishes
abbrev pub finished : Place → ℕ → ℕ → Option Span
finished Between at b = if b == 59 then Some (span at at) else None
finished (Inside start) at b = if b == 59 then Some (span start at) else None
finished (Comment start depth) at b = None
finished Ended at b = None

-- how a text ends that ends here
abbrev pub ending : Place → Ending
ending Between = NoEnd
ending (Inside start) = NoEnd
ending (Comment start depth) = Paren
ending Ended = End

-- no commands, and this ending
abbrev pub none_left : Ending → Commands
none_left e = record { spans = []; ending = e }

-- the same with this command before
abbrev pub with_span : Option Span → Commands → Commands
with_span None c = c
with_span (Some s) c = record { spans = s ∷ c.spans; ending = c.ending }

-- the same with these commands before
abbrev pub after : List Span → Commands → Commands
after spans c = record { spans = spans ++ c.spans; ending = c.ending }

-- the commands that are finished in the rest of a text, which stands here, and its ending
abbrev pub cut : Place → ℕ → List ℕ → Commands
cut place at [] = none_left (ending place)
cut place at (b ∷ rest) = with_span (finished place at b) (cut (next place at b) (at + 1) rest)

-- the finished commands of a text and its ending
abbrev pub commands_of : List ℕ → Commands
commands_of text = cut Between 0 text

-- no comment is in more parentheses than that
abbrev pub IsNoDeeper : ℕ → Place → Type 0
IsNoDeeper most Between = Unit {0}
IsNoDeeper most (Inside start) = Unit {0}
IsNoDeeper most (Comment start depth) = depth ≤ most
IsNoDeeper most Ended = Unit {0}
