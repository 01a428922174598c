-- The commands of a layout, read so far.
use Rattle.std.specs.Prelude.{ℕ, ◌≡◌, List, [], ◌++◌, Option, None, Some, Result, Ok, Err}
use Rattle.indexmap.specs.IndexMap.{keys}
use Rattle.dpl_lex.specs.declared.types.Ending.{Ending}
use Rattle.dpl_rules.specs.declared.command.Command.{Command}
use Rattle.dpl_rules.specs.declared.what.What.{What}
use Rattle.dpl_rules.specs.declared.scope.Scope.{Scope}
use Rattle.dpl_calls.specs.declared.scanning.ScanError.{ScanError}
use Rattle.dpl_calls.specs.declared.scanning.ScanError.TheVariants.{Breaks, NoMemory}
use Rattle.dpl_rules.specs.Rules.{fault, rule_fault, at_first}
use Rattle.dpl_calls.specs.declared.table.Table.{Table}
use Rattle.dpl_calls.specs.Parts.{parts_from}
use Rattle.dpl_calls.specs.Loops.{sites_from, numbers_from}
use Rattle.dpl_calls.specs.Table.{bodies_of}
use Rattle.dpl_calls.specs.Found.{calls_at, standing, AreCalls}

-- What the commands so far have left, and what the others add to it, is what all commands give.
pub record Scans (chosen : List ℕ) (all rest : List (Result Command What)) (ending : Ending)
    (t : Table) (s : Scope) (at : ℕ) : Type 0 where
  pub rule : rule_fault chosen s (keys t.definitions) at rest ending
      ≡ rule_fault chosen at_first [] 1 all ending
  pub bodies : (place : Option ℕ) → bodies_of t place
      ++ parts_from chosen s rest place ≡ parts_from chosen at_first all place
  pub numbers : numbers_from (keys t.definitions) rest ≡ numbers_from [] all
  pub calls : (place : Option ℕ) → calls_at t place
      ++ standing place (sites_from chosen s at rest)
      ≡ standing place (sites_from chosen at_first 1 all)

-- All that a layout without a broken rule gives.
pub record IsScanned (chosen : List ℕ) (all : List (Result Command What)) (ending : Ending)
    (t : Table) : Type 0 where
  pub clean : rule_fault chosen at_first [] 1 all ending ≡ None
  pub bodies : (place : Option ℕ) → bodies_of t place ≡ parts_from chosen at_first all place
  pub numbers : keys t.definitions ≡ numbers_from [] all
  pub calls : AreCalls t (sites_from chosen at_first 1 all)

-- the table of a clean layout, or the first broken rule; memory may run out
abbrev pub ScanGives : List ℕ → List (Result Command What) → Ending → Result Table ScanError → Type 0
ScanGives chosen all ending (Ok t) = IsScanned chosen all ending t
ScanGives chosen all ending (Err (Breaks at what)) =
    rule_fault chosen at_first [] 1 all ending ≡ Some (fault at what)
ScanGives chosen all ending (Err NoMemory) = Unit {0}
