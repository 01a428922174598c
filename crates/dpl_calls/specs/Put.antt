-- What is added to a table.
use Rattle.std.specs.Prelude.{ℕ, nat_eq, ◌≤◌, ◌^◌, Bool, List, [], ◌++◌, length, Option, None, Some, if◌then◌else◌, IsSome}
use Rattle.indexmap.specs.IndexMap.{get}
use Rattle.dpl_rules.specs.declared.command.Command.{Command}
use Rattle.dpl_rules.specs.declared.command.Command.TheVariants.{Call}
use Rattle.dpl_rules.specs.declared.figures.Extent.{Extent}
use Rattle.dpl_rules.specs.declared.command.Scale.{Scale}
use Rattle.dpl_rules.specs.Figures.{scaled}
use Rattle.dpl_rules.specs.Rules.{at_first}
use Rattle.dpl_calls.specs.declared.table.CallSite.{CallSite}
use Rattle.dpl_calls.specs.declared.table.Table.{Table}
use Rattle.dpl_calls.specs.Parts.{Part, is_same}
use Rattle.dpl_calls.specs.Loops.{sites_of}

-- the corners of a rectangle in its scale
abbrev pub scaled_extent : Scale → Extent → Extent
scaled_extent scale e = record {
  x1 = scaled scale e.x1;
  y1 = scaled scale e.y1;
  x2 = scaled scale e.x2;
  y2 = scaled scale e.y2;
}

-- parts, where a test passes
abbrev pub where_true : Bool → List Part → List Part
where_true b parts = if b then parts else []

-- the lists of all places with some added at one
abbrev pub put_at : {A : Type 0} → Option ℕ → (Option ℕ → List A) → List A → Option ℕ → List A
put_at at lists added place = if is_same place at then lists place ++ added else lists place

-- the call that a command is, where it stands in this definition
abbrev pub site_in : Option ℕ → ℕ → Command → List CallSite
site_in place at c = sites_of (record at_first { definition = place }) at c

-- the definition that was begun is there
abbrev pub IsKnown : Table → Option ℕ → Type 0
IsKnown t None = Unit {0}
IsKnown t (Some n) = IsSome (get nat_eq t.definitions n)

-- a call has no more transformations than its text has bytes
abbrev pub IsFew : Command → Type 0
IsFew (Call n transformations) = length transformations ≤ 2 ^ 25
IsFew c = Unit {0}
