-- The definitions of a layout, as they are kept.
use Rattle.std.specs.Prelude.{ℕ, nat_eq, List, [], map, Option, None, Some}
use Rattle.indexmap.specs.IndexMap.{get}
use Rattle.dpl_calls.specs.declared.entry.Entry.{Entry}
use Rattle.dpl_calls.specs.declared.entry.Entry.TheVariants as entry
use Rattle.dpl_calls.specs.declared.table.Table.{Table}
use Rattle.dpl_calls.specs.Parts.{Part, Bodies}
use Rattle.dpl_calls.specs.Parts.Part.{Drawn, Called}
use Rattle.dpl_calls.specs.Placement.{apply}

-- the part that an entry stands for
abbrev pub entry_part : Entry → Part
entry_part (entry.Drawn figure) = Drawn figure
entry_part (entry.Called at n p) = Called n (apply p)

abbrev pub or_nothing : Option (List Entry) → List Entry
or_nothing None = []
or_nothing (Some entries) = entries

-- the entries of a definition, or those outside definitions
abbrev pub entries_of : Table → Option ℕ → List Entry
entries_of t None = t.top
entries_of t (Some n) = or_nothing (get nat_eq t.definitions n)

-- the parts that a table holds
abbrev pub bodies_of : Table → Bodies
bodies_of t place = map entry_part (entries_of t place)
