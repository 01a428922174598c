-- The entries of a definition.
use Rattle.std.specs.Prelude.{◌^◌}
use Rattle.dpl_calls.specs.declared.entry.Entry.{Entry}
use Rattle.dpl_calls.specs.declared.entry.Entry.TheVariants.{Drawn, Called}
use Rattle.dpl_calls.specs.Placement.{IsNear}

-- a call shifts no farther than that
abbrev pub IsEntryNear : Entry → Type 0
IsEntryNear (Drawn figure) = Unit {0}
IsEntryNear (Called at n p) = IsNear (2 ^ 107) p
