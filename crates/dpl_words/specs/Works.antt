-- Work on a layout, and the file beside it.
use Rattle.std.specs.Prelude.{ℕ, List, Option, Some, None, option_map, codes}
use Rattle.dpl_words.specs.declared.work.FileOption.{FileOption}
use Rattle.dpl_words.specs.declared.work.FileOption.TheVariants.{Report, Script}
use Rattle.dpl_words.specs.declared.work.Work.{Work}
use Rattle.dpl_words.specs.declared.work.Work.TheVariants.{Split, Check, Cross, Edit, Balance, Refine}

-- the file beside the layout, where the work reads one
abbrev pub file_of : {F : Type 0} → Work F → Option F
file_of (Check file) = Some file
file_of (Edit file) = Some file
file_of work = None

-- the same work with another file, where there is one in the place of its own
abbrev pub with_file : {F G : Type 0} → (F → Option G) → Work F → Option (Work G)
with_file other Split = Some Split
with_file other (Check file) = option_map Check (other file)
with_file other Cross = Some Cross
with_file other (Edit file) = option_map Edit (other file)
with_file other Balance = Some Balance
with_file other Refine = Some Refine

-- the name of an option that names a file
abbrev pub name_of : FileOption → List ℕ
name_of Report = codes "report"
name_of Script = codes "script"
