-- What is due for `load`: a made layout is split, and the numbers of its report are told.
use Rattle.std.specs.Prelude.{codes, ◌≡◌, ℕ, ◌+◌, List, length, None}
use Rattle.dpl_options.specs.Options.{PlainOptions, usual_weights}
use Rattle.dpl_report.specs.Plain.{PlainReport}
use Rattle.dpl_core.specs.Reports.{IsReportOf}
use Rattle.dpl_run.specs.Lines.{load_line}

-- the options with which a made layout is split
abbrev pub made_options : PlainOptions
made_options =
    record { layer = codes "M"; space = 100; overlap = 20; weights = usual_weights; keep = None }

-- the line that tells the numbers of a report: its edges are bonds, stitches and clashes
abbrev pub loaded_line : PlainReport → List ℕ
loaded_line r = load_line r.head.counts.fragments (r.head.counts.bonds + r.head.counts.stitches
    + r.head.counts.clashes) r.head.cost r.head.bound (length r.lists.aside)

-- the output is that line of a report of the text
abbrev pub IsLoaded : PlainOptions → List ℕ → List ℕ → Type 0
IsLoaded o text output = (r : PlainReport) × IsReportOf o text r × (output ≡ loaded_line r)
