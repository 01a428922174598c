-- When a text is good for a layout: the first condition that fails, with its place and its two values.
use Rattle.std.specs.Prelude.{◌≡◌, ◌≢◌, ◌⊎◌, ℕ, pos, List, map, count_by, false, true, Option, None, Some}
use Rattle.dpl_cell.specs.Places.{corners_of}
use Rattle.dpl_rules.specs.Readers.{or_else}
use Rattle.dpl_sign.specs.declared.nets.Net.{Net}
use Rattle.dpl_sign.specs.Kinds.{is_bond, is_clash}
use Rattle.dpl_sign.specs.Excess.{excess, all_edges, aside_edges}
use Rattle.dpl_form.specs.Lines.{lines_in}
use Rattle.dpl_form.specs.Readers.{IsFirstWrong}
use Rattle.dpl_report.specs.declared.params.Counts.{Counts}
use Rattle.dpl_report.specs.Plain.{PlainReport}
use Rattle.dpl_report.specs.ReportLines.{report_lines, report_text}
use Rattle.dpl_report.specs.Valid.{IsReport}
use Rattle.dpl_cuts.specs.declared.types.Fragments.{Fragments}
use Rattle.dpl_options.specs.Options.{PlainOptions}
use Rattle.dpl_good.specs.declared.refusals.Miss.{Miss}
use Rattle.dpl_good.specs.declared.refusals.Refusal.{Refusal}
use Rattle.dpl_good.specs.Misses.{miss}
use Rattle.dpl_good.specs.MaskRects.{mask_of}
use Rattle.dpl_good.specs.Conditions.{params_miss, counts_miss, bonds_miss, broken_miss, aside_miss, walks_miss, packing_miss, drawing_miss, is_stitch}

abbrev pub refused : ℕ → Option Miss → Option Refusal
refused reason None = None
refused reason (Some m) = Some (record { reason = reason; at = m })

-- the numbers of a layout that a report shows
abbrev pub counts_of_net : Net → Counts
counts_of_net net = record {
  pieces = net.piece_count;
  fragments = net.graph.nodes;
  bonds = count_by (λ e. is_bond e.kind) net.graph.edges;
  stitches = count_by is_stitch net.graph.edges;
  clashes = count_by (λ e. is_clash e.kind) net.graph.edges;
  excess = excess net all_edges;
}

-- conditions 2 to 9 of a report, of which the first that fails is told
abbrev pub refusal_of : PlainOptions → Fragments → Net → PlainReport → Option Refusal
refusal_of o f net r =
    or_else (refused 2 (params_miss r.head.params o))
    (or_else (refused 3 (counts_miss r.head.counts (counts_of_net net)))
    (or_else (refused 4 (bonds_miss r.head.colours 0 net.graph.edges))
    (or_else (refused 5 (broken_miss f net r))
    (or_else (refused 6 (aside_miss r.lists.aside (aside_edges net)))
    (or_else (refused 7 (walks_miss net.graph 0 r.lists.cycles))
    (or_else (refused 8 (packing_miss net.graph r.head.bound r.lists.cycles))
    (refused 9 (drawing_miss r.on_a r.on_b (map corners_of (mask_of false f r.head.colours))
    (map corners_of (mask_of true f r.head.colours))))))))))

-- condition 1 fails: the text is no report's, and this is the number of its first line that cannot stand
pub record IsNoReport (text : List ℕ) (x : Refusal) : Type 0 where
  pub none : (r : PlainReport) → IsReport r → text ≢ report_text r
  pub place : ℕ
  pub first : IsFirstWrong report_lines IsReport (lines_in text) place
  pub told : x ≡ record { reason = 1; at = miss place (pos 0) (pos 0) }

-- the text is that of a report, of which a later condition fails first
pub record FailsLater (o : PlainOptions) (f : Fragments) (net : Net) (text : List ℕ) (x : Refusal) : Type 0 where
  pub report : PlainReport
  pub valid : IsReport report
  pub written : text ≡ report_text report
  pub fails : refusal_of o f net report ≡ Some x

-- the first condition that fails, with its place and its two values
abbrev pub IsRefusal : PlainOptions → Fragments → Net → List ℕ → Refusal → Type 0
IsRefusal o f net text x = IsNoReport text x ⊎ FailsLater o f net text x

-- the text is that of a report of which none of the nine conditions fails
pub record IsGood (o : PlainOptions) (f : Fragments) (net : Net) (text : List ℕ) : Type 0 where
  pub report : PlainReport
  pub valid : IsReport report
  pub written : text ≡ report_text report
  pub good : refusal_of o f net report ≡ None

-- ---- words of the steps

abbrev pub rects_of : Fragments → PlainReport → Option Miss
rects_of f r = drawing_miss r.on_a r.on_b (map corners_of (mask_of false f r.head.colours))
    (map corners_of (mask_of true f r.head.colours))

-- Each condition, and behind it those that come later.
abbrev pub rects_refusal : Fragments → PlainReport → Option Refusal
rects_refusal f r = refused 9 (rects_of f r)

abbrev pub packing_refusal : Fragments → Net → PlainReport → Option Refusal
packing_refusal f net r =
    or_else (refused 8 (packing_miss net.graph r.head.bound r.lists.cycles)) (rects_refusal f r)

abbrev pub walks_refusal : Fragments → Net → PlainReport → Option Refusal
walks_refusal f net r = or_else (refused 7 (walks_miss net.graph 0 r.lists.cycles))
    (packing_refusal f net r)

abbrev pub aside_refusal : Fragments → Net → PlainReport → Option Refusal
aside_refusal f net r = or_else (refused 6 (aside_miss r.lists.aside (aside_edges net)))
    (walks_refusal f net r)

abbrev pub broken_refusal : Fragments → Net → PlainReport → Option Refusal
broken_refusal f net r = or_else (refused 5 (broken_miss f net r)) (aside_refusal f net r)

abbrev pub bonds_refusal : Fragments → Net → PlainReport → Option Refusal
bonds_refusal f net r = or_else (refused 4 (bonds_miss r.head.colours 0 net.graph.edges))
    (broken_refusal f net r)

abbrev pub counts_refusal : Fragments → Net → PlainReport → Option Refusal
counts_refusal f net r =
    or_else (refused 3 (counts_miss r.head.counts (counts_of_net net))) (bonds_refusal f net r)
