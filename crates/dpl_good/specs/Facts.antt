-- The nine facts of a good report, each in the words of its subject.
use Rattle.std.specs.Prelude.{◌≡◌, ◌<◌, ℕ, false, true, List, length, map, All, AllPairs, Any, Contains}
use Rattle.dpl_cell.specs.Places.{corners_of}
use Rattle.dpl_sign.specs.declared.edges.Kind.TheVariants.{Stitch, Clash}
use Rattle.dpl_sign.specs.declared.nets.Net.{Net}
use Rattle.dpl_sign.specs.Kinds.{is_bond}
use Rattle.dpl_sign.specs.Walks.{IsOddWalk}
use Rattle.dpl_sign.specs.Colourings.{colour_of, cost_of}
use Rattle.dpl_sign.specs.Packings.{OverloadsNoEdge, passages, bound_of}
use Rattle.dpl_sign.specs.Excess.{is_aside}
use Rattle.dpl_cuts.specs.declared.types.Fragments.{Fragments}
use Rattle.dpl_options.specs.Options.{PlainOptions}
use Rattle.dpl_report.specs.Plain.{PlainZone, PlainReport}
use Rattle.dpl_report.specs.ReportLines.{report_text}
use Rattle.dpl_report.specs.Valid.{IsReport}
use Rattle.dpl_good.specs.Conditions.{AreAsked}
use Rattle.dpl_good.specs.Verdicts.{counts_of_net}
use Rattle.dpl_good.specs.MaskRects.{mask_of}
use Rattle.dpl_good.specs.MaskCells.{NameAllBroken}

-- the line shows the zone of the cut between its two fragments
abbrev pub ShowsCut : Fragments → PlainZone → Type 0
ShowsCut f z = Any (λ c. (c.a ≡ z.at.a) × (c.b ≡ z.at.b) × (corners_of c.zone ≡ z.corners)) f.cuts

-- the numbers are those of all edges that are set aside, each once, in order
pub record NameAllAside (net : Net) (lines : List ℕ) : Type 0 where
  pub each : All (λ e. (e < length net.graph.edges) × (is_aside net e ≡ true)) lines
  pub all : (e : ℕ) → e < length net.graph.edges → is_aside net e ≡ true → Contains lines e
  pub ordered : AllPairs (λ d e. d < e) lines

pub record AreNineFacts (o : PlainOptions) (f : Fragments) (net : Net) (text : List ℕ)
    (r : PlainReport) : Type 0 where
  -- 1: the text is the text of a report
  pub valid : IsReport r
  pub text_is : text ≡ report_text r
  -- 2: it was made with these options
  pub options : AreAsked r.head.params o
  -- 3: its numbers are those of the layout
  pub counts : r.head.counts ≡ counts_of_net net
  -- 4: the two fragments of each bond are on one mask
  pub bonds : All (λ e. is_bond e.kind ≡ true →
      colour_of r.head.colours e.a ≡ colour_of r.head.colours e.b) net.graph.edges
  -- 5: the cut lines are the broken stitches with their ends and zones, the clash lines the broken clashes with their
  -- ends, and the cost is that of the masks
  pub stitches : NameAllBroken net.graph r.head.colours Stitch (λ z. z.at) r.lists.cuts
  pub zones : All (ShowsCut f) r.lists.cuts
  pub clashes : NameAllBroken net.graph r.head.colours Clash (λ b. b) r.lists.clashes
  pub cost : r.head.cost ≡ cost_of net.graph r.head.colours
  -- 6: the aside lines are the edges that are set aside
  pub aside : NameAllAside net r.lists.aside
  -- 7: each cycle line is an odd walk
  pub walks : All (λ c. IsOddWalk net.graph c.walk) r.lists.cycles
  -- 8: no stitch and no clash is loaded beyond twice its weight, and the half weights sum to the bound
  pub loads : OverloadsNoEdge net.graph (passages r.lists.cycles)
  pub bound : r.head.bound ≡ bound_of r.lists.cycles
  -- 9: the boxes of each mask are its fragments and then the zones of its broken stitches, in order
  pub on_a : r.on_a ≡ map corners_of (mask_of false f r.head.colours)
  pub on_b : r.on_b ≡ map corners_of (mask_of true f r.head.colours)
