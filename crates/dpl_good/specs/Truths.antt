-- What a report of a colouring and a packing has to say of a layout.
use Rattle.std.specs.Prelude.{◌≡◌, false, true, map}
use Rattle.dpl_cell.specs.Places.{corners_of}
use Rattle.dpl_sign.specs.declared.nets.Net.{Net}
use Rattle.dpl_sign.specs.Colourings.{IsColouring, cost_of}
use Rattle.dpl_sign.specs.Packings.{IsPacking, bound_of}
use Rattle.dpl_sign.specs.Excess.{aside_edges}
use Rattle.dpl_cuts.specs.declared.types.Fragments.{Fragments}
use Rattle.dpl_options.specs.Options.{PlainOptions}
use Rattle.dpl_report.specs.Plain.{PlainReport}
use Rattle.dpl_good.specs.MaskRects.{mask_of}
use Rattle.dpl_good.specs.Conditions.{AreAsked, cuts_from, clashes_from}
use Rattle.dpl_good.specs.Verdicts.{counts_of_net}

-- the report of the net of some fragments says what its colouring breaks and costs, and what its packing bounds
pub record SaysTrue (o : PlainOptions) (f : Fragments) (net : Net) (r : PlainReport) : Type 0 where
  pub params : AreAsked r.head.params o
  pub counts : r.head.counts ≡ counts_of_net net
  pub colouring : IsColouring net.graph r.head.colours
  pub cuts : r.lists.cuts ≡ cuts_from r.head.colours 0 net.graph.edges f.cuts
  pub clashes : r.lists.clashes ≡ clashes_from r.head.colours 0 net.graph.edges
  pub cost : r.head.cost ≡ cost_of net.graph r.head.colours
  pub aside : r.lists.aside ≡ aside_edges net
  pub packing : IsPacking net.graph r.lists.cycles
  pub bound : r.head.bound ≡ bound_of r.lists.cycles
  pub on_a : r.on_a ≡ map corners_of (mask_of false f r.head.colours)
  pub on_b : r.on_b ≡ map corners_of (mask_of true f r.head.colours)
