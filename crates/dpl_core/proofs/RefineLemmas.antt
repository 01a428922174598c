-- The report of refined colours, for the cells of a layer and for a text.
use Rattle.std.proofs.Common.{arith, ◌≡◌, ℕ, ◌*◌, ◌≤◌, Bool, List, [], ◌∷◌, length, refl}
use Rattle.dpl_cuts.specs.declared.types.Fragments.{Fragments}
use Rattle.dpl_sign.specs.declared.nets.Net.{Net}
use Rattle.dpl_sign.specs.Colourings.{IsColouring, cost_of}
use Rattle.dpl_sign.specs.Excess.{excess, all_edges}
use Rattle.dpl_sign.proofs.WalkLemmas.{packing_bounds}
use Rattle.dpl_options.specs.Options.{PlainOptions}
use Rattle.dpl_report.specs.Plain.{PlainReport}
use Rattle.dpl_report.specs.ReportLines.{report_text}
use Rattle.dpl_good.specs.Truths.{SaysTrue}
use Rattle.dpl_links.proofs.NetLemmas.{net_ties}
use Rattle.dpl_good.proofs.BrokenLemmas.{net_takes}
use Rattle.dpl_good.proofs.FactLemmas.{facts_of_truth}
use Rattle.dpl_refine.specs.Refined.{IsRefined}
use Rattle.dpl_refine.proofs.LeastLemmas.{least_refined}
use Rattle.dpl_layer.specs.Drawings.{Cells, OnLayer}
use Rattle.dpl_layer.specs.Layers.{IsCutLayer, IsLayerOfText}
use Rattle.dpl_layer.proofs.TextLemmas.{on_layer}
use Rattle.dpl_core.specs.Reports.{HaveMasks, IsReportOfNet, IsRefinedOfNet, IsRefinedOfCells}

-- ---- bounds

-- the walks of a report that says the truth bound every colouring
half_of : (o : PlainOptions) (f : Fragments) (n : Net) (r : PlainReport) → SaysTrue o f n r
    → (colours : List Bool) → IsColouring n.graph colours → r.head.bound ≤ 2 * cost_of n.graph colours
half_of o f n r t colours c =
    let most = packing_bounds n.graph r.lists.cycles colours t.packing c in
    let e = t.bound in omega (arith, most, e)

met_of : (cost bound other : ℕ) → bound ≤ 2 * other → 2 * cost ≡ bound → cost ≤ other
met_of cost bound other h e = omega (arith, h, e)

-- ---- nothing set aside

pub no_items : (xs : List ℕ) → length xs ≡ 0 → xs ≡ []
no_items [] e = refl
no_items (x ∷ xs) e = absurd (omega arith)

-- where nothing is set aside, the colours of a tight report are refined already
plane_refined : (o : PlainOptions) (f : Fragments) (n : Net) (t : PlainReport) → IsReportOfNet o f n t
    → excess n all_edges ≡ 0 → IsRefined n.graph t.head.colours t.head.colours
plane_refined o f n t is p =
    least_refined n.graph t.head.colours is.truth.colouring
    (λ others c. let most = is.least.all p others c in let cost = is.truth.cost in omega (arith, most, cost))

-- a tight report with nothing set aside is refined
pub plane_of_net : (o : PlainOptions) (f : Fragments) (n : Net) (t : PlainReport) → IsReportOfNet o f n t
    → t.lists.aside ≡ [] → IsRefinedOfNet o f n t
plane_of_net o f n t is e = record {
  truth = is.truth;
  valid = is.valid;
  good = is.good;
  tight = t;
  of = is;
  refined = plane_refined o f n t is (is.least.plane.0 e);
  untouched = λ u l none. refl;
  bound = omega arith;
  plane = λ p. refl;
}

-- ---- cells and texts

-- a refined report of the net of a layer is one of its cells
refined_of_cells : (o : PlainOptions) (f : Fragments) (n : Net) (r : PlainReport) → IsRefinedOfNet o f n r
    → HaveMasks o f n r → (cells kept : Cells) → IsCutLayer o cells kept f n → IsRefinedOfCells o r cells kept
refined_of_cells o f n r is masks cells kept l =
    let net = l.is.layer.net in
    let takes = net_takes o.weights net.bonds f.cuts net.links n.graph.edges (net_ties f o.weights _ n net) in
    record {
      fragments = f;
      net = n;
      layer = l.is;
      facts = facts_of_truth o f n (report_text r) r takes is.valid refl is.truth;
      masks = masks cells kept l;
      tight = is.tight;
      tight_facts = facts_of_truth o f n (report_text is.tight) is.tight takes is.of.valid refl is.of.truth;
      is_tight = is.of.tight;
      least = is.of.least;
      refined = is.refined;
      untouched = is.untouched;
      bound = is.bound;
      plane = is.plane;
      half = half_of o f n r is.truth;
      met = λ e colours c. met_of r.head.cost r.head.bound (cost_of n.graph colours) (half_of o f n r is.truth colours c) e;
    }

-- a refined report of the net of a text's layer is one of the text
pub refined_of_text : (o : PlainOptions) (text : List ℕ) (f : Fragments) (n : Net) (r : PlainReport)
    → IsRefinedOfNet o f n r → HaveMasks o f n r → IsLayerOfText o text f n → OnLayer o text (IsRefinedOfCells o r)
refined_of_text o text f n r is masks l =
    on_layer o text (λ cells kept. IsCutLayer o cells kept f n) (IsRefinedOfCells o r) (refined_of_cells o f n r is masks) l
