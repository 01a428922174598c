-- The verdict is Yes exactly where the nine facts hold.
use Rattle.std.proofs.Common.{◌≡◌, ◌↔◌, ℕ, List}
use Rattle.dpl_sign.specs.declared.nets.Net.{Net}
use Rattle.dpl_cuts.specs.declared.types.Fragments.{Fragments}
use Rattle.dpl_options.specs.Options.{PlainOptions, AreOptions}
use Rattle.dpl_links.proofs.NetLemmas.{net_ties}
use Rattle.dpl_layer.specs.Drawings.{Cells, OnLayer}
use Rattle.dpl_layer.specs.Layers.{IsLayer, IsLayerOf}
use Rattle.dpl_report.specs.Plain.{PlainReport}
use Rattle.dpl_good.specs.Facts.{AreNineFacts}
use Rattle.dpl_good.proofs.BrokenLemmas.{TakeCuts, net_takes}
use Rattle.dpl_good.proofs.TrueLemmas.{good_is_true}
use Rattle.dpl_good.proofs.GoodLemmas.{true_is_good}
use Rattle.dpl_good.proofs.FactLemmas.{facts_of_truth, truth_of_facts}
use Rattle.dpl_check.specs.declared.verdicts.Verdict.TheVariants.{Yes}
use Rattle.dpl_check.specs.Checked.{IsVerdictOf, IsVerdictOfCells}

-- the text is that of a report with this cost and bound, of which the nine facts hold over the layer of the cells
abbrev pub IsOfFacts : PlainOptions → List ℕ → ℕ → ℕ → Cells → Cells → Type 0
IsOfFacts o text cost bound cells kept =
    (f : Fragments) × (net : Net) × (r : PlainReport) × IsLayer o cells kept f net × AreNineFacts o f net text r
    × (cost ≡ r.head.cost) × (bound ≡ r.head.bound)

-- the cuts of a layer are the stitches of its net
layer_takes : (o : PlainOptions) (cells kept : Cells) (f : Fragments) (net : Net) → IsLayerOf o cells kept f net → TakeCuts net.graph.edges f.cuts
layer_takes o cells kept f net l =
    net_takes o.weights l.net.bonds f.cuts l.net.links net.graph.edges (net_ties f o.weights _ net l.net)

facts : (o : PlainOptions) (text : List ℕ) (cost bound : ℕ) (cells kept : Cells) → AreOptions o
    → IsVerdictOfCells o text (Yes cost bound) cells kept → IsOfFacts o text cost bound cells kept
facts o text cost bound cells kept ranges v =
    let take = layer_takes o cells kept v.fragments v.net v.layer.layer in
    let g = v.verdict.good in
    let truth = good_is_true o v.fragments v.net g.report ranges g.valid g.good in
    let n = facts_of_truth o v.fragments v.net text g.report take g.valid g.written truth in
    (v.fragments, v.net, g.report, v.layer, n, v.verdict.cost_is, v.verdict.bound_is)

verdict : (o : PlainOptions) (text : List ℕ) (cost bound : ℕ) (cells kept : Cells)
    → IsOfFacts o text cost bound cells kept → IsVerdictOfCells o text (Yes cost bound) cells kept
verdict o text cost bound cells kept (f, net, r, layer, n, c, b) =
    let take = layer_takes o cells kept f net layer.layer in
    let ordered = layer.layer.fragments.are_fragments.cuts.ordered in
    let good = true_is_good o f net r (truth_of_facts o f net text r take ordered n) in
    record {
      fragments = f;
      net = net;
      layer = layer;
      verdict = record { good = record { report = r; valid = n.valid; written = n.text_is; good = good }; cost_is = c; bound_is = b };
    }

-- over the layer of a text
pub yes_by_facts : (o : PlainOptions) (text report : List ℕ) (cost bound : ℕ) → AreOptions o
    → IsVerdictOf o text report (Yes cost bound) ↔ OnLayer o text (IsOfFacts o report cost bound)
yes_by_facts o text report cost bound ranges =
    (λ v. (v.0, facts o report cost bound _ _ ranges v.1), λ h. (h.0, verdict o report cost bound _ _ h.1))
