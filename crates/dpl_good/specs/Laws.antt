-- What holds of each condition of a good report.
use Rattle.std.specs.Prelude.{◌≡◌, ◌↔◌, ℕ, Bool, true, List, None, All}
use Rattle.dpl_cell.specs.Places.{Corners}
use Rattle.dpl_sign.specs.declared.edges.Edge.{Edge}
use Rattle.dpl_sign.specs.declared.graphs.Signed.{Signed}
use Rattle.dpl_sign.specs.declared.nets.Net.{Net}
use Rattle.dpl_sign.specs.declared.walks.Cycle.{Cycle}
use Rattle.dpl_sign.specs.Kinds.{is_bond}
use Rattle.dpl_sign.specs.Walks.{IsOddWalk}
use Rattle.dpl_sign.specs.Colourings.{colour_of, cost_of}
use Rattle.dpl_sign.specs.Packings.{OverloadsNoEdge, passages, bound_of}
use Rattle.dpl_report.specs.declared.marks.Broken.{Broken}
use Rattle.dpl_options.specs.Options.{PlainOptions}
use Rattle.dpl_report.specs.declared.params.Params.{Params}
use Rattle.dpl_report.specs.declared.params.Counts.{Counts}
use Rattle.dpl_report.specs.Plain.{PlainZone}
use Rattle.dpl_report.specs.Valid.{AreNames}
use Rattle.dpl_good.specs.Conditions.{params_miss, AreAsked, counts_miss, bonds_miss, cut_lines_miss, clash_lines_miss, cost_miss, aside_miss, walks_miss, packing_miss, drawing_miss}

-- ---- each condition fails nowhere exactly where its fact holds

abbrev pub OptionsAreTold : Type 0
OptionsAreTold = (p : Params) (o : PlainOptions) → AreNames p.layer p.keep → AreNames o.layer o.keep →
    (params_miss p o ≡ None) ↔ AreAsked p o

abbrev pub CountsAreTold : Type 0
CountsAreTold = (shown wanted : Counts) → (counts_miss shown wanted ≡ None) ↔ (shown ≡ wanted)

-- the ends of each bond are on one mask
abbrev pub BondsAreTold : Type 0
BondsAreTold = (colours : List Bool) (edges : List Edge) → (bonds_miss colours 0 edges ≡ None)
    ↔ All (λ e. is_bond e.kind ≡ true → colour_of colours e.a ≡ colour_of colours e.b) edges

abbrev pub CutsAreTold : Type 0
CutsAreTold = (listed wanted : List PlainZone) →
    (cut_lines_miss listed wanted ≡ None) ↔ (listed ≡ wanted)

abbrev pub ClashesAreTold : Type 0
ClashesAreTold = (listed wanted : List Broken) →
    (clash_lines_miss listed wanted ≡ None) ↔ (listed ≡ wanted)

abbrev pub CostIsTold : Type 0
CostIsTold = (net : Net) (cost : ℕ) (colours : List Bool) →
    (cost_miss net cost colours ≡ None) ↔ (cost ≡ cost_of net.graph colours)

abbrev pub AsideIsTold : Type 0
AsideIsTold = (listed wanted : List ℕ) → (aside_miss listed wanted ≡ None) ↔ (listed ≡ wanted)

abbrev pub WalksAreTold : Type 0
WalksAreTold = (g : Signed) (cycles : List Cycle) →
    (walks_miss g 0 cycles ≡ None) ↔ All (λ c. IsOddWalk g c.walk) cycles

-- nothing is loaded beyond twice its weight, and the half weights sum to the bound
abbrev pub PackingIsTold : Type 0
PackingIsTold = (g : Signed) (bound : ℕ) (cycles : List Cycle) →
    (packing_miss g bound cycles ≡ None) ↔
    (OverloadsNoEdge g (passages cycles) × (bound ≡ bound_of cycles))

abbrev pub MasksAreTold : Type 0
MasksAreTold = (on_a on_b wanted_a wanted_b : List Corners) →
    (drawing_miss on_a on_b wanted_a wanted_b ≡ None) ↔ ((on_a ≡ wanted_a) × (on_b ≡ wanted_b))
