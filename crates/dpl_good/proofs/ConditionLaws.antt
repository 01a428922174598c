-- Each condition fails nowhere exactly where its fact holds.
use Rattle.std.proofs.Common.{◌≡◌, ℕ, List, length, [], sym, None}
use Rattle.dpl_sign.specs.declared.graphs.Signed.{Signed}
use Rattle.dpl_sign.specs.declared.walks.Cycle.{Cycle}
use Rattle.dpl_sign.specs.Colourings.{cost_of}
use Rattle.dpl_sign.specs.Packings.{OverloadsNoEdge, passages, bound_of}
use Rattle.dpl_good.specs.Misses.{number_miss}
use Rattle.dpl_good.specs.Conditions.{loads_miss, packing_miss}
use Rattle.dpl_good.specs.Laws.{OptionsAreTold, CountsAreTold, BondsAreTold, CutsAreTold, ClashesAreTold, CostIsTold}
use Rattle.dpl_good.specs.Laws.{AsideIsTold, WalksAreTold, PackingIsTold, MasksAreTold}
use Rattle.dpl_good.proofs.ListLaws.{or_none, lists_none, lists_same, clash_lines_are, cut_lines_are}
use Rattle.dpl_good.proofs.GoodLemmas.{both_none, numbers_are, params_none, counts_none, bonds_none, walks_none, loads_none, drawing_none, edges_told}
use Rattle.dpl_good.proofs.TrueLemmas.{number_none, params_true, counts_true, bonds_true, walks_true, loads_true, nothing_within, drawing_true}

-- the first condition fails nowhere exactly where the report was made with the options
pub options_are_told : OptionsAreTold
options_are_told p o m n = (params_true p o m n, params_none p o)

-- the same of the numbers of the layout
pub counts_are_told : CountsAreTold
counts_are_told k w = (counts_true k w, counts_none k w)

-- the same of the colours at the ends of each bond
pub bonds_are_told : BondsAreTold
bonds_are_told colours edges = (bonds_true colours 0 edges, bonds_none colours 0 edges)

-- the same of the cut lines and the broken stitches
pub cuts_are_told : CutsAreTold
cuts_are_told xs ws = cut_lines_are xs ws

-- the same of the clash lines and the broken clashes
pub clashes_are_told : ClashesAreTold
clashes_are_told xs ws = clash_lines_are xs ws

-- the same of the cost
pub cost_is_told : CostIsTold
cost_is_told net cost colours = (
  number_none (length net.graph.edges) cost (cost_of net.graph colours),
  numbers_are (length net.graph.edges) cost (cost_of net.graph colours),
)

-- the same of the aside lines and the edges that are set aside
pub aside_is_told : AsideIsTold
aside_is_told xs ws = (lists_none (λ e. e) (λ e w. None) edges_told xs ws, λ e. rw e (lists_same (λ e. e) (λ e w. None) edges_told ws))

-- the same of the cycle lines, each an odd walk
pub walks_are_told : WalksAreTold
walks_are_told g cs = (walks_true g 0 cs, walks_none g 0 cs)

fits : (g : Signed) (bound : ℕ) (cs : List Cycle) → packing_miss g bound cs ≡ None → OverloadsNoEdge g (passages cs) × (bound ≡ bound_of cs)
fits g bound cs e =
    let d = or_none (loads_miss g [] (passages cs)) (number_miss (length g.edges) (bound_of cs) bound) e in
    (loads_true g [] (passages cs) (nothing_within g) d.0, sym (number_none (length g.edges) (bound_of cs) bound d.1))

-- the same of the loads of edges and the bound
pub packing_is_told : PackingIsTold
packing_is_told g bound cs = (
  fits g bound cs,
  λ f. both_none _ _ (loads_none g [] (passages cs) f.0)
      (numbers_are (length g.edges) (bound_of cs) bound (sym f.1)),
)

-- the same of the boxes of both masks
pub masks_are_told : MasksAreTold
masks_are_told on_a on_b a b = (drawing_true on_a on_b a b, λ f. drawing_none on_a on_b a b f.0 f.1)
