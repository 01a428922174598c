-- What a tight report says of other colourings.
use Rattle.std.proofs.Common.{arith, ◌≡◌, ℕ, ◌+◌, ◌*◌, ◌≤◌, Bool, List}
use Rattle.dpl_sign.specs.declared.nets.Net.{Net}
use Rattle.dpl_sign.specs.Colourings.{IsColouring, cost_of}
use Rattle.dpl_report.specs.Plain.{PlainReport}
use Rattle.dpl_solve.specs.Solved.{aside_cost}
use Rattle.dpl_core.specs.Reports.{CostsLeast, IsTight}

-- ---- other colourings

pub half_of_bound : (net : Net) (r : PlainReport) (colours : List Bool) → CostsLeast net r.head r.lists.aside
    → IsColouring net.graph colours → r.head.bound ≤ 2 * cost_of net.graph colours
half_of_bound net r colours least is = least.half colours is

-- a bound that is met but for the edges set aside
beside : (bound kept aside cost other : ℕ) → bound ≤ 2 * other → bound ≡ 2 * kept → cost ≡ kept + aside → cost ≤ other + aside
beside bound kept aside cost other least tight rest = omega (arith, least, tight, rest)

pub near_least : (net : Net) (r : PlainReport) (colours : List Bool) → IsTight net r → CostsLeast net r.head r.lists.aside
    → IsColouring net.graph colours → r.head.cost ≤ cost_of net.graph colours + aside_cost net r.head.colours
near_least net r colours tight least is = beside r.head.bound _ (aside_cost net r.head.colours) r.head.cost
    (cost_of net.graph colours) (half_of_bound net r colours least is) tight.tight tight.rest

nothing_more : (cost other aside : ℕ) → cost ≤ other + aside → aside ≡ 0 → cost ≤ other
nothing_more cost other aside near none = omega (arith, near, none)

pub least_of_all : (net : Net) (r : PlainReport) (colours : List Bool) → IsTight net r → CostsLeast net r.head r.lists.aside
    → IsColouring net.graph colours → aside_cost net r.head.colours ≡ 0 → r.head.cost ≤ cost_of net.graph colours
least_of_all net r colours tight least is none = nothing_more r.head.cost (cost_of net.graph colours)
    (aside_cost net r.head.colours) (near_least net r colours tight least is) none
