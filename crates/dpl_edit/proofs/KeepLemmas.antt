-- An optimum whose colours are others that break kept edges of the same weight.
use Rattle.std.proofs.Common.{arith, ◌≡◌, ℕ, Bool, List, ◌∙◌}
use Rattle.dpl_sign.specs.Colourings.{IsColouring, cost_of}
use Rattle.dpl_options.specs.Options.{PlainOptions}
use Rattle.dpl_parts.specs.Parts.{IsBest, broken_on}
use Rattle.dpl_solve.specs.Solved.{IsSolution, kept_cost}
use Rattle.dpl_solve.proofs.FinishLemmas.{kept_least, cost_parted}
use Rattle.dpl_layer.specs.Drawings.{Cells}
use Rattle.dpl_edit.specs.Optima.{Optimum, IsSolved}

pub is_best : (s : Optimum) → IsSolution s.net s.colours s.cost s.aside s.excess s.cycles s.bound → IsBest s.net s.colours
is_best s h = λ others k. kept_least s.net s.colours others s.cost s.aside s.excess s.cycles s.bound h k

-- the same optimum with these colours
abbrev pub coloured : Optimum → List Bool → ℕ → Optimum
coloured s colours cost = record {
  fragments = s.fragments;
  net = s.net;
  colours = colours;
  cost = cost;
  aside = s.aside;
  excess = s.excess;
  cycles = s.cycles;
  bound = s.bound;
}

pub recoloured : (o : PlainOptions) (cells kept : Cells) (s : Optimum) (colours : List Bool) (cost : ℕ)
    → IsSolved o cells kept s → IsColouring s.net.graph colours
    → broken_on s.net colours ≡ broken_on s.net s.colours → cost ≡ cost_of s.net.graph colours
    → IsSolved o cells kept (coloured s colours cost)
recoloured o cells kept s colours cost h k same is = record {
  layer = h.layer;
  optimum = record {
    colouring = k;
    cost_is = is;
    aside_is = h.optimum.aside_is;
    excess_is = h.optimum.excess_is;
    packing = h.optimum.packing;
    kept = h.optimum.kept;
    bound_is = h.optimum.bound_is;
    tight = let t = h.optimum.tight in let e : kept_cost s.net colours ≡ kept_cost s.net s.colours = same in omega (arith, t, e);
    rest = is ∙ cost_parted s.net colours;
    once = h.optimum.once;
    few = h.optimum.few;
  };
}
