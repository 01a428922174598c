use Rattle.std.proofs.Common.{◌≡◌}
use Rattle.std.specs.Prelude.{slice_index_or}
use Rattle.dpl_sign.specs.Colourings.{colour_of}
use Rattle.dpl_sum.specs.Laying.{laid}
use Rattle.dpl_sum.proofs.combining.lay.Given as goal

abbrev pub invariant-loop-v : goal.invariant-loop-v
invariant-loop-v l = l.colours ≡ laid (λ v. slice_index_or l.nodes v 0) (colour_of l.own) l.fn.colours l.v
