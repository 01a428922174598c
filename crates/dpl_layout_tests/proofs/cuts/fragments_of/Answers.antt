use Rattle.std.proofs.Common.{rules}
use Rattle.dpl_layout_tests.proofs.cuts.fragments_of.Goals as goal

pub cut-requires-clause-apart : goal.cut-requires-clause-apart
cut-requires-clause-apart c = c.are_apart.ensures.0 (search rules)
