use Rattle.std.proofs.Common.{◌≡◌, ◌++◌, length}
use Rattle.dpl_stacks.specs.Stacks.{joined}
use Rattle.dpl_stacks.proofs.passing.push_pieces.Given as goal

abbrev pub invariant-pieces : goal.invariant-pieces
invariant-pieces l = joined l.blocks.items ++ l.rest ≡ joined l.fn.blocks.items ++ l.stacks

abbrev pub decreases-pieces : goal.decreases-pieces
decreases-pieces l = length l.rest
