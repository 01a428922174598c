use Rattle.std.proofs.Common.{◌≡◌, ◌++◌, take}
use Rattle.dpl_stacks.specs.Stacks.{joined}
use Rattle.dpl_stacks.proofs.stacks.push_stacks.Given as goal

abbrev pub invariant-loop-block : goal.invariant-loop-block
invariant-loop-block l = l.all.items ≡ l.fn.all.items ++ joined (take l.block-index l.blocks)
