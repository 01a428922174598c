use Rattle.std.specs.Prelude.{None}
use Rattle.dpl_calls.specs.Table.{bodies_of}
use Rattle.dpl_calls.proofs.Depth.{deeper}
use Rattle.dpl_calls.proofs.laws.depth_may_grow.Goals as goal

pub returns : goal.returns
returns c d = deeper c.args.table.now c.args.groups.now.labels c.args.groups.now.heads c.requires.groups
    c.requires.loops d (λ c. c) (bodies_of c.args.table.now None)
