use Rattle.std.proofs.Common.{None}
use Rattle.dpl_calls.specs.Unfolding.{figures_of}
use Rattle.dpl_calls.specs.Totals.{total_of, own_calls}
use Rattle.dpl_calls.specs.Table.{bodies_of}
use Rattle.dpl_calls.specs.Stack.{turns_left, Goes}
use Rattle.dpl_calls.proofs.unfolding.unfold_table.Given as goal

abbrev pub invariant-frames : goal.invariant-frames
invariant-frames l = Goes (bodies_of l.table) (figures_of l.depth (bodies_of l.table) (λ c. c) (bodies_of l.table None))
    (total_of own_calls l.depth (bodies_of l.table) (bodies_of l.table None)) l.figures.items l.stack.items l.done

abbrev pub decreases-frames : goal.decreases-frames
decreases-frames l = turns_left (bodies_of l.table) l.stack.items
