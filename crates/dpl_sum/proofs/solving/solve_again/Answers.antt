use Rattle.dpl_sum.proofs.SolveLemmas.{edges_few, share_solved, all_solved}
use Rattle.dpl_sum.proofs.solving.solve_again.Goals as goal

pub solve_all-requires : goal.solve_all-requires
solve_all-requires c = record { edges = edges_few c.args.net.now c.in_ok-parts.parts.items _ c.in_ok-parts.ensures c.requires.edges; known = c.requires.known }

pub combine-requires : goal.combine-requires
combine-requires c = rw c.as_slice.ensures.value (record {
  share = share_solved c.args.net.now c.in_ok-parts.parts.items c.in_ok-solved.solved.items c.in_ok-parts.ensures c.in_ok-solved.ensures.parts;
  solved = all_solved c.in_ok-solved.solved.items c.in_ok-solved.ensures.solved;
})
