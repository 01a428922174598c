use Rattle.std.proofs.Common.{◌≡◌}
use Rattle.dpl_tree.specs.steps.Opened.{paired_times}
use Rattle.dpl_tree.proofs.giving_way.pair_round.Given as goal

abbrev pub invariant-loop-r : goal.invariant-loop-r
invariant-loop-r l = l.mates ≡ paired_times l.fn.mates l.joins l.place l.r
