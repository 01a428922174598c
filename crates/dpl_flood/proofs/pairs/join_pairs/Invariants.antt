use Rattle.std.specs.Prelude.{slice_index}
use Rattle.dpl_laminar.specs.Families.{Sets}
use Rattle.dpl_flood.specs.Flips.{ArePairsJoined}
use Rattle.dpl_flood.specs.Joins.{dist_in}
use Rattle.dpl_flood.proofs.pairs.join_pairs.Given as goal

abbrev pub invariant-loop-i : goal.invariant-loop-i
invariant-loop-i l = (f : Sets) → ArePairsJoined l.ways l.seats (slice_index l.mate) (dist_in l.ways l.arena l.joins f) l.i l.fn.joined l.joined
