use Rattle.std.proofs.Common.{◌≡◌, ◌+◌, length}
use Rattle.dpl_laminar.specs.Storing.{sets_of}
use Rattle.dpl_tree.proofs.RoundLemmas.{IsGoing}
use Rattle.dpl_tree.proofs.ring.round_from.Given as goal

abbrev pub invariant-loop : goal.invariant-loop
invariant-loop l = IsGoing (sets_of l.family) l.first l.sets.items l.joins.items l.child × (length l.sets.items ≡ l.counter + 1)
