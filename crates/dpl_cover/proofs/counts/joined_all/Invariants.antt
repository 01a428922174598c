use Rattle.std.proofs.Common.{ℕ, ◌≤◌, ◌<◌}
use Rattle.dpl_cover.specs.Counts.{IsWider, block_at}
use Rattle.dpl_cover.proofs.counts.joined_all.Given as goal

abbrev pub invariant-loop-j : goal.invariant-loop-j
invariant-loop-j l = (j : ℕ) → l.from ≤ j → j < l.j → IsWider (block_at l.blocks j) l.all
