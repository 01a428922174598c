use Rattle.std.proofs.Common.{◌≤◌, ◌-◌}
use Rattle.dpl_cover.specs.Counts.{IsPartChange}
use Rattle.dpl_cover.proofs.counts.change_parts.Given as goal

abbrev pub invariant-loop-at : goal.invariant-loop-at
invariant-loop-at l = record {
  changed : IsPartChange l.from l.at l.by l.fn.each l.fn.blocks l.each l.blocks;
  order : l.from ≤ l.at;
  within : l.at ≤ l.to;
}

abbrev pub decreases-loop-at : goal.decreases-loop-at
decreases-loop-at l = l.to - l.at
