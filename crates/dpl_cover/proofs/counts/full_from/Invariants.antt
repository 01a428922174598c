use Rattle.std.proofs.Common.{◌≡◌, ℕ, ◌≤◌, ◌<◌, ◌-◌, true, length}
use Rattle.dpl_cover.specs.Counts.{is_counted}
use Rattle.dpl_cover.proofs.counts.full_from.Given as goal

abbrev pub invariant-loop-end : goal.invariant-loop-end
invariant-loop-end l = record {
  order : l.at ≤ l.end;
  within : l.end ≤ length l.each;
  same : (k : ℕ) → l.at ≤ k → k < l.end → is_counted l.each l.blocks k ≡ true;
}

abbrev pub decreases-loop-end : goal.decreases-loop-end
decreases-loop-end l = length l.each - l.end
