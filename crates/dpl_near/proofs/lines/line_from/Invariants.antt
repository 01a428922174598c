use Rattle.std.proofs.Common.{◌≡◌, ℕ, ◌<◌, ◌≤◌, get_or}
use Rattle.dpl_near.specs.declared.borders.Border.{Border}
use Rattle.dpl_near.proofs.lines.line_from.Given as goal

abbrev pub invariant-loop-end : goal.invariant-loop-end
invariant-loop-end l = (k : ℕ) (d : Border) → l.start ≤ k → k < l.end → (get_or l.borders k d).line ≡ l.at
