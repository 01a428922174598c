use Rattle.std.proofs.Common.{◌≡◌, ◌<◌, ◌≤◌, ℕ, length, take, get_or}
use Rattle.dpl_groups.proofs.walk.drop_above.Given as goal

abbrev pub invariant-items : goal.invariant-items
invariant-items l =
    record {
      fewer : length l.items.items ≤ length l.fn.items.items;
      front : l.items.items ≡ take (length l.items.items) l.fn.items.items;
      gone : (t : ℕ) → length l.items.items ≤ t → t < length l.fn.items.items → l.most < get_or l.fn.items.items t 0;
    }

abbrev pub decreases-items : goal.decreases-items
decreases-items l = length l.items.items
