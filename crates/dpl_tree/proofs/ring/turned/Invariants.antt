use Rattle.std.proofs.Common.{◌≡◌, ℕ, ◌-◌, ◌<◌, get_or, length}
use Rattle.dpl_tree.proofs.ring.turned.Given as goal

abbrev pub invariant-loop-i : goal.invariant-loop-i
invariant-loop-i l = record {
  sets_length : length l.others.items ≡ l.i;
  joins_length : length l.backwards.items ≡ l.i;
  first : 0 < l.i → get_or l.others.items 0 0 ≡ get_or l.sets 0 0;
  each : (j : ℕ) → 0 < j → j < l.i → get_or l.others.items j 0 ≡ get_or l.sets (length l.sets - j) 0;
  each_from : (j : ℕ) → j < l.i → (get_or l.backwards.items j (0, 0)).0 ≡ (get_or l.joins (length l.sets - 1 - j) (0, 0)).1;
  each_to : (j : ℕ) → j < l.i → (get_or l.backwards.items j (0, 0)).1 ≡ (get_or l.joins (length l.sets - 1 - j) (0, 0)).0;
}
