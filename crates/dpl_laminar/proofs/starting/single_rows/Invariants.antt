use Rattle.std.proofs.Common.{◌≡◌, ℕ, ◌<◌, ◌≤◌, length, get_or, [], ◌∷◌}
use Rattle.dpl_laminar.proofs.starting.single_rows.Given as goal

abbrev pub invariant-loop-i : goal.invariant-loop-i
invariant-loop-i l = record {
  length : length l.rows.items ≡ l.i;
  singles : (i : ℕ) → i < l.i → i < l.size → get_or l.rows.items i [] ≡ i ∷ [];
  others : (i : ℕ) → l.size ≤ i → get_or l.rows.items i [] ≡ [];
}
