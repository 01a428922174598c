use Rattle.std.proofs.Common.{◌≡◌, ℕ, ◌+◌, ◌<◌, ◌≤◌, get_or}
use Rattle.std.specs.Prelude.{if◌then◌else◌, nat_lt}
use Rattle.dpl_tree.proofs.giving_way.make_room.Given as goal

abbrev pub invariant-loop-i : goal.invariant-loop-i
invariant-loop-i l = record {
  done : (j : ℕ) → j < l.i → get_or l.ranks j 0 ≡ (if nat_lt l.rank (get_or l.fn.ranks j 0) then get_or l.fn.ranks j 0 + l.room else get_or l.fn.ranks j 0);
  todo : (j : ℕ) → l.i ≤ j → get_or l.ranks j 0 ≡ get_or l.fn.ranks j 0;
}
