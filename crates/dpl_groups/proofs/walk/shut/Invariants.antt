use Rattle.std.proofs.Common.{◌≡◌, ℕ, length, get_or}
use Rattle.dpl_groups.specs.Walk.{shut_up_to}
use Rattle.dpl_groups.specs.declared.walk.Mark.TheVariants.{New}
use Rattle.dpl_groups.proofs.walk.shut.Given as goal

abbrev pub invariant-loop-k : goal.invariant-loop-k
invariant-loop-k l =
    record {
      value : (x : ℕ) → get_or l.marks.items x New ≡ shut_up_to l.place l.k l.label (get_or l.fn.marks.items x New);
      len : length l.marks.items ≡ length l.fn.marks.items;
    }
