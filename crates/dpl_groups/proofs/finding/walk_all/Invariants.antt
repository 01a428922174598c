use Rattle.std.proofs.Common.{◌≡◌, ◌≢◌, ◌<◌, ℕ, []}
use Rattle.dpl_groups.specs.Walk.{view, IsWalk}
use Rattle.dpl_groups.specs.declared.walk.Mark.TheVariants.{New}
use Rattle.dpl_groups.proofs.finding.walk_all.Given as goal

abbrev pub invariant-loop-node : goal.invariant-loop-node
invariant-loop-node l =
    record {
      kept : IsWalk l.edges (view l.walk);
      empty : l.walk.stack.items ≡ [];
      seen : (x : ℕ) → x < l.node → (view l.walk).mark x ≢ New;
    }
