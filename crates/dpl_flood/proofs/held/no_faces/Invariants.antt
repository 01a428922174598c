use Rattle.std.proofs.Common.{◌≡◌, []}
use Rattle.std.specs.Prelude.{replicate}
use Rattle.dpl_flood.proofs.held.no_faces.Given as goal

abbrev pub invariant-loop : goal.invariant-loop
invariant-loop l = l.stacks.items ≡ replicate l.counter []
