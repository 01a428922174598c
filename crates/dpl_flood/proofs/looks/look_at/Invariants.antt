use Rattle.std.specs.Prelude.{◌≡◌, ℕ, ◌<◌, slice_index}
use Rattle.dpl_flood.specs.States.{AreKeyedFor, sea_of}
use Rattle.dpl_flood.proofs.looks.look_at.Given as goal

abbrev pub invariant-loop-i : goal.invariant-loop-i
invariant-loop-i l = AreKeyedFor l.dual (sea_of l.state) (λ g. (j : ℕ) × ((j < l.i) × (slice_index l.faces j ≡ g))) l.fn.queue l.queue
