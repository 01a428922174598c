use Rattle.std.specs.Prelude.{slice_index}
use Rattle.dpl_flood.specs.Events.{due_in}
use Rattle.dpl_flood.specs.Seas.{early_keys}
use Rattle.dpl_flood.specs.Sweeps.{IsPopping}
use Rattle.std.proofs.Common.{length}
use Rattle.dpl_flood.proofs.sweeping.next_now.Given as goal

abbrev pub invariant-early : goal.invariant-early
invariant-early l = IsPopping l.dual l.state l.fn.queue l.queue

abbrev pub decreases-early : goal.decreases-early
decreases-early l = early_keys (length l.fn.queue) (due_in l.dual l.state) (slice_index l.queue)
