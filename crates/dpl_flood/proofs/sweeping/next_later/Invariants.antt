use Rattle.std.specs.Prelude.{slice_index}
use Rattle.dpl_flood.specs.Events.{due_in}
use Rattle.dpl_flood.specs.Seas.{early_keys}
use Rattle.dpl_flood.specs.Sweeps.{IsAwaiting}
use Rattle.std.proofs.Common.{length}
use Rattle.dpl_flood.proofs.sweeping.next_later.Given as goal

abbrev pub invariant-times : goal.invariant-times
invariant-times g l = IsAwaiting l.dual l.fn.state (length l.fn.queue) l.state l.queue

abbrev pub decreases-times : goal.decreases-times
decreases-times g l = early_keys (length l.fn.queue) (due_in l.dual l.state) (slice_index l.queue)
