use Rattle.std.proofs.Common.{◌≡◌, ◌-◌, length}
use Rattle.dpl_rules.specs.Readers.{spot_of, repeated, after_parts}
use Rattle.dpl_rules.proofs.readers.spots.Given as goal

abbrev pub invariant-loop-turn : goal.invariant-loop-turn
invariant-loop-turn l = after_parts l.spots.items (repeated spot_of (length l.bytes - l._turn) l.rest) ≡ repeated spot_of (length l.bytes) l.bytes
