use Rattle.std.proofs.Common.{◌≡◌, ◌-◌, length}
use Rattle.dpl_rules.specs.Readers.{repeated, after_parts}
use Rattle.dpl_rules.specs.Forms.{transformation_of}
use Rattle.dpl_rules.proofs.forms.transformations.Given as goal

abbrev pub invariant-loop-turn : goal.invariant-loop-turn
invariant-loop-turn l = after_parts l.found.items (repeated transformation_of (length l.bytes - l._turn) l.rest)
    ≡ repeated transformation_of (length l.bytes) l.bytes
