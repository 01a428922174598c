use Rattle.dpl_dual.proofs.PartLemmas.{sides_within, parts_are}
use Rattle.dpl_dual.proofs.naming.parts.Goals as goal

pub classes-requires-clause-within : goal.classes-requires-clause-within
classes-requires-clause-within c = rw (c.deref.ensures.value, c.in_ok-sides.ensures) (sides_within c.args.faces c.args.ways.now c.requires)

pub returns-clause-each : goal.returns-clause-each
returns-clause-each c = parts_are c.args.faces c.args.ways.now _ _ (rw (c.deref.ensures.value, c.in_ok-sides.ensures) at c.in_ok-part.ensures)
