use Rattle.std.proofs.Common.{get_or}
use Rattle.std.specs.Prelude.{nat_lt}
use Rattle.dpl_refine.proofs.AroundLemmas.{chosen_around, chosen_colouring}
use Rattle.dpl_refine.proofs.choosing.cheaper_around.Goals as goal

pub returns-clause-colouring : goal.returns-clause-colouring
returns-clause-colouring c = chosen_colouring c.args.graph.now c.in_ok-part.part.items c.in_ok-part.count c.in_ok-part.ensures.components
    (λ p. nat_lt (get_or c.in_ok-after.after.items p 0) (get_or c.in_ok-before.before.items p 0)) c.args.old.now c.args.tried.now
    c.in_ok-found.found.items c.requires.old c.requires.tried c.in_ok-found.ensures.long
    (rw (c.as_slice-part.ensures.value, c.as_slice.ensures.value, c.as_slice-2.ensures.value) at c.in_ok-found.ensures.each)

pub returns-clause-around : goal.returns-clause-around
returns-clause-around c = chosen_around c.args.graph.now c.in_ok-part.part.items c.in_ok-part.count c.in_ok-part.ensures.components
    c.args.old.now c.args.tried.now c.in_ok-found.found.items c.in_ok-before.before.items c.in_ok-after.after.items
    c.requires.old.length
    (rw (c.as_slice-part.ensures.value, c.as_slice-edges.ensures) at c.in_ok-before.ensures.each)
    (rw (c.as_slice-part.ensures.value, c.as_slice-edges.ensures) at c.in_ok-after.ensures.each)
    (rw (c.as_slice-part.ensures.value, c.as_slice.ensures.value, c.as_slice-2.ensures.value) at c.in_ok-found.ensures.each)
