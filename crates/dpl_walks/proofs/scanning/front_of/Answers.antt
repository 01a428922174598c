use Rattle.std.proofs.Common.{arith}
use Rattle.dpl_walks.proofs.CycleLemmas.{half_there, start_there}
use Rattle.dpl_walks.proofs.scanning.front_of.Goals as goal

pub returns-in_default-number_at : goal.returns-in_default-number_at
returns-in_default-number_at c = λ after a.
    c.in_default-number_at.ensures a.cycle.half _ (half_there after c.args.text.now c.in-Some.rest.now a c.in-Some.ensures)

pub returns-then-half-eq0 : goal.returns-then-half-eq0
returns-then-half-eq0 c = λ after a.
    let h = start_there c.in-Some-number_at.half after c.args.text.now c.in-Some.rest.now c.in-Some-number_at.rest.now a
    c.in-Some.ensures c.in-Some-number_at.ensures in
    omega (arith, h.same, a.fits.some)

pub returns-in_default-short_at : goal.returns-in_default-short_at
returns-in_default-short_at c = λ after a.
    let h = start_there c.in-Some-number_at.half after c.args.text.now c.in-Some.rest.now c.in-Some-number_at.rest.now a
    c.in-Some.ensures c.in-Some-number_at.ensures in
    c.in_default-short_at.ensures a.cycle.walk.start _ h.start
