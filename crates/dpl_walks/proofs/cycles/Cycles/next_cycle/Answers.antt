use Rattle.std.proofs.Common.{◌<◌, [], length, arith, sym, ◌∙◌}
use Rattle.dpl_walks.specs.Cycles.{cycles_in}
use Rattle.dpl_walks.proofs.CycleLemmas.{first_cycle, line_there, edges_of_front, cycle_of_line}
use Rattle.dpl_walks.proofs.cycles.Cycles.next_cycle.Goals as goal

pub returns-in_default-front_of : goal.returns-in_default-front_of
returns-in_default-front_of c =
    let some : 0 < length (cycles_in c.self.inside.text.now) = omega (arith, c.self.invariant) in
    let n = first_cycle c.self.inside.text.now c.in-Some.line.now c.in-Some.rest.now c.in-Some.ensures.0 some in
    absurd (c.in_default-front_of.ensures [] (line_there c.self.inside.text.now c.in-Some.line.now c.in-Some.rest.now n))

pub invariant_of-edges : goal.invariant_of-edges
invariant_of-edges c =
    let some : 0 < length (cycles_in c.self.inside.text.now) = omega (arith, c.self.invariant) in
    let n = first_cycle c.self.inside.text.now c.in-Some.line.now c.in-Some.rest.now c.in-Some.ensures.0 some in
    let f = c.in-Some-front_of.front in
    edges_of_front c.self.inside.text.now c.in-Some.line.now c.in-Some.rest.now f.half f.start f.edges.now n c.in-Some-front_of.ensures

pub returns : goal.returns
returns c =
    let some : 0 < length (cycles_in c.self.inside.text.now) = omega (arith, c.self.invariant) in
    let n = first_cycle c.self.inside.text.now c.in-Some.line.now c.in-Some.rest.now c.in-Some.ensures.0 some in
    let f = c.in-Some-front_of.front in
    sym c.self.view_is ∙ cycle_of_line c.self.inside.text.now c.in-Some.line.now c.in-Some.rest.now f.half f.start f.edges.now n c.in-Some-front_of.ensures
