use Rattle.std.proofs.Common.{arith}
use Rattle.dpl_flood.proofs.TreedLemmas.{forest_taken, forest_unmoved}
use Rattle.dpl_flood.proofs.FlowLemmas.{taken_keys}
use Rattle.dpl_flood.proofs.shifting.reach.Goals as goal

pub look_around-requires-clause-face : goal.look_around-requires-clause-face
look_around-requires-clause-face c = c.in_ok-take.ensures.ok.takes.home.0

pub look_around-requires-clause-places : goal.look_around-requires-clause-places
look_around-requires-clause-places c = omega (arith, c.requires.keys.places)

pub returns-clause-keys : goal.returns-clause-keys
returns-clause-keys c = taken_keys c.args.dual.now c.args.state.now c.take.new.state c.args.ahead.to c.args.queue.now c.look_around.new.queue c.requires.state
    c.take.ensures.state c.in_ok-take.ensures.ok c.look_around.ensures.keys c.requires.keys

pub returns-in_err-take-clause-forest : goal.returns-in_err-take-clause-forest
returns-in_err-take-clause-forest c = λ f. forest_unmoved c.args.dual.now c.args.state.now c.take.new.state f c.take.ensures.state c.take.ensures.same
    c.in_err-take.ensures.err

pub returns-clause-forest : goal.returns-clause-forest
returns-clause-forest c = λ f. forest_taken c.args.dual.now c.args.state.now c.take.new.state c.args.ahead.to f c.take.ensures.state c.take.ensures.same
    c.in_ok-take.ensures.ok
