use Rattle.std.proofs.Common.{arith}
use Rattle.dpl_flood.proofs.TreedLemmas.{forest_left}
use Rattle.dpl_flood.proofs.FlowLemmas.{left_face, left_keys}
use Rattle.dpl_flood.proofs.shifting.retreat.Goals as goal

pub look_around-requires-clause-face : goal.look_around-requires-clause-face
look_around-requires-clause-face c = left_face c.args.dual.now c.args.state.now c.leave-face.new.state c.args.set c.leave-face.result c.requires.state c.leave-face.ensures.left

pub look_around-requires-clause-places : goal.look_around-requires-clause-places
look_around-requires-clause-places c = omega (arith, c.requires.keys.places)

pub returns-clause-keys : goal.returns-clause-keys
returns-clause-keys c = left_keys c.args.dual.now c.args.state.now c.leave-face.new.state c.args.set c.leave-face.result c.args.queue.now c.look_around.new.queue
    c.requires.state (c.leave-face.ensures.state c.args.dual.now c.requires.state) c.leave-face.ensures.left c.look_around.ensures.keys c.requires.keys

pub returns-clause-forest : goal.returns-clause-forest
returns-clause-forest c = λ f. forest_left c.args.dual.now c.args.state.now c.leave-face.new.state c.args.set c.leave-face.result f
    (c.leave-face.ensures.state c.args.dual.now c.requires.state) c.leave-face.ensures.same c.leave-face.ensures.left
