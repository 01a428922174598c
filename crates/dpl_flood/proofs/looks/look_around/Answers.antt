use Rattle.std.proofs.Common.{arith, ◌≡◌, ◌<◌, ◌∙◌, ap, sym, subst, length, get_or, []}
use Rattle.std.specs.Prelude.{All}
use Rattle.std.proofs.lemmas.List.FromFn.{get_or-map-range_with_len, length-map-range_with_len}
use Rattle.dpl_flood.specs.States.{AreKeyed, sea_of}
use Rattle.dpl_flood.specs.Steps.{steps_of}
use Rattle.dpl_flood.proofs.LookLemmas.{keyed_around, steps_inside, around_looked}
use Rattle.dpl_flood.proofs.looks.look_around.Goals as goal

pub row-requires : goal.row-requires
row-requires c = omega (
  arith,
  ap length c.requires.steps,
  length-map-range_with_len (steps_of c.args.dual.now.crosses) 0 c.args.dual.now.faces,
  c.requires.face,
)

pub look_over-requires-clause-steps : goal.look_over-requires-clause-steps
look_over-requires-clause-steps c =
    let is : c.row.result.now ≡ steps_of c.args.dual.now.crosses c.args.face = c.row.ensures ∙ ap (λ z. get_or z c.args.face []) c.requires.steps
    ∙ get_or-map-range_with_len (steps_of c.args.dual.now.crosses) 0 c.args.dual.now.faces c.args.face c.args.face [] c.requires.face (omega arith) in
    subst (All (λ y. y.way < length c.args.dual.now.crosses)) (sym is) (steps_inside c.args.dual.now c.args.face)

pub returns-clause-keys : goal.returns-clause-keys
returns-clause-keys c =
    let is : c.row.result.now ≡ steps_of c.args.dual.now.crosses c.args.face = c.row.ensures ∙ ap (λ z. get_or z c.args.face []) c.requires.steps
    ∙ get_or-map-range_with_len (steps_of c.args.dual.now.crosses) 0 c.args.dual.now.faces c.args.face c.args.face [] c.requires.face (omega arith) in
    keyed_around c.args.dual.now (sea_of c.args.state.now) c.args.face c.args.queue.now c.look_over.new.queue
    (subst (λ z. AreKeyed c.args.dual.now (sea_of c.args.state.now) z (length z) c.args.queue.now c.look_over.new.queue) is c.look_over.ensures)

pub returns-clause-looked : goal.returns-clause-looked
returns-clause-looked c =
    let is : c.row.result.now ≡ steps_of c.args.dual.now.crosses c.args.face = c.row.ensures ∙ ap (λ z. get_or z c.args.face []) c.requires.steps
    ∙ get_or-map-range_with_len (steps_of c.args.dual.now.crosses) 0 c.args.dual.now.faces c.args.face c.args.face [] c.requires.face (omega arith) in
    around_looked c.args.dual.now (sea_of c.args.state.now) c.args.face c.args.queue.now c.look_over.new.queue c.requires.state.sea.moving
    (omega (arith, c.requires.state.early))
    (keyed_around c.args.dual.now (sea_of c.args.state.now) c.args.face c.args.queue.now c.look_over.new.queue
    (subst (λ z. AreKeyed c.args.dual.now (sea_of c.args.state.now) z (length z) c.args.queue.now c.look_over.new.queue) is c.look_over.ensures))
