use Rattle.std.proofs.Common.{arith, sym, subst}
use Rattle.std.proofs.lemmas.Int.{clamps}
use Rattle.std.specs.Prelude.{slice_index}
use Rattle.dpl_laminar.specs.Storing.{sets_of}
use Rattle.dpl_flood.specs.Seas.{AreLate}
use Rattle.dpl_flood.specs.States.{sea_of, top_keys}
use Rattle.dpl_flood.proofs.ClockLemmas.{first_late}
use Rattle.dpl_flood.proofs.PassLemmas.{passed_stands}
use Rattle.dpl_flood.proofs.TreedLemmas.{forest_passed}
use Rattle.dpl_flood.proofs.passing.advance.Goals as goal

pub pass-requires-clause-early : goal.pass-requires-clause-early
pass-requires-clause-early g c = omega (arith, clamps, c.max-time.ensures, c.requires.early c.first.result c.first.ensures, c.requires.state.early)

pub returns-clause-state : goal.returns-clause-state
returns-clause-state g c =
    let d = c.args.dual.now in
    let x = c.args.state.now in
    let y = c.pass.new.state in
    let late = subst (λ z. AreLate d (sea_of x) z (slice_index c.args.queue.now) (top_keys d c.args.queue.now)) (sym c.max-time.ensures)
    (first_late d x c.args.queue.now c.first.result c.requires.state c.requires.keys c.first.ensures) in
    (passed_stands d x y c.max-time.result (sets_of y.family).value c.args.queue.now c.requires.state c.requires.keys late c.requires.awake c.pass.ensures.values
    (omega (arith, clamps, c.max-time.ensures, c.requires.early c.first.result c.first.ensures, c.requires.state.early))
    (λ k h. c.pass.ensures.family.value_small k) c.pass.ensures.over).0

pub returns-clause-keys : goal.returns-clause-keys
returns-clause-keys g c =
    let d = c.args.dual.now in
    let x = c.args.state.now in
    let y = c.pass.new.state in
    let late = subst (λ z. AreLate d (sea_of x) z (slice_index c.args.queue.now) (top_keys d c.args.queue.now)) (sym c.max-time.ensures)
    (first_late d x c.args.queue.now c.first.result c.requires.state c.requires.keys c.first.ensures) in
    (passed_stands d x y c.max-time.result (sets_of y.family).value c.args.queue.now c.requires.state c.requires.keys late c.requires.awake c.pass.ensures.values
    (omega (arith, clamps, c.max-time.ensures, c.requires.early c.first.result c.first.ensures, c.requires.state.early))
    (λ k h. c.pass.ensures.family.value_small k) c.pass.ensures.over).1

pub returns-clause-forest : goal.returns-clause-forest
returns-clause-forest g c = λ f. forest_passed c.args.dual.now c.args.state.now c.pass.new.state c.max-time.result (sets_of c.pass.new.state.family).value f
    (returns-clause-state g c) c.pass.ensures.values c.pass.ensures.over
