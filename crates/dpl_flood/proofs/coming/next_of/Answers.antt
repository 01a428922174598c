use Rattle.std.proofs.Common.{arith, ◌+◌, sym, ap, ◌∙◌, subst, length}
use Rattle.std.specs.Prelude.{slice_set}
use Rattle.dpl_flood.specs.Events.{IsLater}
use Rattle.dpl_flood.specs.States.{AreKeys}
use Rattle.dpl_flood.proofs.ComeLemmas.{set_later, due_set}
use Rattle.dpl_flood.proofs.FlowLemmas.{set_keys}
use Rattle.dpl_flood.proofs.coming.next_of.Goals as goal

pub returns-in-None-clause-come : goal.returns-in-None-clause-come
returns-in-None-clause-come c =
    let d = c.args.dual.now in
    let x = c.args.state.now in
    let place = length d.crosses + c.args.set in
    let is = due_set d x c.args.set in
    subst (IsLater d x c.args.queue.now) (ap (slice_set c.args.queue.now place) is ∙ sym c.look_set.ensures)
    (set_later d x place c.args.queue.now (omega (arith, c.requires.set, c.requires.keys.places)) (omega (arith, is, c.in-None.ensures, c.requires.now)))

pub returns-in-None-clause-keys : goal.returns-in-None-clause-keys
returns-in-None-clause-keys c = subst (AreKeys c.args.dual.now c.args.state.now) (sym c.look_set.ensures)
    (set_keys c.args.dual.now c.args.state.now c.args.set c.args.queue.now c.requires.state c.requires.set c.requires.keys)
