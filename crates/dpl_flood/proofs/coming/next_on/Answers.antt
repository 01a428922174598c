use Rattle.std.proofs.Common.{arith, sym, ap, ◌∙◌, subst}
use Rattle.std.specs.Prelude.{slice_set}
use Rattle.dpl_flood.specs.Events.{IsLater}
use Rattle.dpl_flood.specs.States.{AreKeys}
use Rattle.dpl_flood.proofs.ComeLemmas.{way_keys, set_later, due_way}
use Rattle.dpl_flood.proofs.coming.next_on.Goals as goal

pub returns-in-None-clause-come : goal.returns-in-None-clause-come
returns-in-None-clause-come c =
    let d = c.args.dual.now in
    let x = c.args.state.now in
    let is = due_way d x c.args.way c.requires.way in
    subst (IsLater d x c.args.queue.now) (ap (slice_set c.args.queue.now c.args.way) is ∙ sym c.look_way.ensures)
    (set_later d x c.args.way c.args.queue.now (omega (arith, c.requires.way, c.requires.keys.places)) (omega (arith, is, c.in-None.ensures, c.requires.now)))

pub returns-in-None-clause-keys : goal.returns-in-None-clause-keys
returns-in-None-clause-keys c = subst (AreKeys c.args.dual.now c.args.state.now) (sym c.look_way.ensures)
    (way_keys c.args.dual.now c.args.state.now c.args.way c.args.queue.now c.requires.state c.requires.way c.requires.keys)
