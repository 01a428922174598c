use Rattle.std.proofs.Common.{ℕ, List, length, subst}
use Rattle.dpl_flood.specs.Givings.{AreKeyedAll}
use Rattle.dpl_flood.proofs.GiveLemmas.{opened_state, opened_forest, opened_keys, opened_nearer}
use Rattle.dpl_flood.proofs.giving.give_way.Goals as goal

pub look_tops-requires-clause-state : goal.look_tops-requires-clause-state
look_tops-requires-clause-state g c = opened_state c.args.dual.now c.args.state.now c.args.set c.open.new.state
    (record { forest = c.requires.forest; spent = c.requires.spent; above = c.requires.above; opened = c.in_ok-children.ensures.opened })

pub returns-clause-forest : goal.returns-clause-forest
returns-clause-forest g c = opened_forest c.args.dual.now c.args.state.now c.args.set c.open.new.state
    (record { forest = c.requires.forest; spent = c.requires.spent; above = c.requires.above; opened = c.in_ok-children.ensures.opened })

pub returns-clause-keys : goal.returns-clause-keys
returns-clause-keys g c =
    let y = c.open.new.state in
    opened_keys c.args.dual.now c.args.state.now c.args.set y
    (record { forest = c.requires.forest; spent = c.requires.spent; above = c.requires.above; opened = c.in_ok-children.ensures.opened })
    c.in_ok-children.children.items c.args.queue.now c.look_tops.new.queue c.in_ok-children.ensures.children
    (subst (λ (z : List ℕ). AreKeyedAll c.args.dual.now y z (length z) c.args.queue.now c.look_tops.new.queue) c.deref.ensures.value c.look_tops.ensures)
    c.requires.keys

pub returns-clause-nearer : goal.returns-clause-nearer
returns-clause-nearer g c = opened_nearer c.args.dual.now c.args.state.now c.args.set c.open.new.state
    (record { forest = c.requires.forest; spent = c.requires.spent; above = c.requires.above; opened = c.in_ok-children.ensures.opened })
