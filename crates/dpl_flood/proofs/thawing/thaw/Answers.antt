use Rattle.std.proofs.Common.{◌≡◌, ◌∙◌, true, subst}
use Rattle.dpl_flood.specs.States.{AreKeyedFor, sea_of, stands_among}
use Rattle.dpl_flood.proofs.TreedLemmas.{forest_woken}
use Rattle.dpl_flood.proofs.TurnLemmas.{woken_keys}
use Rattle.dpl_flood.proofs.thawing.thaw.Goals as goal

pub returns-clause-forest : goal.returns-clause-forest
returns-clause-forest c = λ f. forest_woken c.args.dual.now c.args.state.now c.rouse.new.state f (c.rouse.ensures.state c.args.dual.now c.requires.state)
    c.rouse.ensures.rest c.rouse.ensures.same c.in_ok-woken.ensures.awake

pub returns-clause-keys : goal.returns-clause-keys
returns-clause-keys c =
    let y = c.rouse.new.state in
    woken_keys c.args.dual.now c.args.state.now y c.args.queue.now c.look_among.new.queue (c.rouse.ensures.state c.args.dual.now c.requires.state)
    c.rouse.ensures.rest c.rouse.ensures.tree
    (subst (λ z. AreKeyedFor c.args.dual.now (sea_of y) (λ g. stands_among (sea_of y) z g ≡ true) c.args.queue.now c.look_among.new.queue)
    (c.deref-2.ensures.value ∙ c.in_ok-woken.ensures.woken) c.look_among.ensures) c.requires.keys
