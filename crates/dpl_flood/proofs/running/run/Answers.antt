use Rattle.std.proofs.Common.{sym, subst, ◌^◌}
use Rattle.dpl_flood.specs.Flips.{AreOverChains}
use Rattle.dpl_flood.proofs.RunLemmas.{none_stands, two_stand, running_none, running_more, running_low}
use Rattle.dpl_flood.proofs.running.run.Goals as goal

pub trees-init : goal.trees-init
trees-init g c =
    running_none c.args.dual.now c.args.state.now c.args.queue.now c.requires.forest c.requires.keys c.requires.even c.requires.low

pub go_on-requires-clause-two : goal.go_on-requires-clause-two
go_on-requires-clause-two g c =
    let i = c.trees.invariant in
    two_stand c.args.dual.now c.trees.state i.forest (c.has_trees.ensures.some c.trees-test.true) i.even
    (subst (λ z. AreOverChains c.args.dual.now.crosses z (λ s t. 2 ^ 51)) (sym i.seats) c.requires.near)

pub go_on-requires-clause-low : goal.go_on-requires-clause-low
go_on-requires-clause-low g c = running_low c.args.dual.now c.args.state.now c.trees.state c.trees.queue c.trees.invariant

pub trees-preserved : goal.trees-preserved
trees-preserved g c =
    running_more c.args.dual.now c.args.state.now c.trees.state c.go_on.new.state c.trees.queue c.go_on.new.queue c.trees.invariant
    c.in_ok-go_on.ensures.forward c.in_ok-go_on.ensures.forest c.in_ok-go_on.ensures.keys

pub returns-clause-none : goal.returns-clause-none
returns-clause-none g c =
    let i = c.trees.invariant in
    none_stands c.args.dual.now c.trees.state i.forest (c.has_trees.ensures.none c.trees-test.false)
