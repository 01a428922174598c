use Rattle.std.proofs.Common.{rules, refl}
use Rattle.dpl_euler.proofs.CrossingLemmas.{nothing_crossed}
use Rattle.dpl_euler.proofs.TestLemmas.{found_is, found_from}
use Rattle.dpl_euler.specs.declared.types.With.TheVariants.{Link, Fragment}
use Rattle.dpl_euler.proofs.crossings.crossed.Goals as goal

pub returns-in-Some-clause-some : goal.returns-in-Some-clause-some
returns-in-Some-clause-some c = found_is c.args.fragments.now c.args.net.now c.args.edge (Link c.in-Some.other) (search rules)

pub returns-in-Some-first_fragment-clause-some : goal.returns-in-Some-first_fragment-clause-some
returns-in-Some-first_fragment-clause-some c = found_is c.args.fragments.now c.args.net.now c.args.edge
    (Fragment c.in-Some-first_fragment.fragment) (search rules)

pub returns-clause-none : goal.returns-clause-none
returns-clause-none c = λ _ w with.
    nothing_crossed c.args.fragments.now c.args.net.now c.args.links.now c.args.bounded.now.links c.args.bounded.now.diagonals
    c.bounds_of-window.result c.in_ok-found.found.items c.in_ok-also.also.items c.args.edge
    c.index-links-edge.result c.requires.links c.requires.bounded c.requires.diagonals c.requires.edge
    c.index-links-edge.is c.bounds_of-window.ensures c.in_ok-found.ensures c.in_ok-also.ensures
    (rw (← c.as_slice.ensures.value) (c.in-None.ensures.none refl))
    (rw (← c.as_slice-2.ensures.value) (c.in-None-first_fragment.ensures.none refl)) w
    (found_from c.args.fragments.now c.args.net.now c.args.edge w with)
