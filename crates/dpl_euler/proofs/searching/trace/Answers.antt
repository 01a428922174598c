use Rattle.std.proofs.Common.{arith, rules, ◌≡◌, ap, length, None}
use Rattle.dpl_euler.specs.Searches.{place_of}
use Rattle.dpl_euler.proofs.SearchLemmas.{all_reached}
use Rattle.dpl_euler.proofs.searching.trace.Goals as goal

pub back_from-requires-clause-place : goal.back_from-requires-clause-place
back_from-requires-clause-place c =
    omega (arith, ap length c.as_slice.ensures.value, (c.in_ok-follow_all.ensures.steps.found _ _ c.in-Some.is).0)

pub unreachable-requires : goal.unreachable-requires
unreachable-requires c =
    let none : place_of c.follow_all.new.places c.args.from ≡ None = search rules in
    all_reached c.args.graph.now c.args.set.now c.args.to c.args.from _ _ c.in_ok-follow_all.ensures.steps
    c.in_ok-follow_all.ensures.followed c.requires.joined none
