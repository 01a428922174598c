use Rattle.std.proofs.Common.{◌≡◌, ◌<◌, arith, length, sym, ap, subst, ◌∙◌}
use Rattle.dpl_ring.specs.Rings.{IsKept, nexts_in, prevs_in}
use Rattle.dpl_ring.proofs.RingLemmas.{swap_splits, swap_merges}
use Rattle.dpl_ring.proofs.ring.Ring.splice.Goals as goal

pub returns-clause-splits : goal.returns-clause-splits
returns-clause-splits c =
    let kept : IsKept c.in-Some.pairs.0 c.in-Some.pairs.1 = subst (λ o. IsKept (nexts_in o) (prevs_in o)) c.in-Some.is c.self.invariant in
    let e : c.in-Some.pairs.0 ≡ c.args.self.now = sym (ap nexts_in c.in-Some.is) ∙ c.self.view_is in
    let hi : c.args.i < length c.in-Some.pairs.0 = omega (arith, ap length e, c.requires.first) in
    let hj : c.args.j < length c.in-Some.pairs.0 = omega (arith, ap length e, c.requires.second) in
    rw (← e) (swap_splits _ _ _ _ _ kept hi hj c.exchange.ensures.value)

pub returns-clause-merges : goal.returns-clause-merges
returns-clause-merges c =
    let kept : IsKept c.in-Some.pairs.0 c.in-Some.pairs.1 = subst (λ o. IsKept (nexts_in o) (prevs_in o)) c.in-Some.is c.self.invariant in
    let e : c.in-Some.pairs.0 ≡ c.args.self.now = sym (ap nexts_in c.in-Some.is) ∙ c.self.view_is in
    let hi : c.args.i < length c.in-Some.pairs.0 = omega (arith, ap length e, c.requires.first) in
    let hj : c.args.j < length c.in-Some.pairs.0 = omega (arith, ap length e, c.requires.second) in
    rw (← e) (swap_merges _ _ _ _ _ kept hi hj c.exchange.ensures.value)
