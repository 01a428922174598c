use Rattle.std.proofs.Common.{arith, rules, ◌≡◌, ◌≤◌, sym, subst, true}
use Rattle.dpl_bound.specs.Packed.{HaveRisen, AreLaid}
use Rattle.dpl_bound.proofs.LayLemmas.{laid_of, laid_more}
use Rattle.dpl_bound.proofs.packing.add.Goals as goal

pub returns : goal.returns
returns c =
    let g = c.args.graph.now in
    let fits : c.lay.result ≡ true = search rules in
    let some : 1 ≤ c.args.cycle.half = omega (arith, c.if-cycle-eq0.false) in
    let risen : HaveRisen g c.args.loads.now (laid_of c.args.cycle.half c.args.cycle.walk.edges) c.lay.new.loads =
    subst (λ z. HaveRisen g c.args.loads.now (laid_of c.args.cycle.half z) c.lay.new.loads) c.as_slice.ensures (c.lay.ensures.laid fits) in
    let odd : c.is_odd_walk.result ≡ true = search rules in
    subst (λ z. AreLaid g z c.lay.new.loads) (sym c.in_ok-push.ensures.items)
    (laid_more g c.args.found.now.items c.args.cycle c.args.loads.now c.lay.new.loads c.requires c.lay.ensures.within risen some (c.is_odd_walk.ensures odd))
