use Rattle.std.proofs.Common.{◌≡◌, arith, sym, ◌∙◌}
use Rattle.dpl_ring.proofs.PairLemmas.{nexts_alone, prevs_alone}
use Rattle.dpl_ring.proofs.pairs.Pairs.new.Goals as goal

pub returns-in-Some-clause-nexts : goal.returns-in-Some-clause-nexts
returns-in-Some-clause-nexts c =
    let w = c.write_identity.new.block in let i = c.write_identity.ensures in let e : w.count ≡ c.args.n = i.same.1 ∙
    c.in-Some.block.sizes.0 ∙ (c.in-Some.ensures {u = tt}).0 in
    nexts_alone w.items c.args.n (sym w.sizes.0 ∙ e) (λ k h. i.pairs k (omega (arith, h, e)))

pub returns-in-Some-clause-prevs : goal.returns-in-Some-clause-prevs
returns-in-Some-clause-prevs c =
    let w = c.write_identity.new.block in let i = c.write_identity.ensures in let e : w.count ≡ c.args.n = i.same.1 ∙
    c.in-Some.block.sizes.0 ∙ (c.in-Some.ensures {u = tt}).0 in
    prevs_alone w.items c.args.n (sym w.sizes.0 ∙ e) (λ k h. i.pairs k (omega (arith, h, e)))
