use Rattle.std.proofs.Common.{◌≡◌, rules}
use Rattle.dpl_drawing.proofs.CycleLemmas.{named_alone}
use Rattle.dpl_drawing.proofs.cycles.Cycles.new.Goals as goal

pub invariant_of-result : goal.invariant_of-result
invariant_of-result c =
    let e : c.from-fresh.result ≡ c.args.n = search rules in
    rw e (named_alone _ _ _ c.in_ok-ring.ensures.length c.in_ok-names.ensures.length c.in_ok-ring.ensures.alone c.in_ok-names.ensures.each)
