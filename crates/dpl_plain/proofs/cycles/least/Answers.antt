use Rattle.std.proofs.Common.{arith, rules, ◌≡◌, length, eq-eqb}
use Rattle.std.proofs.lemmas.Bool.{both_ways, and_from}
use Rattle.dpl_plain.proofs.PlainLemmas.{way_more}
use Rattle.dpl_plain.proofs.cycles.least.Goals as goal

pub loop-top-preserved : goal.loop-top-preserved
loop-top-preserved c =
    let same : length c.step_down-here.new.nexts ≡ length c.loop-top.nexts = search rules in
    way_more c.args.nexts.now c.loop-top.nexts c.step_down-here.new.nexts c.args.number c.loop-top.here c.loop-top.top _
    c.loop-top.invariant (omega arith) same c.step_down-here.ensures.without c.step_down-here.ensures.place
    (λ a e. both_ways _ c.if-here-top.false (and_from _ _ (eq-eqb _ _ a) (eq-eqb _ _ e)))
