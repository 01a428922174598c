use Rattle.std.proofs.Common.{arith, length, ◌≡◌, ◌∙◌, sym, drop}
use Rattle.dpl_check.proofs.MissLemmas.{no_numbers}
use Rattle.dpl_check.proofs.compare.numbers_miss.Goals as goal

pub returns-in_default : goal.returns-in_default
returns-in_default c =
    let e : length c.loop-x.left.now ≡ 0 = grind arith in
    sym (sym c.loop-x.invariant ∙ no_numbers c.args.place (drop c.loop-x.x-index c.args.found.now) c.loop-x.left.now e)
