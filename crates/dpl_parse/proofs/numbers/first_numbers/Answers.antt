use Rattle.std.proofs.Common.{◌≡◌, ◌<◌, [], ◌∷◌, ◌++◌, take, arith, rules}
use Rattle.dpl_report.specs.Reading.{numbers_in}
use Rattle.dpl_parse.proofs.NumberLoop.{one_more}
use Rattle.dpl_parse.proofs.numbers.first_numbers.Goals as goal

pub loop-turn-preserved : goal.loop-turn-preserved
loop-turn-preserved c =
    let e : c.push.new.self.items ≡ c.loop-turn.found.items ++ c.in-Some.number ∷ [] = search rules in
    let l : c.loop-turn._turn < 8 = omega arith in
    rw e (one_more c.loop-turn.found.items 8 c.loop-turn._turn c.loop-turn.numbers c.next_number.new.self
    c.in-Some.number (take 8 (numbers_in c.args.line.now)) l c.in-Some.ensures c.loop-turn.invariant)
