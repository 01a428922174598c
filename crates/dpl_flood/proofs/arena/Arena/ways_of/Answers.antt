use Rattle.std.specs.Prelude.{All, length, ◌<◌}
use Rattle.std.proofs.Common.{sym, subst}
use Rattle.std.proofs.lemmas.List.Elements.{All-nil}
use Rattle.dpl_flood.proofs.JoinLemmas.{ways_are, ways_inside}
use Rattle.dpl_flood.proofs.arena.Arena.ways_of.Goals as goal

pub returns-clause-chain : goal.returns-clause-chain
returns-clause-chain c = ways_are c.args.ways.now c.args.self.now c.args.join c.new-found.result.items c.back.new.found.items c.reverse.new.self.items c.push.new.self.items
    c.back-2.new.found.items c.new-found.ensures.items c.in_ok-back.ensures.chain c.reverse.ensures.items c.in_ok-push.ensures.items c.in_ok-back-2.ensures.chain

pub returns-clause-numbers : goal.returns-clause-numbers
returns-clause-numbers c =
    let none = subst (All (λ w. w < length c.args.ways.now)) (sym c.new-found.ensures.items) (All-nil (λ w. w < length c.args.ways.now)) in
    ways_inside c.args.ways.now c.back.new.found.items c.reverse.new.self.items c.push.new.self.items c.back-2.new.found.items c.args.join.way
    c.requires.join.over.inside (c.in_ok-back.ensures.numbers none) c.reverse.ensures.items c.in_ok-push.ensures.items c.in_ok-back-2.ensures.numbers
