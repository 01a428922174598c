use Rattle.std.proofs.lemmas.Int.{to_z-of_z}
use Rattle.dpl_links.proofs.ReachLemmas.{apart_before, apart_behind}
use Rattle.dpl_links.proofs.reaching.least_apart.Goals as goal

pub returns-then-before-behind-clause-least : goal.returns-then-before-behind-clause-least
returns-then-before-behind-clause-least c =
    λ c1 c2 h k. apart_behind c.args.a1 c.args.a2 c.args.b1 c.args.b2 c1 c2 _ h k (simp (to_z-of_z, c.ranges.a1, c.ranges.b2) at c.from_to-behind.ensures.least)

pub returns-else-before-behind-clause-least : goal.returns-else-before-behind-clause-least
returns-else-before-behind-clause-least c =
    λ c1 c2 h k. apart_before c.args.a1 c.args.a2 c.args.b1 c.args.b2 c1 c2 _ h k (simp (to_z-of_z, c.ranges.a2, c.ranges.b1) at c.from_to-before.ensures.least)
