use Rattle.dpl_links.proofs.RankLemmas.{by_gap, by_corner, by_first, by_second}
use Rattle.dpl_links.proofs.laws.links_stand_in_order.Goals as goal

pub returns-clause-gap : goal.returns-clause-gap
returns-clause-gap c = by_gap

pub returns-clause-facing : goal.returns-clause-facing
returns-clause-facing c = by_corner

pub returns-clause-first : goal.returns-clause-first
returns-clause-first c = by_first

pub returns-clause-second : goal.returns-clause-second
returns-clause-second c = by_second
