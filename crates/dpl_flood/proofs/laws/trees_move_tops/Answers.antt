use Rattle.dpl_flood.proofs.RateLemmas.{forest_grows, forest_ceases, forest_folds, opens_keeps, walks_keeps, forest_gives}
use Rattle.dpl_flood.proofs.laws.trees_move_tops.Goals as goal

pub returns-clause-grows : goal.returns-clause-grows
returns-clause-grows c = forest_grows

pub returns-clause-ends : goal.returns-clause-ends
returns-clause-ends c = forest_ceases

pub returns-clause-folds : goal.returns-clause-folds
returns-clause-folds c = forest_folds

pub returns-clause-first : goal.returns-clause-first
returns-clause-first c = opens_keeps

pub returns-clause-walks : goal.returns-clause-walks
returns-clause-walks c = walks_keeps

pub returns-clause-opened : goal.returns-clause-opened
returns-clause-opened c = forest_gives
