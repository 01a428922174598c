use Rattle.dpl_links.proofs.RoundLemmas.{sides_rise, sides_fall, corners_rise, corners_fall}
use Rattle.dpl_links.proofs.laws.links_turn_counterclockwise.Goals as goal

pub returns-clause-rising : goal.returns-clause-rising
returns-clause-rising c = sides_rise

pub returns-clause-falling : goal.returns-clause-falling
returns-clause-falling c = sides_fall

pub returns-clause-steeper : goal.returns-clause-steeper
returns-clause-steeper c = corners_rise

pub returns-clause-flatter : goal.returns-clause-flatter
returns-clause-flatter c = corners_fall
