use Rattle.dpl_parts.proofs.Kept.{keeps_alike}
use Rattle.dpl_parts.proofs.Counted.{faces_alike, odd_faces_alike}
use Rattle.dpl_parts.proofs.Linked.{links_alike, links_stay}
use Rattle.dpl_parts.proofs.laws.component_rules.Goals as goal

pub returns-clause-keep : goal.returns-clause-keep
returns-clause-keep c = keeps_alike

pub returns-clause-faces : goal.returns-clause-faces
returns-clause-faces c = faces_alike

pub returns-clause-odd : goal.returns-clause-odd
returns-clause-odd c = odd_faces_alike

pub returns-clause-links : goal.returns-clause-links
returns-clause-links c = links_alike

pub returns-clause-others : goal.returns-clause-others
returns-clause-others c = links_stay
