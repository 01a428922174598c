use Rattle.std.proofs.Common.{refl}
use Rattle.dpl_groups.proofs.Views.{merged_view}
use Rattle.dpl_groups.proofs.walk.Walk.merge.Goals as goal

pub returns-clause-merged : goal.returns-clause-merged
returns-clause-merged c = merged_view c.args.self.now _ c.args.place c.requires refl refl refl refl refl c.drop_above.ensures
