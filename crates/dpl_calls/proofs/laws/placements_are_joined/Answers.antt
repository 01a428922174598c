use Rattle.dpl_calls.proofs.JoinedPlacements.{points_joined, figures_joined}
use Rattle.dpl_calls.proofs.laws.placements_are_joined.Goals as goal

pub returns-clause-points : goal.returns-clause-points
returns-clause-points c = points_joined c.args.scale c.args.inner.now c.args.outer.now

pub returns-clause-figures : goal.returns-clause-figures
returns-clause-figures c = figures_joined c.args.scale c.args.inner.now c.args.outer.now
