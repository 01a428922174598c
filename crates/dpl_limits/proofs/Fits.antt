-- What proofs need of the limits. Where a limit changes, these alone are shown anew.
use Rattle.std.proofs.Common.{arith, ◌<◌, ◌^◌, ◌*◌}
use Rattle.dpl_limits.specs.declared.TheConstants.{MOST_EDGES}

-- each dart of an edge may begin a face
pub darts_fit : 2 * MOST_EDGES < 2 ^ 20
darts_fit = omega arith
