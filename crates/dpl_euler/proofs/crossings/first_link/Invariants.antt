use Rattle.std.proofs.Common.{◌≡◌, ◌<◌, ℕ, false}
use Rattle.std.specs.Prelude.{slice_index}
use Rattle.dpl_euler.specs.Tests.{links_cross}
use Rattle.dpl_euler.proofs.crossings.first_link.Given as goal

abbrev pub invariant-loop-i : goal.invariant-loop-i
invariant-loop-i l = (i : ℕ) → i < l.i → l.edge < slice_index l.found i → links_cross l.fragments l.net l.edge (slice_index l.found i) ≡ false
