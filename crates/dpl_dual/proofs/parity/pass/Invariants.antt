use Rattle.std.proofs.Common.{◌≡◌, ℕ, ◌<◌, false}
use Rattle.std.specs.Prelude.{slice_index_or}
use Rattle.dpl_map.specs.Views.{view_of}
use Rattle.dpl_dual.specs.Parities.{is_odd_below}
use Rattle.dpl_dual.proofs.parity.pass.Given as goal

abbrev pub invariant-loop-dart : goal.invariant-loop-dart
invariant-loop-dart l = (f : ℕ) → f < (view_of l.map).faces → slice_index_or l.odd f false ≡ is_odd_below l.graph (view_of l.map) f l.dart
