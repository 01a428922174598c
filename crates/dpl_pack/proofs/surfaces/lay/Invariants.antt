use Rattle.std.proofs.Common.{ℕ, List}
use Rattle.dpl_laminar.specs.Families.{Sets}
use Rattle.dpl_pack.specs.Nests.{layers_of}
use Rattle.dpl_pack.specs.Laid.{moats_of, AreLaid}
use Rattle.dpl_pack.specs.Points.{Point, fars}
use Rattle.dpl_pack.specs.Stacks.{IsTable, AreStacked}
use Rattle.dpl_pack.specs.Surfaces.{IsAfloat}
use Rattle.dpl_pack.proofs.surfaces.lay.Given as goal

abbrev pub invariant-loop-set : goal.invariant-loop-set
invariant-loop-set l = record {
  laid : AreLaid l.sets.items l.levels.items;
  stacked : (f : Sets) (point : ℕ → Point) (faces : List ℕ) → IsTable f l.surface.ends.now l.surface.values.now →
      IsAfloat f point faces l.surface.spots.now →
      AreStacked (layers_of f) (fars f point) faces l.set 0 (moats_of l.sets.items l.levels.items);
}
