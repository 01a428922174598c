use Rattle.std.proofs.Common.{length, ◌-◌, take}
use Rattle.dpl_map.specs.Views.{view_of}
use Rattle.dpl_pack.specs.Marks.{AreClear}
use Rattle.dpl_pack.specs.Rounds.{AreGoing}
use Rattle.dpl_pack.proofs.rounds.go_round.Given as goal

abbrev pub invariant-loop-from : goal.invariant-loop-from
invariant-loop-from l = record {
  inside : AreClear l.inside;
  seen : AreClear l.seen;
  going : AreGoing l.graph (view_of l.fn.map) (take l.from l.moats) l.fn.cycles.items l.cycles.items;
}

abbrev pub decreases-loop-from : goal.decreases-loop-from
decreases-loop-from l = length l.levels - l.from
