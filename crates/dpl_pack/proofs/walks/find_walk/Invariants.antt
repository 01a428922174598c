use Rattle.std.proofs.Common.{take}
use Rattle.dpl_pack.specs.Marks.{AreMarksNoted}
use Rattle.dpl_pack.specs.Laid.{up_to}
use Rattle.dpl_pack.specs.Rounds.{AreSearchedAround}
use Rattle.dpl_pack.proofs.walks.find_walk.Given as goal

abbrev pub invariant-loop-i : goal.invariant-loop-i
invariant-loop-i l = record {
  searched : AreSearchedAround l.around l.seen
      (up_to l.around.level (take l.i l.around.faces.now) (take l.i l.around.depths.now));
  noted : AreMarksNoted l.fn.noted.items l.fn.seen → AreMarksNoted l.noted.items l.seen;
}
