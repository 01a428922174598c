use Rattle.std.proofs.Common.{[]}
use Rattle.dpl_pack.specs.Marks.{AreMarksNoted}
use Rattle.dpl_pack.specs.Rounds.{AreSearchedAround}
use Rattle.dpl_pack.proofs.walks.find_behind.Given as goal

abbrev pub invariant-loop-i : goal.invariant-loop-i
invariant-loop-i l = record {
  searched : AreSearchedAround l.around l.seen [];
  noted : AreMarksNoted l.fn.noted.items l.fn.seen → AreMarksNoted l.noted.items l.seen;
}
