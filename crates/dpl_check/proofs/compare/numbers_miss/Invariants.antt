use Rattle.std.proofs.Common.{◌≡◌, drop}
use Rattle.dpl_good.specs.Misses as misses
use Rattle.dpl_check.proofs.compare.numbers_miss.Given as goal

abbrev pub invariant-loop-x : goal.invariant-loop-x
invariant-loop-x l = misses.numbers_miss l.place (drop l.x-index l.found) l.left ≡ misses.numbers_miss l.place l.found l.wanted
