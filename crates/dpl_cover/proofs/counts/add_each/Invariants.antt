use Rattle.std.proofs.Common.{◌≡◌, length}
use Rattle.dpl_cover.specs.Counts.{IsAdded, own_at}
use Rattle.dpl_cover.proofs.counts.add_each.Given as goal

abbrev pub invariant-loop-k : goal.invariant-loop-k
invariant-loop-k l = record {
  long : length l.each ≡ length l.fn.each;
  own : IsAdded (length l.fn.each) l.from l.k l.by (own_at l.fn.each) (own_at l.each);
}
