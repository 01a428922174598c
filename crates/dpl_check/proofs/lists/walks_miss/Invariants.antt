use Rattle.std.proofs.Common.{◌≡◌, ◌+◌, ◌<◌, ◌^◌, length}
use Rattle.std.specs.Prelude.{All}
use Rattle.dpl_good.specs.Conditions as conditions
use Rattle.dpl_check.proofs.lists.walks_miss.Given as goal

abbrev pub invariant-cycles : goal.invariant-cycles
invariant-cycles l = record {
  miss : conditions.walks_miss l.graph l.number l.left ≡ conditions.walks_miss l.graph 0 l.fn.cycles;
  number : l.number + length l.left ≡ length l.fn.cycles;
  short : All (λ c. length c.walk.edges < 2 ^ 31) l.left;
}

abbrev pub decreases-cycles : goal.decreases-cycles
decreases-cycles l = length l.left
