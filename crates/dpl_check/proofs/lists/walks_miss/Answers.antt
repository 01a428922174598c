use Rattle.std.proofs.Common.{rules, ◌<◌, ◌^◌, length}
use Rattle.std.proofs.lemmas.List.Elements.{All-rest}
use Rattle.dpl_check.proofs.lists.walks_miss.Goals as goal

pub cycles-preserved : goal.cycles-preserved
cycles-preserved c = record {
  miss = search rules;
  number = search rules;
  short = All-rest (λ z. length z.walk.edges < 2 ^ 31) _ _ _ c.in-Some.ensures c.cycles.invariant.short;
}
