use Rattle.std.proofs.Common.{◌≡◌, ◌-◌, length, take, refl, rules}
use Rattle.dpl_groups.proofs.Views.{popped_view}
use Rattle.dpl_groups.proofs.walk.Walk.pop.Goals as goal

pub returns-clause-view : goal.returns-clause-view
returns-clause-view c =
    let rest : c.pop.new.self.items ≡ take (length c.args.self.now.stack.items - 1) c.args.self.now.stack.items = search rules in
    popped_view c.args.self.now _ refl refl refl refl rest refl
