use Rattle.std.proofs.Common.{◌≡◌, ◌∙◌, ◌<◌, ◌-◌, ℕ, length, get_or, ap, arith, rules}
use Rattle.std.proofs.lemmas.List.{get_or_default}
use Rattle.dpl_groups.proofs.AllDone.{last_top}
use Rattle.dpl_groups.proofs.walk.Walk.top.Goals as goal

pub returns-else-count-eq0 : goal.returns-else-count-eq0
returns-else-count-eq0 c =
    let count : c.len-count.result ≡ length c.args.self.now.stack.items = search rules in
    let some : 0 < length c.args.self.now.stack.items = omega (arith, count, c.if-count-eq0.false) in
    let last : c.index.result.now ≡ get_or c.args.self.now.stack.items (c.len-count.result - 1) 0 = c.index.ensures ∙
    get_or_default c.args.self.now.stack.items (c.len-count.result - 1) _ 0 (omega arith) in
    last_top c.args.self.now c.index.result.now some (last ∙ ap (λ (n : ℕ). get_or c.args.self.now.stack.items (n - 1) 0) count)
