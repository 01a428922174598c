use Rattle.std.proofs.Common.{◌≡◌, ◌∙◌, ◌<◌, ap, sym, length, get_or, arith, rules, true, false}
use Rattle.std.proofs.lemmas.List.{get_or_default}
use Rattle.std.proofs.lemmas.Result.{on_ok_weaker}
use Rattle.dpl_groups.specs.Walk.{View, view, work, begins_at}
use Rattle.dpl_groups.proofs.Views.{path_deep, left_at, on_path, work_is}
use Rattle.dpl_groups.proofs.Settling.{on_both, top_read, close_kept, pop_kept, close_seen, pop_seen, lower}
use Rattle.dpl_groups.proofs.walk.Walk.step.Goals as goal

pub index-node-requires : goal.index-node-requires
index-node-requires c =
    let deep : c.args.place < length c.args.self.now.path.items =
    path_deep c.args.edges.now c.args.self.now c.args.place c.requires.walk c.requires.top in search rules

pub index-requires : goal.index-requires
index-requires c =
    let at = top_read c.args.edges.now c.args.self.now c.args.place c.index-node.result.now _ c.requires.walk c.requires.top c.index-node.ensures in
    let within : c.index-node.result.now < length c.args.self.now.left.items = at.within in
    search rules

pub look-requires-clause-top : goal.look-requires-clause-top
look-requires-clause-top c =
    let at = top_read c.args.edges.now c.args.self.now c.args.place c.index-node.result.now _ c.requires.walk c.requires.top c.index-node.ensures in
    at.top

pub look-requires-clause-more : goal.look-requires-clause-more
look-requires-clause-more c =
    let at = top_read c.args.edges.now c.args.self.now c.args.place c.index-node.result.now _ c.requires.walk c.requires.top c.index-node.ensures in
    let count : c.index.result.now ≡ get_or c.args.self.now.left.items c.index-node.result.now 0 = c.index.ensures ∙
    get_or_default c.args.self.now.left.items c.index-node.result.now _ 0 at.within in
    omega (arith, count, c.if-index-gt0.true)

pub close-requires-clause-path : goal.close-requires-clause-path
close-requires-clause-path c = on_path c.args.edges.now c.args.self.now c.requires.walk

pub close-requires-clause-place : goal.close-requires-clause-place
close-requires-clause-place c = path_deep c.args.edges.now c.args.self.now c.args.place c.requires.walk c.requires.top

pub returns-then-begins_at-clause-walk : goal.returns-then-begins_at-clause-walk
returns-then-begins_at-clause-walk c =
    let at = top_read c.args.edges.now c.args.self.now c.args.place c.index-node.result.now _ c.requires.walk c.requires.top c.index-node.ensures in
    let count : c.index.result.now ≡ get_or c.args.self.now.left.items c.index-node.result.now 0 = c.index.ensures ∙
    get_or_default c.args.self.now.left.items c.index-node.result.now _ 0 at.within in
    let none : (view c.args.self.now).left c.index-node.result.now ≡ 0 =
    rw (left_at c.args.self.now c.index-node.result.now) (omega (arith, count, c.if-index-gt0.false)) in
    let begins : begins_at (view c.args.self.now) c.args.place ≡ true = sym c.begins_at.ensures ∙ c.if-begins_at.true in
    on_ok_weaker c.close.result (λ e. close_kept c.args.edges.now (view c.args.self.now) c.requires.walk c.args.place
    c.index-node.result.now c.requires.top at.node none _ begins e) c.close.ensures.view

pub returns-then-begins_at-clause-seen : goal.returns-then-begins_at-clause-seen
returns-then-begins_at-clause-seen c = on_ok_weaker c.close.result (λ e. close_seen (view c.args.self.now) _ c.args.place e) c.close.ensures.view

pub returns-then-begins_at-clause-smaller : goal.returns-then-begins_at-clause-smaller
returns-then-begins_at-clause-smaller c =
    on_both c.close.result (λ e l. lower (work c.args.self.now) (work c.close.new.self) (view c.args.self.now)
    (view c.close.new.self) c.requires.top.busy (ap (λ (v : View). v.height) e)
    (work_is c.args.self.now c.close.new.self l)) c.close.ensures.view c.close.ensures.left

pub returns-clause-walk : goal.returns-clause-walk
returns-clause-walk c =
    let at = top_read c.args.edges.now c.args.self.now c.args.place c.index-node.result.now _ c.requires.walk c.requires.top c.index-node.ensures in
    let count : c.index.result.now ≡ get_or c.args.self.now.left.items c.index-node.result.now 0 = c.index.ensures ∙
    get_or_default c.args.self.now.left.items c.index-node.result.now _ 0 at.within in
    let none : (view c.args.self.now).left c.index-node.result.now ≡ 0 =
    rw (left_at c.args.self.now c.index-node.result.now) (omega (arith, count, c.if-index-gt0.false)) in
    let begins : begins_at (view c.args.self.now) c.args.place ≡ false = sym c.begins_at.ensures ∙ c.if-begins_at.false in
    pop_kept c.args.edges.now (view c.args.self.now) c.requires.walk c.args.place c.index-node.result.now c.requires.top
    at.node none _ begins c.pop.ensures.view

pub returns-clause-seen : goal.returns-clause-seen
returns-clause-seen c = pop_seen (view c.args.self.now) _ c.pop.ensures.view

pub returns-clause-smaller : goal.returns-clause-smaller
returns-clause-smaller c =
    lower (work c.args.self.now) (work c.pop.new.self) (view c.args.self.now) (view c.pop.new.self) c.requires.top.busy
    (ap (λ (v : View). v.height) c.pop.ensures.view) (work_is c.args.self.now c.pop.new.self c.pop.ensures.left)
