use Rattle.std.proofs.Common.{◌≡◌, ◌∙◌, ◌<◌, sym, length, arith, rules}
use Rattle.std.proofs.lemmas.Result.{on_ok_weaker}
use Rattle.dpl_groups.specs.declared.walk.Mark.TheVariants.{New}
use Rattle.dpl_groups.specs.Walk.{view}
use Rattle.dpl_groups.proofs.Views.{marks_size, read_mark}
use Rattle.dpl_groups.proofs.AllDone.{is_new, is_seen, opened_first, opened_seen, opened_node}
use Rattle.dpl_groups.proofs.finding.visit.Goals as goal

pub index-requires : goal.index-requires
index-requires c =
    let size : length c.args.walk.now.marks.items ≡ length c.args.edges.now = marks_size c.args.edges.now c.args.walk.now c.requires.walk in
    let here : c.args.node < length c.args.walk.now.marks.items = omega (arith, size, c.requires.node) in
    search rules

pub open-requires : goal.open-requires
open-requires c =
    let size : length c.args.walk.now.marks.items ≡ length c.args.edges.now = marks_size c.args.edges.now c.args.walk.now c.requires.walk in
    let here : c.args.node < length c.args.walk.now.marks.items = omega (arith, size, c.requires.node) in
    here

pub finish-requires-clause-walk : goal.finish-requires-clause-walk
finish-requires-clause-walk c =
    let size : length c.args.walk.now.marks.items ≡ length c.args.edges.now = marks_size c.args.edges.now c.args.walk.now c.requires.walk in
    let here : c.args.node < length c.args.walk.now.marks.items = omega (arith, size, c.requires.node) in
    let new : (view c.args.walk.now).mark c.args.node ≡ New =
    read_mark c.args.walk.now c.args.node c.index.result.now here c.index.ensures ∙
    is_new c.index.result.now (sym c.is_new.ensures ∙ c.if-not-is_new.false) in
    opened_first c.args.edges.now c.args.walk.now c.open.new.self c.args.node c.requires.walk c.requires.node new c.requires.empty c.in_ok-open.ensures.view

pub returns-then-not-is_new-clause-node : goal.returns-then-not-is_new-clause-node
returns-then-not-is_new-clause-node c =
    let size : length c.args.walk.now.marks.items ≡ length c.args.edges.now = marks_size c.args.edges.now c.args.walk.now c.requires.walk in
    let here : c.args.node < length c.args.walk.now.marks.items = omega (arith, size, c.requires.node) in
    is_seen c.index.result.now ((view c.args.walk.now).mark c.args.node)
    (sym (read_mark c.args.walk.now c.args.node c.index.result.now here c.index.ensures))
    (sym c.is_new.ensures ∙ c.if-not-is_new.true)

pub returns-clause-seen : goal.returns-clause-seen
returns-clause-seen c = on_ok_weaker c.finish.result (λ s. λ x n. s x
    (opened_seen c.args.walk.now c.open.new.self c.args.node x c.in_ok-open.ensures.view n)) c.finish.ensures.seen

pub returns-clause-node : goal.returns-clause-node
returns-clause-node c = on_ok_weaker c.finish.result (λ s. s c.args.node
    (opened_node c.args.walk.now c.open.new.self c.args.node c.in_ok-open.ensures.view)) c.finish.ensures.seen
