use Rattle.std.proofs.Common.{◌≡◌, ◌∙◌, ◌<◌, length, arith, rules}
use Rattle.std.proofs.lemmas.Result.{on_ok_weaker}
use Rattle.dpl_groups.specs.declared.walk.Mark.TheVariants.{New, Open, Done}
use Rattle.dpl_groups.specs.Walk.{view}
use Rattle.dpl_groups.proofs.Views.{read_mark, marks_size}
use Rattle.dpl_groups.proofs.Settling.{settle_new, settle_open, settle_done}
use Rattle.dpl_groups.proofs.walk.Walk.settle.Goals as goal

pub index-requires : goal.index-requires
index-requires c =
    let size : length c.args.self.now.marks.items ≡ length c.args.edges.now = marks_size c.args.edges.now c.args.self.now c.requires.walk in
    let here : c.args.next < length c.args.self.now.marks.items = omega (arith, size, c.requires.next) in search rules

pub open-requires : goal.open-requires
open-requires c =
    let size : length c.args.self.now.marks.items ≡ length c.args.edges.now =
    marks_size c.args.edges.now c.args.self.now c.requires.walk in omega (arith, size, c.requires.next)

pub returns-in-New-clause-settled : goal.returns-in-New-clause-settled
returns-in-New-clause-settled c =
    let size : length c.args.self.now.marks.items ≡ length c.args.edges.now = marks_size c.args.edges.now c.args.self.now c.requires.walk in
    let mark : (view c.args.self.now).mark c.args.next ≡ New =
    read_mark c.args.self.now c.args.next c.index.result.now (omega (arith, size, c.requires.next))
    c.index.ensures ∙ c.in-New.is in
    on_ok_weaker c.open.result (λ e. settle_new c.args.edges.now (view c.args.self.now) c.requires.walk c.args.node c.args.next
    c.requires.top c.requires.next c.requires.edge _ mark e) c.open.ensures.view

pub returns-in-Open-clause-settled : goal.returns-in-Open-clause-settled
returns-in-Open-clause-settled c =
    let size : length c.args.self.now.marks.items ≡ length c.args.edges.now = marks_size c.args.edges.now c.args.self.now c.requires.walk in
    let mark : (view c.args.self.now).mark c.args.next ≡ Open c.in-Open.place =
    read_mark c.args.self.now c.args.next c.index.result.now (omega (arith, size, c.requires.next))
    c.index.ensures ∙ c.in-Open.is in
    settle_open c.args.edges.now (view c.args.self.now) c.requires.walk c.args.node c.args.next c.requires.top
    c.requires.next c.requires.edge _ c.in-Open.place mark c.merge.ensures.merged

pub returns-in-Done-clause-settled : goal.returns-in-Done-clause-settled
returns-in-Done-clause-settled c =
    let size : length c.args.self.now.marks.items ≡ length c.args.edges.now = marks_size c.args.edges.now c.args.self.now c.requires.walk in
    let mark : (view c.args.self.now).mark c.args.next ≡ Done c.in-Done.field-0 =
    read_mark c.args.self.now c.args.next c.index.result.now (omega (arith, size, c.requires.next))
    c.index.ensures ∙ c.in-Done.is in
    settle_done c.args.edges.now (view c.args.self.now) c.requires.walk c.args.node c.args.next c.requires.top
    c.requires.next c.requires.edge c.in-Done.field-0 mark
