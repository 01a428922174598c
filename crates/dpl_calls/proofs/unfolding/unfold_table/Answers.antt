use Rattle.std.proofs.Common.{◌≡◌, suc, ◌-◌, List, map, ap, None, Some, arith, refl, All}
use Rattle.dpl_calls.specs.declared.entry.Entry.{Entry}
use Rattle.dpl_calls.specs.Table.{entry_part, bodies_of}
use Rattle.dpl_calls.specs.Kept.{IsPartKept}
use Rattle.dpl_calls.proofs.Goes.{goes_start, empty_at, figure_at, flat_at, deep_at, deep_smaller_at, frame_near, called_at, drawn_at, child_near}
use Rattle.dpl_calls.proofs.Turns.{unmoved_stays}
use Rattle.dpl_calls.proofs.unfolding.unfold_table.Goals as goal

pub frames-init : goal.frames-init
frames-init c =
    let deep : c.args.depth ≡ suc (c.args.depth - 1) = omega (arith, c.requires.deep) in
    goes_start (bodies_of c.args.table.now) c.args.depth _ _ _ c.new-figures.ensures.items
    (rw c.new-stack.ensures.items at c.in_ok-push.ensures.items) deep
    (ap (λ (es : List Entry). map entry_part es) c.as_slice.ensures.value) unmoved_stays
    (record { x = omega arith; y = omega arith }) c.as_slice.ensures.near (c.requires.kept None)

pub frames-preserved-in_default-split_first : goal.frames-preserved-in_default-split_first
frames-preserved-in_default-split_first c =
    empty_at _ _ _ _ _ _ _ _ c.in-Some.ensures.items c.in_default-split_first.ensures.cases c.frames.invariant

pub place_figure-requires-clause-near : goal.place_figure-requires-clause-near
place_figure-requires-clause-near c =
    drawn_at (bodies_of c.args.table.now) _ _ _ _ _ c.in-Some.frame
    (record c.in-Some.frame { rest = c.in-Some-split_first.rest }) _ _ c.in-Some.ensures.items
    c.in-Some-split_first.ensures.cases.0 refl refl c.frames.invariant c.in-Drawn.figure c.in-Drawn.is

pub frames-preserved-in_ok-push-in-Drawn : goal.frames-preserved-in_ok-push-in-Drawn
frames-preserved-in_ok-push-in-Drawn c =
    figure_at (bodies_of c.args.table.now) _ _ _ _ _ c.in-Some.frame _ _ _ c.in-Some.ensures.items
    c.in-Some-split_first.ensures.cases.0 refl refl c.frames.invariant _ _ c.in-Drawn.figure _
    c.in_ok-push-2.ensures.items c.in_ok-push-in-Drawn.ensures.items c.in-Drawn.is
    c.in_ok-place_figure-in-Drawn.ensures

pub within-requires-clause-inner : goal.within-requires-clause-inner
within-requires-clause-inner c =
    called_at (bodies_of c.args.table.now) _ _ _ _ _ c.in-Some.frame
    (record c.in-Some.frame { rest = c.in-Some-split_first.rest }) _ _ c.in-Some.ensures.items
    c.in-Some-split_first.ensures.cases.0 refl refl c.frames.invariant c.in-Called.at c.in-Called.number
    c.in-Called.moves c.in-Called.is

pub frames-smaller-in_ok-push-in-Called : goal.frames-smaller-in_ok-push-in-Called
frames-smaller-in_ok-push-in-Called c =
    let deep : c.in-Some.frame.below ≡ suc (c.in-Some.frame.below - 1) = omega (arith, c.if-frame-gt0.true) in
    deep_smaller_at (bodies_of c.args.table.now) _ _ _ _ _ c.in-Some.frame _ _ _ c.in-Some.ensures.items
    c.in-Some-split_first.ensures.cases.0 refl refl c.frames.invariant _ _ _ c.in-Called.at c.in-Called.number
    c.in-Called.moves c.in_ok-push-2.ensures.items c.in_ok-push-in-Called.ensures.items c.in-Called.is deep
    (ap (λ (es : List Entry). map entry_part es) c.body.ensures.value)

pub frames-preserved-in_ok-push-in-Called : goal.frames-preserved-in_ok-push-in-Called
frames-preserved-in_ok-push-in-Called c =
    let deep : c.in-Some.frame.below ≡ suc (c.in-Some.frame.below - 1) = omega (arith, c.if-frame-gt0.true) in
    let parts : map entry_part c.body.result.now ≡ bodies_of c.args.table.now (Some c.in-Called.number) =
    ap (λ (es : List Entry). map entry_part es) c.body.ensures.value in
    let kept : All IsPartKept (map entry_part c.body.result.now) = rw parts (c.requires.kept (Some c.in-Called.number)) in
    let near = frame_near (bodies_of c.args.table.now) _ _ _ _ _ c.in-Some.frame
    (record c.in-Some.frame { rest = c.in-Some-split_first.rest }) _ _ c.in-Some.ensures.items
    c.in-Some-split_first.ensures.cases.0 refl refl c.frames.invariant in
    let inner = called_at (bodies_of c.args.table.now) _ _ _ _ _ c.in-Some.frame
    (record c.in-Some.frame { rest = c.in-Some-split_first.rest }) _ _ c.in-Some.ensures.items
    c.in-Some-split_first.ensures.cases.0 refl refl c.frames.invariant c.in-Called.at c.in-Called.number
    c.in-Called.moves c.in-Called.is in
    deep_at (bodies_of c.args.table.now) _ _ _ _ _ c.in-Some.frame _ _ _ c.in-Some.ensures.items
    c.in-Some-split_first.ensures.cases.0 refl refl c.frames.invariant _ _ _ c.in-Called.at c.in-Called.number
    c.in-Called.moves c.in_ok-push-2.ensures.items c.in_ok-push-in-Called.ensures.items c.in-Called.is deep parts
    c.within.ensures.value
    (child_near c.frames.done c.in-Some.frame _ c.in-Called.moves c.within.ensures.near inner near c.body.ensures.near kept)

pub frames-preserved : goal.frames-preserved
frames-preserved c =
    flat_at (bodies_of c.args.table.now) _ _ _ _ _ c.in-Some.frame _ _ _ c.in-Some.ensures.items
    c.in-Some-split_first.ensures.cases.0 refl refl c.frames.invariant _ c.in-Called.at c.in-Called.number
    c.in-Called.moves c.in_ok-push-2.ensures.items c.in-Called.is (omega (arith, c.if-frame-gt0.false))
