use Rattle.std.proofs.Common.{arith, rules, ◌≡◌, get_or}
use Rattle.std.proofs.lemmas.Int.{ints}
use Rattle.std.proofs.lemmas.List.{get_or_default}
use Rattle.std.proofs.lemmas.List.Sorted.{answers_always}
use Rattle.dpl_cell.specs.declared.rect.Rect.{Rect}
use Rattle.dpl_tiles.proofs.FindLemmas.{rising, none_begins, none_as_wide}
use Rattle.dpl_list.proofs.OrderLemmas.{equal_by_order}
use Rattle.dpl_tiles.proofs.stacking.find.Goals as goal

pub returns-in-Err : goal.returns-in-Err
returns-in-Err c =
    none_begins _ _ _ c.in-Err.field-0 (c.in-Err.ensures.position (λ (r : Rect). r.x1)
    (answers_always _ _ _ (λ f a r g k. search rules)) (rising _ _ c.requires))

pub returns-in-Ok : goal.returns-in-Ok
returns-in-Ok c =
    let e : (get_or c.args.rects.now c.in-Ok.k c.args.r.now).x1 ≡ c.args.r.now.x1 =
    equal_by_order _ _ (c.in-Ok.ensures.position (λ (r : Rect). r.x1)
    (answers_always _ _ _ (λ f a r g k. search rules)) c.args.r.now) in
    let g : (get_or c.args.rects.now c.in-Ok.k c.index-rects-k.result).x2 ≡ c.args.r.now.x2 = let h = c.if-rects-k.true in omega (arith, ints) in (
      c.in-Ok.ensures.bound,
      record {
        left = e;
        right =
            rw (get_or_default c.args.rects.now c.in-Ok.k c.index-rects-k.result c.args.r.now c.in-Ok.ensures.bound) at g;
      },
    )

pub returns-in-Ok-2 : goal.returns-in-Ok-2
returns-in-Ok-2 c =
    let h : (get_or c.args.rects.now c.in-Ok.k c.index-rects-k.result).x1 ≡ c.args.r.now.x1 =
    equal_by_order _ _ (c.in-Ok.ensures.position (λ (r : Rect). r.x1)
    (answers_always _ _ _ (λ f a r g k. search rules)) c.index-rects-k.result) in
    none_as_wide _ _ _ c.in-Ok.k c.index-rects-k.result c.requires c.in-Ok.ensures.bound c.index-rects-k.is (rw (← c.index-rects-k.is) at h)
    (λ g. let f : (get_or c.args.rects.now c.in-Ok.k c.index-rects-k.result).x2 ≡ c.args.r.now.x2 =
    rw c.index-rects-k.is at g in let n = c.if-rects-k.false in absurd (omega (arith, ints)))
