use Rattle.std.proofs.Common.{arith, rules, ◌≡◌, false, sym, ap, ◌∙◌}
use Rattle.std.proofs.lemmas.Bool.{both_ways}
use Rattle.std.proofs.lemmas.List.Sorted.{IsPartitionPoint-from_clause}
use Rattle.dpl_cell.specs.declared.rect.Rect.{Rect}
use Rattle.dpl_cell.specs.Places.{corners_of}
use Rattle.dpl_stay.specs.Same.{corners_at}
use Rattle.dpl_stay.specs.Order.{rect_before}
use Rattle.dpl_stay.proofs.OrderLemmas.{parted_rects, lone_node, corners_are}
use Rattle.dpl_stay.proofs.finding.node_at.Goals as goal

pub returns-then-place-rects : goal.returns-then-place-rects
returns-then-place-rects c =
    let r = corners_of c.args.rect.now in
    let point = IsPartitionPoint-from_clause (λ (s : Rect). rect_before (corners_of s) r) _ _
    c.partition_point-place.ensures.partitioned (parted_rects c.args.rects.now r c.requires.order)
    (λ a q f k. search rules) in
    λ w l e. let same = lone_node c.args.rects.now r c.partition_point-place.result w c.requires.order point l e in
    let past = c.if-place-rects.true in omega (arith, same, past, l)

pub returns-then-not-are_equal : goal.returns-then-not-are_equal
returns-then-not-are_equal c =
    let r = corners_of c.args.rect.now in
    let point = IsPartitionPoint-from_clause (λ (s : Rect). rect_before (corners_of s) r) _ _
    c.partition_point-place.ensures.partitioned (parted_rects c.args.rects.now r c.requires.order)
    (λ a q f k. search rules) in
    let far : c.are_equal.result ≡ false = search rules in
    λ w l e. let same = lone_node c.args.rects.now r c.partition_point-place.result w c.requires.order point l e in
    let here : corners_of c.index-rects-place.result ≡ r =
    ap corners_of c.index-rects-place.is ∙ sym (corners_are c.args.rects.now c.partition_point-place.result c.index-rects-place.result c.if-place-rects.false)
    ∙ ap (corners_at c.args.rects.now) (sym same) ∙ e in
    both_ways _ far (c.are_equal.ensures.1 here)
