use Rattle.std.proofs.Common.{rules, refl, SFits}
use Rattle.std.specs.Int.{w128}
use Rattle.std.proofs.lemmas.Int.{to_z-of_z}
use Rattle.dpl_euler.proofs.SegmentLemmas.{rise_plain, run_plain}
use Rattle.dpl_euler.proofs.segments.is_right.Goals as goal

pub returns : goal.returns
returns c =
    let s = c.args.s.now in
    let p = run_plain s c.args.y c.difference.result c.difference-2.result c.product-run.result c.ranges.y (search rules) (search rules)
    c.difference.ensures.value c.difference-2.ensures.value c.product-run.ensures in
    let q = rise_plain s c.args.x c.difference-3.result c.difference-4.result c.product-rise.result c.ranges.x (search rules) (search rules)
    c.difference-3.ensures.value c.difference-4.ensures.value c.product-rise.ensures in
    let f : SFits w128 c.product-run.result = search rules in
    let g : SFits w128 c.product-rise.result = search rules in
    rw (to_z-of_z w128 c.product-run.result f, to_z-of_z w128 c.product-rise.result g, p, q) refl
