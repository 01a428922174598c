use Rattle.std.proofs.Common.{arith, map}
use Rattle.std.proofs.lemmas.List.{length-map}
use Rattle.dpl_sum.specs.Laying.{solved_part}
use Rattle.dpl_sum.proofs.LayLemmas.{solved_at, part_inside, agree_more, agree_all}
use Rattle.dpl_sum.proofs.combining.lay_all.Goals as goal

pub lay_part-requires : goal.lay_part-requires
lay_part-requires c = λ v l.
    let i = part_inside c.args.net.now c.args.parts.now c.requires.share c.loop-i.i c.index-parts-i.result c.loop-i-test.true c.index-parts-i.is v l in
    let size = c.loop-i.auto.colours in
    let n = c.requires.nodes in
    omega (arith, i, size, n)

pub loop-i-preserved : goal.loop-i-preserved
loop-i-preserved c =
    let parts = c.args.parts.now in
    let size = c.loop-i.auto.colours in
    let n = c.requires.nodes in
    let many = length-map parts solved_part in
    let low = c.loop-i-test.true in
    agree_more c.args.net.now (map solved_part parts) c.requires.share c.loop-i.colours c.lay_part.new.colours
    c.loop-i.i (omega (arith, size, n)) (omega (arith, low, many)) c.loop-i.invariant
    (solved_part c.index-parts-i.result) (solved_at parts c.loop-i.i c.index-parts-i.result low c.index-parts-i.is)
    c.lay_part.ensures

pub returns : goal.returns
returns c =
    let many = length-map c.args.parts.now solved_part in
    let far = c.loop-i-test.false in
    agree_all (map solved_part c.args.parts.now) c.loop-i.colours c.loop-i.i (omega (arith, many, far)) c.loop-i.invariant
