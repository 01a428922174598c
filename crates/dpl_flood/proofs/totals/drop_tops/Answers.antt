use Rattle.std.proofs.Common.{arith, ◌≡◌, ◌<◌, ◌∙◌, length, get_or}
use Rattle.std.proofs.lemmas.List.{length-set}
use Rattle.dpl_laminar.specs.Storing.{sets_of}
use Rattle.dpl_pack.specs.Nests.{inner_of}
use Rattle.dpl_pack.specs.Points.{total_at}
use Rattle.dpl_flood.proofs.TotalLemmas.{top_adds, one_done, others_wait}
use Rattle.dpl_flood.proofs.totals.drop_tops.Goals as goal

pub overflow_sub-sums : goal.overflow_sub-sums
overflow_sub-sums c =
    let f = sets_of c.args.family.now in
    let low : c.loop-i.i < f.size = omega (arith, c.loop-i-test.true, c.loop-i.invariant.size, c.requires.members) in
    let is : get_or c.loop-i.sums c.loop-i.i 0 ≡ total_at f c.loop-i.i =
    c.loop-i.invariant.todo c.loop-i.i (omega arith) ∙ c.requires.totals c.loop-i.i low in
    omega (arith, is, top_adds f c.tops.ensures.family c.loop-i.i c.tops.result c.value.result low c.tops.ensures.value c.value.ensures.value)

pub loop-i-preserved : goal.loop-i-preserved
loop-i-preserved c =
    let f = sets_of c.args.family.now in
    let low : c.loop-i.i < f.size = omega (arith, c.loop-i-test.true, c.loop-i.invariant.size, c.requires.members) in
    let inside : c.loop-i.i < length c.loop-i.sums = omega (arith, c.loop-i-test.true) in
    let is : get_or c.loop-i.sums c.loop-i.i 0 ≡ total_at f c.loop-i.i =
    c.loop-i.invariant.todo c.loop-i.i (omega arith) ∙ c.requires.totals c.loop-i.i low in
    record {
      size = length-set c.loop-i.sums c.loop-i.i _ ∙ c.loop-i.invariant.size;
      done = one_done c.loop-i.sums c.loop-i.i _ (λ t. inner_of f (f.top t) t) inside c.loop-i.invariant.done
          (omega (arith, is, top_adds f c.tops.ensures.family c.loop-i.i c.tops.result c.value.result low c.tops.ensures.value c.value.ensures.value));
      todo = others_wait c.loop-i.sums c.args.sums.now c.loop-i.i _ c.loop-i.invariant.todo;
    }
