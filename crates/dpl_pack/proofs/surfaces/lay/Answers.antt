use Rattle.std.proofs.Common.{arith, subst, ℕ, ◌≡◌, ◌*◌}
use Rattle.dpl_pack.specs.Nests.{layers_of}
use Rattle.dpl_pack.specs.Laid.{moats_of}
use Rattle.dpl_pack.specs.Points.{fars}
use Rattle.dpl_pack.specs.Stacks.{AreStacked}
use Rattle.dpl_pack.proofs.StackLemmas.{nothing_stacked}
use Rattle.dpl_pack.proofs.LaidLemmas.{nothing_laid}
use Rattle.dpl_pack.proofs.surfaces.lay.Goals as goal

pub loop-set-init : goal.loop-set-init
loop-set-init c = rw (c.new-sets.ensures.items, c.new-levels.ensures.items) (record {
  laid = nothing_laid;
  stacked = λ f point faces t p. nothing_stacked (layers_of f) (fars f point) faces;
})

pub loop-set-preserved : goal.loop-set-preserved
loop-set-preserved c = record {
  laid = c.in_ok-lay_one.ensures.laid;
  stacked = λ f point faces t p. c.in_ok-lay_one.ensures.moats f point faces t p (c.loop-set.invariant.stacked f point faces t p);
}

pub returns : goal.returns
returns c = λ f point faces t p. rw c.new.ensures (
    let P : ℕ → Type 0 = λ z. AreStacked (layers_of f) (fars f point) faces z 0 (moats_of c.loop-set.sets.items c.loop-set.levels.items) in
    let e : c.loop-set.set ≡ 2 * f.size = omega (arith, t.values_length, c.loop-set-test.false, c.loop-set.auto.set-end) in
    subst P e (c.loop-set.invariant.stacked f point faces t p))
