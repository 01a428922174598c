use Rattle.std.proofs.Common.{arith, ◌≡◌, ◌+◌, ◌-◌, ◌≤◌, ◌∙◌, ap, sym, subst}
use Rattle.std.specs.Prelude.{slice_index, slice_set}
use Rattle.dpl_laminar.specs.Storing.{sets_of}
use Rattle.dpl_flood.specs.Givings.{AreSettled}
use Rattle.dpl_flood.proofs.GiveLemmas.{settled_skip, settled_more}
use Rattle.dpl_flood.proofs.giving.settle.Goals as goal
use Rattle.dpl_flood.proofs.giving.settle.Goals.{then-tops-set, else-tops-set}

pub overflow_sub-inners : goal.overflow_sub-inners
overflow_sub-inners c =
    let f = sets_of c.args.family.now in
    let m = c.loop-i.i in
    let child = c.child_with-child in
    omega (
      arith,
      c.value.ensures.value,
      c.requires.enough m child.result (omega (arith, c.loop-i-test.true, c.requires.sized)) (sym c.tops.ensures.value ∙ c.if-tops-set.true)
          child.ensures.below child.ensures.parent child.ensures.held,
      c.loop-i.invariant.others m (λ h. absurd (omega (arith, h))),
    )

pub loop-i-preserved : goal.loop-i-preserved
loop-i-preserved c =
    let f = sets_of c.args.family.now in
    let m = c.loop-i.i in
    elim c.if-tops-set.branch [
      | then-tops-set w ↦
          let child = w.child_with-child in
          let top : f.top m ≡ c.args.set = sym c.tops.ensures.value ∙ w.if-tops-set.true in
          let most : f.value child.result ≤ slice_index c.loop-i.inners m = omega (
            arith,
            c.requires.enough m child.result (omega (arith, c.loop-i-test.true, c.requires.sized)) top child.ensures.below child.ensures.parent
                child.ensures.held,
            c.loop-i.invariant.others m (λ h. absurd (omega (arith, h))),
          ) in
          subst (AreSettled f c.args.set (m + 1) c.args.inners.now)
          (sym (w.inners-is ∙ ap (λ z. slice_set c.loop-i.inners m (slice_index c.loop-i.inners m - z)) w.value.ensures.value))
          (settled_more f c.args.set m child.result c.args.inners.now c.loop-i.inners c.tops.ensures.family c.loop-i.invariant
          (omega (arith, c.loop-i-test.true, c.loop-i.auto.inners)) top child.ensures.below child.ensures.live
          child.ensures.parent child.ensures.held most)
      | else-tops-set w ↦ subst (AreSettled f c.args.set (m + 1) c.args.inners.now) (sym w.inners-is)
          (settled_skip f c.args.set m c.args.inners.now c.loop-i.inners c.loop-i.invariant (λ e. w.if-tops-set.false (c.tops.ensures.value ∙ e)))
    ]
