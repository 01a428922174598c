use Rattle.std.proofs.Common.{arith, sym, ap, ◌∙◌, inl, inr}
use Rattle.std.specs.Prelude.{slice_index}
use Rattle.std.proofs.lemmas.Bool.{cases_eq}
use Rattle.dpl_euler.specs.Tests.{crosses_fragment}
use Rattle.dpl_euler.proofs.crossings.first_fragment.Goals as goal

pub loop-i-preserved : goal.loop-i-preserved
loop-i-preserved c = λ i l. elim (cases_eq i c.loop-i.i) [
  | inl t ↦ ap (λ z. crosses_fragment c.args.fragments.now c.args.net.now c.args.edge (slice_index c.args.found.now z))
      t ∙ sym c.do_cross_fragment.ensures ∙ c.if-do_cross_fragment.false
  | inr t ↦ c.loop-i.invariant i (omega (arith, l, t))
]
