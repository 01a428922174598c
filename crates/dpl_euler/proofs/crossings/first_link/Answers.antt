use Rattle.std.proofs.Common.{arith, ◌<◌, sym, ap, ◌∙◌, inl, inr}
use Rattle.std.specs.Prelude.{slice_index}
use Rattle.std.proofs.lemmas.Bool.{cases_eq}
use Rattle.dpl_euler.specs.Tests.{links_cross}
use Rattle.dpl_euler.proofs.crossings.first_link.Goals as goal
use Rattle.dpl_euler.proofs.crossings.first_link.Goals.{then-edge-other+else-do_cross, else-edge-other}

pub loop-i-preserved : goal.loop-i-preserved
loop-i-preserved c = λ i l h. elim (cases_eq i c.loop-i.i) [
  | inl t ↦ elim c.if-edge-other.branch [
    | then-edge-other+else-do_cross w ↦ ap (λ z. links_cross c.args.fragments.now c.args.net.now c.args.edge
        (slice_index c.args.found.now z)) t ∙ sym w.do_cross.ensures ∙ w.if-do_cross.false
    | else-edge-other w ↦
        let less : c.args.edge < slice_index c.args.found.now c.loop-i.i = rw (← t) h in
        absurd (omega (arith, less, w.if-edge-other.false))
  ]
  | inr t ↦ c.loop-i.invariant i (omega (arith, l, t)) h
]
