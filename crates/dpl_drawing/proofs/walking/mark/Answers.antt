use Rattle.std.proofs.Common.{sym, ◌∙◌}
use Rattle.dpl_drawing.proofs.MarkLemmas.{begins, goes_on, ends}
use Rattle.dpl_drawing.proofs.walking.mark.Goals as goal

pub loop-place-preserved : goal.loop-place-preserved
loop-place-preserved c =
    rw c.next-place.ensures.value (goes_on _ _ _ _ _ _ _ c.next-place.ensures.ring.2 c.loop-place.invariant
    (λ e. c.if-place-start.false (c.next-place.ensures.value ∙ e)))

pub returns : goal.returns
returns c = ends _ _ _ _ _ _ _ c.next-place.ensures.ring.2 c.loop-place.invariant (sym c.next-place.ensures.value ∙ c.if-place-start.true)

pub loop-place-init : goal.loop-place-init
loop-place-init c = begins _ _ _ _ c.requires.lengths c.requires.start c.requires.fresh
