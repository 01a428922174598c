use Rattle.dpl_drawing.proofs.MarkLemmas.{begins, goes_on, ends}
use Rattle.dpl_drawing.proofs.numbering.mark.Goals as goal

pub loop-place-preserved : goal.loop-place-preserved
loop-place-preserved c = goes_on _ _ _ _ _ _ _ c.requires.ring.1 c.loop-place.invariant c.if-place-start.false

pub returns : goal.returns
returns c = ends _ _ _ _ _ _ _ c.requires.ring.1 c.loop-place.invariant c.if-place-start.true

pub loop-place-init : goal.loop-place-init
loop-place-init c = begins _ _ _ _ c.requires.lengths c.requires.start c.requires.fresh
