use Rattle.dpl_euler.proofs.SegmentLemmas.{link_plain}
use Rattle.dpl_euler.proofs.links.link_of.Goals as goal

pub returns : goal.returns
returns c =
    link_plain c.args.a.now c.args.b.now _ _ _ _ c.leaving-x1.ensures.low c.leaving-x1.ensures.high
    c.leaving-y1.ensures.low c.leaving-y1.ensures.high c.leaving-x2.ensures.low c.leaving-x2.ensures.high
    c.leaving-y2.ensures.low c.leaving-y2.ensures.high c.leaving-x1.ensures.value c.leaving-y1.ensures.value
    c.leaving-x2.ensures.value c.leaving-y2.ensures.value
