use Rattle.std.proofs.Common.{◌∙◌}
use Rattle.dpl_euler.specs.Segments.{spans_overlap}
use Rattle.dpl_euler.proofs.SegmentLemmas.{columns_plain, rows_plain, or_yes, or_no}
use Rattle.dpl_euler.proofs.segments.do_overlap.Goals as goal

pub returns-then-spans_overlap : goal.returns-then-spans_overlap
returns-then-spans_overlap c = or_yes _ _ _ (c.spans_overlap.ensures ∙ columns_plain spans_overlap c.args.s.now c.args.t.now) c.if-spans_overlap.true

pub returns-else-spans_overlap : goal.returns-else-spans_overlap
returns-else-spans_overlap c =
    or_no _ _ _ _ (c.spans_overlap.ensures ∙ columns_plain spans_overlap c.args.s.now c.args.t.now) c.if-spans_overlap.false
    (c.spans_overlap-else-spans_overlap.ensures ∙ rows_plain spans_overlap c.args.s.now c.args.t.now)
