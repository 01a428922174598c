use Rattle.std.proofs.Common.{◌∙◌}
use Rattle.dpl_euler.specs.Segments.{spans_meet}
use Rattle.dpl_euler.proofs.SegmentLemmas.{columns_plain, rows_plain, and_yes, and_no}
use Rattle.dpl_euler.proofs.segments.bounds_meet.Goals as goal

pub returns-then-spans_meet : goal.returns-then-spans_meet
returns-then-spans_meet c =
    and_yes _ _ _ _ (c.spans_meet.ensures ∙ columns_plain spans_meet c.args.s.now c.args.t.now) c.if-spans_meet.true
    (c.spans_meet-then-spans_meet.ensures ∙ rows_plain spans_meet c.args.s.now c.args.t.now)

pub returns-else-spans_meet : goal.returns-else-spans_meet
returns-else-spans_meet c = and_no _ _ _ (c.spans_meet.ensures ∙ columns_plain spans_meet c.args.s.now c.args.t.now) c.if-spans_meet.false
