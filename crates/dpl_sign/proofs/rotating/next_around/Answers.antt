use Rattle.std.proofs.Common.{add-one}
use Rattle.dpl_sign.specs.Drawings.{is_in}
use Rattle.dpl_sign.proofs.Unfold.{next_more}
use Rattle.dpl_sign.proofs.rotating.next_around.Goals as goal

pub loop-edge-preserved : goal.loop-edge-preserved
loop-edge-preserved c = rw add-one (
  next_more c.args.net.now (is_in c.args.set.now) c.loop-edge.edge c.args.dart
      c.loop-edge.next _ c.loop-edge.invariant.0 c.first_with-next.ensures.value,
  c.first_with-next.ensures.range,
)
