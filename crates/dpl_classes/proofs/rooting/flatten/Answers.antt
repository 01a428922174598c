use Rattle.std.proofs.Common.{arith, refl, ◌<◌, length}
use Rattle.dpl_classes.proofs.WayLemmas.{falls_short, flat_more, flat_all}
use Rattle.dpl_classes.proofs.rooting.flatten.Goals as goal

pub loop-i-preserved : goal.loop-i-preserved
loop-i-preserved c =
    let e = c.loop-i.auto.ups in let h = c.loop-i-test.true in
    let within : c.loop-i.i < length c.loop-i.ups = omega arith in record {
      falls = falls_short c.loop-i.ups c.loop-i.i _ c.loop-i.invariant.falls within refl;
      flat = λ tops t. flat_more c.loop-i.i c.loop-i.ups tops _ within refl (c.loop-i.invariant.flat tops t);
    }

pub returns : goal.returns
returns c tops t =
    let e = c.loop-i.auto.ups in let h = c.loop-i-test.false in
    flat_all c.loop-i.i _ tops (omega arith) (c.loop-i.invariant.flat tops t)
