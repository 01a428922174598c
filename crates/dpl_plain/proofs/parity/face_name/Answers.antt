use Rattle.dpl_sign.specs.Drawings.{is_in}
use Rattle.dpl_plain.proofs.PlainLemmas.{named_face}
use Rattle.dpl_plain.proofs.parity.face_name.Goals as goal

pub returns : goal.returns
returns c = named_face c.args.net.now (is_in c.args.set.now) c.deref_mut.result.now c.in_ok-nexts.nexts.items
    c.args.dart _ c.deref_mut.ensures.value c.in_ok-nexts.ensures.length c.in_ok-nexts.ensures.each c.least.ensures
