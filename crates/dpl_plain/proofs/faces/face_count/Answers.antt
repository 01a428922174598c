use Rattle.dpl_sign.specs.Drawings.{is_in}
use Rattle.dpl_plain.proofs.PlainLemmas.{count_faces}
use Rattle.dpl_plain.proofs.faces.face_count.Goals as goal

pub returns : goal.returns
returns c = count_faces c.args.net.now (is_in c.args.set.now) c.deref_mut.result.now c.in_ok-nexts.nexts.items _ _
    c.deref_mut.ensures.value c.in_ok-nexts.ensures.length c.in_ok-nexts.ensures.each
    c.count_cycles-cycles.ensures.value c.bare_count.ensures.value
