use Rattle.dpl_sign.specs.Drawings.{is_in}
use Rattle.dpl_plain.proofs.PartLemmas.{part_test}
use Rattle.dpl_plain.proofs.parts.are_of_one_part.Goals as goal

pub returns : goal.returns
returns c = part_test c.args.net.now (is_in c.args.set.now) c.deref.result.now c.in_ok-names.names.items _ c.args.f
    c.args.g c.deref.ensures.value c.in_ok-names.ensures.length c.in_ok-names.ensures.each c.have_one_name.ensures
