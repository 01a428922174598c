use Rattle.dpl_sign.specs.Drawings.{is_in}
use Rattle.dpl_sign.specs.Components.{component_of}
use Rattle.dpl_plain.proofs.PlainLemmas.{count_named}
use Rattle.dpl_plain.proofs.components.component_count.Goals as goal

pub returns : goal.returns
returns c = count_named c.deref.result.now c.in_ok-names.names.items _ _
    (component_of c.args.graph.now (is_in c.args.set.now)) c.deref.ensures.value c.in_ok-names.ensures.length
    c.in_ok-names.ensures.each c.count_names.ensures.value
