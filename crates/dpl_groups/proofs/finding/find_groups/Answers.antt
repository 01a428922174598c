use Rattle.std.proofs.Common.{◌∙◌, ap, List}
use Rattle.dpl_groups.specs.declared.walk.Mark.{Mark}
use Rattle.dpl_groups.specs.Walk.{label_of}
use Rattle.std.proofs.Common.{map}
use Rattle.dpl_groups.proofs.AllDone.{are_groups}
use Rattle.dpl_groups.proofs.finding.find_groups.Goals as goal

pub returns : goal.returns
returns c =
    are_groups c.args.edges.now c.in_ok-walk.walk c.new.result c.new-2.result c.in_ok-walk.ensures.walk c.in_ok-walk.ensures.done
    (c.new.ensures ∙ (c.in_ok-labels.ensures ∙ ap (λ (ms : List Mark). map label_of ms) c.deref.ensures.value))
    c.new-2.ensures
