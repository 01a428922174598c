use Rattle.std.proofs.lemmas.Result.{IfOk-weaker}
use Rattle.dpl_classes.proofs.LabelLemmas.{classes_are}
use Rattle.dpl_classes.proofs.classing.classes.Goals as goal

pub returns : goal.returns
returns c = IfOk-weaker c.labels.result _ _ (λ p m. classes_are c.args.pairs.now c.args.n c.in_ok-roots.roots.items
    p.0.items p.1 c.in_ok-roots.ensures (rw (← c.as_slice.ensures.value) m)) c.labels.ensures
