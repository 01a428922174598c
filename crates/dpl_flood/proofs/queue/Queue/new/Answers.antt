use Rattle.std.proofs.Common.{◌∙◌, ◌++◌, ap, replicate}
use Rattle.std.proofs.lemmas.List.{replicate-append-replicate}
use Rattle.dpl_flood.specs.Queues.{never}
use Rattle.dpl_flood.proofs.queue.Queue.new.Goals as goal

pub returns : goal.returns
returns c = ap (λ z. z ++ c.in_ok-sets.sets) c.in_ok-ways.ensures ∙ ap (λ z. replicate c.args.ways never ++ z) c.in_ok-sets.ensures
    ∙ replicate-append-replicate c.args.ways c.args.sets never
