use Rattle.std.proofs.Common.{◌<◌, length, subst, sym}
use Rattle.dpl_flood.specs.Queues.{IsFirst}
use Rattle.dpl_flood.proofs.KeyLemmas.{first_of_both}
use Rattle.dpl_flood.proofs.queue.Queue.first.Goals as goal

pub returns : goal.returns
returns c = subst (λ z. IsFirst z c.min.result) c.self.view_is (first_of_both c.self.inside.ways c.self.inside.sets c.least.result c.least-2.result c.min.result
    (subst (λ z. 0 < length z) (sym c.self.view_is) c.requires) c.min.ensures
    c.least.ensures.all c.least.ensures.one c.least.ensures.none c.least.ensures.most
    c.least-2.ensures.all c.least-2.ensures.one c.least-2.ensures.none c.least-2.ensures.most)
