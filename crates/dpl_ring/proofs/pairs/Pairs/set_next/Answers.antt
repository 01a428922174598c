use Rattle.std.proofs.Common.{ap, ◌∙◌}
use Rattle.dpl_ring.specs.declared.pair.Pair.{Pair}
use Rattle.dpl_ring.specs.Pairs.{nexts_of, prevs_of}
use Rattle.dpl_ring.proofs.PairLemmas.{nexts_set, prevs_kept}
use Rattle.dpl_ring.proofs.pairs.Pairs.set_next.Goals as goal

pub returns : goal.returns
returns c = rw (← c.self.view_is) (λ j. (
  (ap nexts_of c.put.ensures.0 ∙ nexts_set _ _ _) j,
  (ap prevs_of c.put.ensures.0 ∙ prevs_kept _ _ _ (ap (λ (p : Pair). p.prev) c.get.ensures)) j,
))
