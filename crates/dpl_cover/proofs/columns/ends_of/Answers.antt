use Rattle.dpl_cover.proofs.ColumnLemmas.{ends_more, ends_all}
use Rattle.dpl_cover.proofs.columns.ends_of.Goals as goal

pub loop-r-preserved : goal.loop-r-preserved
loop-r-preserved c = record {
  has = ends_more _ _ c.r-item.result _ _ c.loop-r-test.true c.r-item.is c.in_ok-push_ends.ensures c.loop-r.invariant.has;
  range = c.in_ok-push_ends.ensures.range c.loop-r.invariant.range;
}

pub returns-clause-has : goal.returns-clause-has
returns-clause-has c = ends_all _ c.loop-r.r-index _ c.loop-r-test.false c.loop-r.invariant.has
