use Rattle.dpl_tiles.specs.Windows.{IsContinued}
use Rattle.dpl_list.proofs.Zips.{zip_more, zip_all}
use Rattle.dpl_tiles.proofs.sweeping.all_continued.Goals as goal

pub loop-run-preserved : goal.loop-run-preserved
loop-run-preserved c = zip_more (λ run r. IsContinued c.args.near.now run.y1 run r) _ _ _ _ c.run-item.result
    c.continued.result c.loop-run-test.true c.run-item.is c.loop-run.invariant c.in_ok-push.ensures.items
    c.continued.ensures

pub returns : goal.returns
returns c = zip_all (λ run r. IsContinued c.args.near.now run.y1 run r) _ c.loop-run.run-index _ c.loop-run-test.false c.loop-run.invariant
