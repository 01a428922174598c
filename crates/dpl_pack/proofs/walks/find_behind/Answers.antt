use Rattle.std.proofs.Common.{[]}
use Rattle.dpl_map.specs.Views.{view_of}
use Rattle.dpl_pack.proofs.OddLemmas.{nothing_searched}
use Rattle.dpl_pack.proofs.MarkedLemmas.{searched_none}
use Rattle.dpl_pack.proofs.walks.find_behind.Goals as goal

pub loop-i-init : goal.loop-i-init
loop-i-init c = record {
  searched = nothing_searched c.args.around.now.graph.now (view_of c.args.around.now.map.now) _ _ c.requires.darts c.requires.clear;
  noted = λ n. n;
}

pub loop-i-preserved : goal.loop-i-preserved
loop-i-preserved c =
    let a = c.args.around.now in
    let s = rw c.in-None-default.is-0 at c.in_ok-walk.ensures.found in
    record {
      searched = searched_none a _ _ (s [] c.loop-i.invariant.searched);
      noted = λ n. c.in_ok-walk.ensures.noted (c.loop-i.invariant.noted n);
    }
