use Rattle.dpl_pack.proofs.MarkedLemmas.{searched_more, not_searched}
use Rattle.dpl_pack.proofs.walks.find_walk.Goals as goal

pub loop-i-init : goal.loop-i-init
loop-i-init c = record {
  searched = rw c.in_default.is at c.in_ok-walk.ensures.found;
  noted = c.in_ok-walk.ensures.noted;
}

pub loop-i-preserved : goal.loop-i-preserved
loop-i-preserved c = record {
  searched = searched_more c.args.around.now c.loop-i.i c.loop-i.seen c.search_face.new.seen c.requires.around c.loop-i-test.true
      (rw c.in-None-default.is-0 at c.in_ok-walk-2.ensures.found) c.loop-i.invariant.searched;
  noted = λ n. c.in_ok-walk-2.ensures.noted (c.loop-i.invariant.noted n);
}

pub unreachable-requires : goal.unreachable-requires
unreachable-requires c = not_searched c.args.around.now c.loop-i.i c.loop-i.seen c.requires.around c.loop-i-test.false
    c.requires.odd c.loop-i.invariant.searched
