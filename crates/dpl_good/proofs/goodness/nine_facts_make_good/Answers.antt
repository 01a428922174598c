use Rattle.dpl_good.proofs.FactLemmas.{good_exactly}
use Rattle.dpl_good.proofs.goodness.nine_facts_make_good.Goals as goal

pub returns : goal.returns
returns c = λ keep tiles label text a. good_exactly c.args.options.now c.args.fragments.now c.args.net.now keep tiles label text c.in_range.ensures c.requires a
