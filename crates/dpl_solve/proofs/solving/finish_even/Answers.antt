use Rattle.dpl_solve.proofs.NoneOddLemmas.{made_even}
use Rattle.dpl_solve.proofs.solving.finish_even.Goals as goal

pub tell-requires-clause-solution : goal.tell-requires-clause-solution
tell-requires-clause-solution c = made_even c.args.net.now c.args.map.now c.requires.map c.args.odd.now c.requires.odd
    c.requires.even c.args.joined.now c.requires.none c.args.cycles.items c.requires.fresh
