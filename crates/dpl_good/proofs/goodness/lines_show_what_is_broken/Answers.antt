use Rattle.dpl_good.proofs.LineLemmas.{lines_show_zones, lines_tell_close}
use Rattle.dpl_good.proofs.goodness.lines_show_what_is_broken.Goals as goal

pub returns-clause-cuts : goal.returns-clause-cuts
returns-clause-cuts c = λ cells tiles r m. lines_show_zones c.args.options.now cells tiles c.args.fragments.now c.args.net.now r m

pub returns-clause-clashes : goal.returns-clause-clashes
returns-clause-clashes c = λ cells tiles r k m. lines_tell_close c.args.options.now cells tiles c.args.fragments.now c.args.net.now
    r c.in_range.ensures c.requires k m
