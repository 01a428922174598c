use Rattle.dpl_good.proofs.LineLemmas.{bond_on_one_mask}
use Rattle.dpl_good.proofs.goodness.masks_are_whole.Goals as goal

pub returns-clause-bonds : goal.returns-clause-bonds
returns-clause-bonds c = λ cells tiles r m e x y x' y' within is first second. bond_on_one_mask c.args.options.now cells tiles
    c.args.fragments.now c.args.net.now r m e x y x' y' within is first second

pub returns-clause-first : goal.returns-clause-first
returns-clause-first c = λ cells tiles r m. m.drawn.on_first

pub returns-clause-second : goal.returns-clause-second
returns-clause-second c = λ cells tiles r m. m.drawn.on_second
