use Rattle.dpl_good.proofs.SameMaskLemmas.{letters_leave_no_choice}
use Rattle.dpl_good.proofs.goodness.letters_determine_masks.Goals as goal

pub returns : goal.returns
returns c = λ cells tiles r s a m n e. letters_leave_no_choice c.args.options.now cells tiles c.args.fragments.now c.args.net.now
    r s c.in_range.ensures a m n e
