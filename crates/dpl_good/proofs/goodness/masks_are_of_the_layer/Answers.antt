use Rattle.dpl_report.specs.Plain.{plain_report}
use Rattle.dpl_good.proofs.MaskCellLemmas.{masks_of_layer}
use Rattle.dpl_good.proofs.goodness.masks_are_of_the_layer.Goals as goal

pub returns : goal.returns
returns c = λ cells tiles k. masks_of_layer c.args.options.now cells tiles c.args.fragments.now c.args.net.now
    (plain_report c.args.report.now) c.in_range.ensures c.requires.valid c.requires.good c.requires.net k
