use Rattle.dpl_cell.specs.Images.{mirrored, transposed}
use Rattle.dpl_sign.specs.Redrawn.{IsMirroredPort, IsTransposedPort}
use Rattle.dpl_links.proofs.ImageLemmas.{net_image, mirror_keeps, transposition_keeps}
use Rattle.dpl_links.proofs.laws.nets_may_be_mirrored.Goals as goal

pub returns-clause-mirrored : goal.returns-clause-mirrored
returns-clause-mirrored c = λ weights space net other i r n. net_image mirrored IsMirroredPort mirror_keeps c.args.fragments.now
    c.args.others.now weights space net other i r n

pub returns-clause-transposed : goal.returns-clause-transposed
returns-clause-transposed c = λ weights space net other i r n. net_image transposed IsTransposedPort transposition_keeps
    c.args.fragments.now c.args.others.now weights space net other i r n
