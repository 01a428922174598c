use Rattle.dpl_cell.specs.Images.{moved}
use Rattle.dpl_sign.specs.Redrawn.{IsMovedPort}
use Rattle.dpl_links.specs.Moving.{key_shift}
use Rattle.dpl_links.proofs.ImageLemmas.{net_image, move_keeps}
use Rattle.dpl_links.proofs.laws.nets_may_be_moved.Goals as goal

pub returns : goal.returns
returns c = λ right up weights space net other i r n. net_image (moved right up) (IsMovedPort (key_shift right up)) (move_keeps right up)
    c.args.fragments.now c.args.others.now weights space net other i r n
