use Rattle.dpl_links.proofs.CrowdLemmas.{kept_set}
use Rattle.dpl_links.proofs.crowded.keep.Goals as goal

pub returns-then-piece-len : goal.returns-then-piece-len
returns-then-piece-len c = λ links kept covered. kept_set c.args.nearest.now.items c.args.piece c.args.link links kept covered
