use Rattle.dpl_cell.specs.Places.{corners_of}
use Rattle.dpl_cuts.proofs.BlockLemmas.{may_be_kept}
use Rattle.dpl_cuts.proofs.keeping.Keeper.shared_with.Goals as goal

pub returns : goal.returns
returns c = rw (← c.self.view_is) (may_be_kept c.self.inside.rects.now (corners_of c.args.tile.now) _ _ _
    c.self.invariant c.bounds_of.ensures c.in_ok-found.ensures)
