use Rattle.dpl_cuts.specs.Tilings.{tiles_of}
use Rattle.dpl_cuts.proofs.ShutLemmas.{more_so_far}
use Rattle.std.proofs.Common.{◌<◌, All, length}
use Rattle.dpl_cuts.proofs.crowding.push_some_at.Goals as goal

pub returns : goal.returns
returns c =
    let each : All (λ k. k < length (tiles_of c.args.tiling.now)) c.in_ok-near.near.items = rw c.requires.finder at c.in_ok-near.ensures in
    rw (c.in_ok-extend_from_slice.ensures.items, c.as_slice-3.ensures.value)
    (more_so_far (tiles_of c.args.tiling.now) c.args.tiling.now.label.now c.as_slice.result.now c.args.tiling.now.space c.args.i
    _ _ c.requires.shut (rw c.as_slice.ensures.value each) c.in_ok-found.ensures)
