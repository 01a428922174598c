use Rattle.std.proofs.lemmas.Result.{IfOk-weaker}
use Rattle.dpl_tiles.specs.Bands.{cells_in}
use Rattle.dpl_tiles.specs.Windows.{IsStill}
use Rattle.dpl_tiles.proofs.PartLemmas.{near_full}
use Rattle.dpl_tiles.proofs.sweeping.parts_near.Goals as goal

pub parts_beside-requires-clause-same : goal.parts_beside-requires-clause-same
parts_beside-requires-clause-same c =
    let still : IsStill (cells_in c.args.band.now) c.args.band.now.low c.args.change.now.left
    c.args.change.now.right c.args.window.now.left c.args.window.now.right c.in-Some.stack =
    rw c.in-Some.is at c.requires.still in still.same

pub returns-then-is_empty-clause-full : goal.returns-then-is_empty-clause-full
returns-then-is_empty-clause-full c =
    let still : IsStill (cells_in c.args.band.now) c.args.band.now.low c.args.change.now.left
    c.args.change.now.right c.args.window.now.left c.args.window.now.right c.in-Some.stack =
    rw c.in-Some.is at c.requires.still in
    IfOk-weaker c.parts_beside.result _ _ (λ v h. near_full (cells_in c.args.band.now) c.args.band.now.low _ _ _ _
    c.in-Some.stack v.items still c.requires.framed h) c.parts_beside.ensures.full
