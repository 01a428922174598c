use Rattle.std.proofs.Common.{filter}
use Rattle.std.specs.List.{AllZip}
use Rattle.dpl_tiles.specs.Bands.{IsOver, cells_in}
use Rattle.dpl_tiles.specs.Windows.{is_near}
use Rattle.dpl_tiles.proofs.BoundLemmas.{bounded}
use Rattle.dpl_tiles.proofs.NearLemmas.{IsExactIn, exact_in, near_runs_are, over_bottom}
use Rattle.dpl_tiles.proofs.sweeping.near_runs.Goals as goal

pub returns-clause-runs : goal.returns-clause-runs
returns-clause-runs c =
    let e : IsExactIn (cells_in c.args.band.now) c.args.band.now.low c.args.change.now.left
    c.args.change.now.right c.args.window.now.left c.args.window.now.right c.in_ok-stretches.stretches.items =
    exact_in _ c.args.band.now.low _ _ _ _ c.in_ok-parts.parts.items c.sort.new.parts.items c.in_ok-stretches.stretches.items
    c.in_ok-stretches.ensures.separate (rw c.as_slice.ensures.value at c.in_ok-stretches.ensures.same)
    c.sort.ensures.same
    c.in_ok-parts.ensures.sound c.in_ok-parts.ensures.full c.requires.inside in
    let z : AllZip (IsOver c.args.band.now.low c.args.band.now.high) (filter (is_near c.args.change.now.left c.args.change.now.right)
    c.in_ok-stretches.stretches.items) c.in_ok-runs.runs.items =
    rw c.as_slice-2.ensures.value at c.in_ok-runs.ensures in
    near_runs_are _ c.args.band.now.low c.args.band.now.high _ _ _ _ _ _ (bounded c.args.band.now.prims.now) e z

pub returns-clause-bottom : goal.returns-clause-bottom
returns-clause-bottom c =
    let z : AllZip (IsOver c.args.band.now.low c.args.band.now.high) (filter (is_near c.args.change.now.left c.args.change.now.right)
    c.as_slice-2.result.now) c.in_ok-runs.runs.items = c.in_ok-runs.ensures in
    over_bottom c.args.band.now.low c.args.band.now.high _ _ z
