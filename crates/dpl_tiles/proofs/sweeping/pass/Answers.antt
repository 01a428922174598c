use Rattle.std.proofs.Common.{rules, ◌≡◌, ◌∙◌, ◌++◌, ap, append_assoc, sym, SFits, w64, All}
use Rattle.std.specs.List.{AllZip}
use Rattle.std.proofs.lemmas.Int.{to_z-of_z}
use Rattle.dpl_tiles.specs.Bands.{cells_in}
use Rattle.dpl_tiles.specs.Stacks.{ending}
use Rattle.dpl_stacks.specs.Stacks.{joined}
use Rattle.dpl_tiles.specs.Windows.{IsContinued, AddsClosed, AreNearRuns}
use Rattle.dpl_stacks.proofs.PlaceLemmas.{near_ordered}
use Rattle.dpl_tiles.proofs.ClusterLemmas.{met, framed, run_inside, stays, near_below, cluster_passed}
use Rattle.dpl_tiles.proofs.sweeping.pass.Goals as goal

pub near_runs-requires-clause-inside : goal.near_runs-requires-clause-inside
near_runs-requires-clause-inside c =
    let m = met c.args.band.now.prims.now c.args.band.now.low _ _ _ _ _ _ _ _ _ _ c.requires.changes c.requires.passed
    c.in_ok-cluster.ensures.parted c.in_ok-cluster.ensures.cluster in
    run_inside _ c.args.band.now.low _ _ _ _ _ _ _ _ _ _ m _ _ c.window_of-window.ensures.left
    c.window_of-window.ensures.right (rw c.as_slice-near.ensures.value at c.window_of-window.ensures.holds)

pub near_runs-requires-clause-framed : goal.near_runs-requires-clause-framed
near_runs-requires-clause-framed c =
    let m = met c.args.band.now.prims.now c.args.band.now.low _ _ _ _ _ _ _ _ _ _ c.requires.changes c.requires.passed
    c.in_ok-cluster.ensures.parted c.in_ok-cluster.ensures.cluster in
    framed _ c.args.band.now.low _ _ _ _ _ _ _ _ _ _ m _ _ c.window_of-window.ensures.left
    c.window_of-window.ensures.right (rw c.as_slice-near.ensures.value at c.window_of-window.ensures.holds)
    (rw c.as_slice-near.ensures.value at c.window_of-window.ensures.first)
    (rw c.as_slice-near.ensures.value at c.window_of-window.ensures.last)

pub near_runs-requires-clause-still : goal.near_runs-requires-clause-still
near_runs-requires-clause-still c =
    let m = met c.args.band.now.prims.now c.args.band.now.low _ _ _ _ _ _ _ _ _ _ c.requires.changes c.requires.passed
    c.in_ok-cluster.ensures.parted c.in_ok-cluster.ensures.cluster in
    stays _ c.args.band.now.low _ _ _ _ _ _ _ _ _ _ m _ _ _ (rw c.as_slice-near.ensures.value at c.stack_across-still.ensures)

pub push_closed-requires-clause-below : goal.push_closed-requires-clause-below
push_closed-requires-clause-below c =
    let f : SFits w64 c.args.band.now.low = search rules in
    let m = met c.args.band.now.prims.now c.args.band.now.low _ _ _ _ _ _ _ _ _ _ c.requires.changes c.requires.passed
    c.in_ok-cluster.ensures.parted c.in_ok-cluster.ensures.cluster in
    simp to_z-of_z (rw c.as_slice-near.ensures.value (near_below _ c.args.band.now.low _ _ _ _ _ _ _ _ _ _ m))

pub all_continued-requires : goal.all_continued-requires
all_continued-requires c = rw c.as_slice-near.ensures.value (near_ordered _ _ _ _ _ _ c.in_ok-cluster.ensures.parted c.requires.passed.step.step.ordered)

pub returns-clause-passed : goal.returns-clause-passed
returns-clause-passed c =
    let f : SFits w64 c.args.band.now.low = search rules in
    let m = met c.args.band.now.prims.now c.args.band.now.low _ _ _ _ _ _ _ _ _ _ c.requires.changes c.requires.passed
    c.in_ok-cluster.ensures.parted c.in_ok-cluster.ensures.cluster in
    let runs : AreNearRuns (cells_in c.args.band.now) c.args.band.now.low c.in_ok-cluster.cluster.change.left
    c.in_ok-cluster.cluster.change.right c.in_ok-runs.runs.items = c.in_ok-runs.ensures.runs in
    let bottom : All (λ r. r.y1 ≡ c.args.band.now.low) c.in_ok-runs.runs.items = c.in_ok-runs.ensures.bottom in
    let stacks : AllZip (λ run r. IsContinued c.in_ok-cluster.cluster.near.items run.y1 run r) c.in_ok-runs.runs.items
    c.in_ok-stacks.stacks.items = rw (c.as_slice-near.ensures.value, c.as_slice-2.ensures.value) at
    c.in_ok-stacks.ensures in
    let closed : AddsClosed c.args.band.now.low (ending c.in_ok-runs.runs.items c.in_ok-cluster.cluster.near.items)
    c.args.sweep.now.ended.items c.push_closed.new.ended.items =
    rw (c.as_slice-near.ensures.value, c.as_slice.ensures.value) at (simp to_z-of_z at c.in_ok-push_closed.ensures)
    in
    cluster_passed _ c.args.band.now.low _ _ _ _ _ _ _ _ _ _ m _ c.in_ok-runs.runs.items c.in_ok-stacks.stacks.items _ runs
    bottom stacks closed (ap (λ xs. joined c.gather.new.stacks.far_left.items ++ xs)
    (rw c.as_slice-3.ensures.value at c.in_ok-extend_from_slice.ensures.items) ∙
    sym (append_assoc (joined c.gather.new.stacks.far_left.items) c.gather.new.stacks.left.items c.in_ok-stacks.stacks.items))
