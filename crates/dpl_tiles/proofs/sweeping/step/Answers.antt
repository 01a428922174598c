use Rattle.std.proofs.Common.{rules, SFits, w64}
use Rattle.std.proofs.lemmas.Int.{to_z-of_z}
use Rattle.dpl_tiles.proofs.ChangeLemmas.{changes_of}
use Rattle.dpl_tiles.proofs.PassLemmas.{none_passed, all_passed}
use Rattle.dpl_tiles.proofs.sweeping.step.Goals as goal

pub clusters-init : goal.clusters-init
clusters-init c =
    let f : SFits w64 c.args.band.now.low = search rules in
    none_passed _ c.args.band.now.low _ _ _ (changes_of c.args.band.now.prims.now c.args.corners.now _ c.args.band.now.low
    c.requires.cornered (simp to_z-of_z at c.corners_at-row.ensures)) c.requires.swept

pub pass-requires-clause-changes : goal.pass-requires-clause-changes
pass-requires-clause-changes c =
    let f : SFits w64 c.args.band.now.low = search rules in
    changes_of c.args.band.now.prims.now c.args.corners.now _ c.args.band.now.low c.requires.cornered (simp to_z-of_z at c.corners_at-row.ensures)

pub returns : goal.returns
returns c =
    let f : SFits w64 c.args.band.now.low = search rules in
    all_passed _ c.args.band.now.low c.args.band.now.high _ _ _ _ c.requires.band.alike
    (changes_of c.args.band.now.prims.now c.args.corners.now _ c.args.band.now.low c.requires.cornered
    (simp to_z-of_z at c.corners_at-row.ensures)) c.clusters-test.false c.clusters.invariant
