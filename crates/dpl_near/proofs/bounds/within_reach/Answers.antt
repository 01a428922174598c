use Rattle.std.proofs.Common.{arith, ◌≡◌, ◌≤◌, to_z, pos, ◌-ℤ◌, SFits, w64}
use Rattle.std.proofs.lemmas.Int.{ints, to_z-of_z}
use Rattle.dpl_cell.specs.Places.{corners_of}
use Rattle.dpl_cell.proofs.Same.{corners_fit}
use Rattle.dpl_near.proofs.BoundsLemmas.{close_meets, wider_fit}
use Rattle.dpl_near.proofs.bounds.within_reach.Goals as goal

pub returns : goal.returns
returns c =
    let r = c.args.rect.now in
    let small : c.args.reach ≤ 200000 = c.requires in
    let reach : to_z w64 c.args.reach ≡ pos c.args.reach = omega (arith, ints) in
    let wider : SFits w64 (pos c.args.reach -ℤ pos 1) = omega (arith, ints) in
    let (f1, (f2, (f3, f4))) = corners_fit r in
    let (g1, (g2, (g3, g4))) = wider_fit r c.args.reach small in
    λ other close. simp (reach, to_z-of_z) (close_meets (corners_of r) other c.args.reach close)
