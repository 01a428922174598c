use Rattle.std.proofs.Common.{arith, subst, ◌≤◌, get_or}
use Rattle.std.proofs.lemmas.List.{get_or_default}
use Rattle.dpl_laminar.specs.Families.{Sets}
use Rattle.dpl_laminar.specs.Storing.{sets_of}
use Rattle.dpl_dual.specs.declared.crosses.Cross.{Cross}
use Rattle.dpl_dual.specs.Chains.{no_cross}
use Rattle.dpl_pack.specs.Points.{apart}
use Rattle.dpl_pack.specs.Notes.{noted}
use Rattle.dpl_pack.proofs.CheckLemmas.{StandsFor, stands_apart, short_more}
use Rattle.dpl_pack.proofs.checks.are_short.Goals as goal

pub loop-k-preserved : goal.loop-k-preserved
loop-k-preserved c =
    let f : Sets = sets_of c.args.tree.now.family.now in
    let notes = c.args.notes.now in
    let ways = c.args.ways.now in
    let way : Cross = get_or ways c.loop-k.k no_cross in
    let first : StandsFor notes c.args.shore way.f c.point_at-first.result = record {
      some = c.point_at-first.ensures.some;
      none = c.point_at-first.ensures.none;
    } in
    let second : StandsFor notes c.args.shore way.g c.point_at-second.result = record {
      some = c.point_at-second.ensures.some;
      none = c.point_at-second.ensures.none;
    } in
    short_more f (noted notes) ways c.loop-k.k c.loop-k-test.true (λ x.
    let P : Cross → Type 0 = λ z. apart f (noted notes z.f) (noted notes z.g) ≤ z.length in
    subst P (get_or_default ways c.loop-k.k no_cross x c.loop-k-test.true) (omega (
      arith,
      stands_apart f c.requires.family notes c.args.shore c.point_at-first.result c.point_at-second.result way.f way.g c.requires.shore first second,
      c.apart.ensures,
      c.if-apart-ways.false,
    ))) c.loop-k.invariant
