use Rattle.std.proofs.Common.{arith, get_or, ℕ}
use Rattle.dpl_laminar.specs.Families.{Sets}
use Rattle.dpl_laminar.specs.Storing.{sets_of}
use Rattle.dpl_pack.specs.Notes.{noted}
use Rattle.dpl_pack.proofs.CheckLemmas.{StandsFor, stands_seat, seated_more}
use Rattle.dpl_pack.proofs.checks.are_seated.Goals as goal

pub loop-t-preserved : goal.loop-t-preserved
loop-t-preserved c =
    let f : Sets = sets_of c.args.tree.now.family.now in
    let notes = c.args.notes.now in
    let face : ℕ = get_or c.args.terminals.now c.loop-t.t 0 in
    let point : StandsFor notes c.args.shore face c.point_at-point.result = record {
      some = c.point_at-point.ensures.some;
      none = c.point_at-point.ensures.none;
    } in
    seated_more f (noted notes) c.args.terminals.now c.loop-t.t (omega (
      arith,
      stands_seat f c.requires.family notes c.args.shore c.point_at-point.result face c.loop-t.t c.requires.shore point,
      c.apart.ensures,
      c.if-apart-gt0.false,
    )) c.loop-t.invariant
