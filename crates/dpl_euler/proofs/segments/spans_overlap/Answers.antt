use Rattle.std.proofs.Common.{rules, ◌≡◌, SFits, w64}
use Rattle.std.specs.Int.{int_max, int_min}
use Rattle.std.proofs.lemmas.Int.{to_z-of_z}
use Rattle.dpl_euler.proofs.segments.spans_overlap.Goals as goal

pub returns : goal.returns
returns c =
    let f1 : SFits w64 c.min.result = search rules in
    let f2 : SFits w64 c.max.result = search rules in
    let f3 : SFits w64 c.min-2.result = search rules in
    let f4 : SFits w64 c.max-2.result = search rules in
    let a1 : c.min.result ≡ int_min c.args.a1 c.args.a2 = search rules in
    let a2 : c.max.result ≡ int_max c.args.a1 c.args.a2 = search rules in
    let b1 : c.min-2.result ≡ int_min c.args.b1 c.args.b2 = search rules in
    let b2 : c.max-2.result ≡ int_max c.args.b1 c.args.b2 = search rules in
    rw (← a1, ← a2, ← b1, ← b2) (simp to_z-of_z at c.meet.ensures)
