use Rattle.std.proofs.Common.{arith, rules, ◌≡◌, ap, get_or, SFits, w64, of_z}
use Rattle.std.proofs.lemmas.Int.{to_z-of_z}
use Rattle.std.proofs.lemmas.List.{get_or_default}
use Rattle.dpl_near.proofs.BorderLemmas.{blank}
use Rattle.dpl_near.proofs.LineLemmas.{line_between}
use Rattle.dpl_near.proofs.lines.line_from.Goals as goal

pub returns-then-borders-end-clause-line : goal.returns-then-borders-end-clause-line
returns-then-borders-end-clause-line c =
    let f : SFits w64 (get_or c.args.borders.now c.args.start blank).line = search rules in
    line_between c.args.borders.now _ c.args.start c.loop-end.end c.requires.order (let a = c.loop-end.auto.end in omega arith)
    (let t = c.loop-end-test.true in omega arith) c.requires.first c.loop-end.invariant
    (λ d h e. let g : (get_or c.args.borders.now c.loop-end.end blank).line ≡ (get_or c.args.borders.now c.args.start blank).line =
    rw (get_or_default c.args.borders.now c.loop-end.end d blank h) at (simp to_z-of_z at e) in absurd (c.if-borders-end.true (ap (of_z w64) g)))
