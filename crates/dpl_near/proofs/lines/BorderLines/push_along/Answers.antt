use Rattle.std.proofs.Common.{subst}
use Rattle.dpl_near.specs.Borders.{AddsAlong}
use Rattle.dpl_near.specs.Lines.{AreOnLine}
use Rattle.dpl_near.proofs.LineLemmas.{along_on_line, none_along}
use Rattle.dpl_near.proofs.lines.BorderLines.push_along.Goals as goal

pub returns-in-None : goal.returns-in-None
returns-in-None c = subst (λ b. AddsAlong c.args.border.now b c.args.pairs.now.items c.args.pairs.now.items) c.self.view_is
    (none_along c.args.border.now c.self.inside.borders.items c.self.inside.lines.items c.args.pairs.now.items c.self.invariant.lines
    (rw c.deref.ensures.value at c.in-None.ensures))

pub returns-in_ok-place-in-Some : goal.returns-in_ok-place-in-Some
returns-in_ok-place-in-Some c =
    let (on, at) = c.in-Some.ensures in
    let found : AreOnLine c.self.inside.borders.items c.args.border.now.line c.borders_on-borders.result.now =
    rw (c.deref-in-Some.ensures.value, at) at c.borders_on-borders.ensures.on in
    subst (λ b. AddsAlong c.args.border.now b c.args.pairs.now.items c.push_along.new.pairs.items) c.self.view_is
    (along_on_line c.args.border.now c.self.inside.borders.items _ _ _ found c.in_ok-place-in-Some.ensures)
