use Rattle.std.proofs.Common.{◌≤◌, ◌^◌, sym, subst}
use Rattle.dpl_calls.specs.declared.figure.Figure.{Figure}
use Rattle.dpl_cif.specs.Drawn.{drawn, outline_reach}
use Rattle.dpl_cif.proofs.Fits.{figure_low}
use Rattle.dpl_cif.proofs.prims.layout_of.Goals as goal

pub prim_of-requires-clause-near : goal.prim_of-requires-clause-near
prim_of-requires-clause-near c =
    subst (λ (f : Figure). outline_reach (drawn f) ≤ 2 ^ 30) (sym c.figure-item.is)
    (figure_low c.args.figures.now c.loop-figure.figure-index c.figure-item.result (2 ^ 30) c.loop-figure-test.true
    c.requires.near)
