use Rattle.std.proofs.Common.{◌≡◌, ◌∙◌, List, All, None, sym, subst}
use Rattle.dpl_calls.specs.declared.figure.Figure.{Figure}
use Rattle.dpl_calls.specs.Kept.{IsSound}
use Rattle.dpl_calls.specs.Table.{bodies_of}
use Rattle.dpl_calls.specs.Unfolding.{figures_of}
use Rattle.dpl_calls.proofs.Rigid.{figures_sound, unmoved_rigid}
use Rattle.dpl_cif.proofs.reading.limited.Goals as goal

pub layout_of-requires-clause-sound : goal.layout_of-requires-clause-sound
layout_of-requires-clause-sound c =
    let same : c.deref-2.result.now ≡ figures_of c.args.depth (bodies_of c.args.table.now) (λ c. c)
    (bodies_of c.args.table.now None) = c.deref-2.ensures.value ∙ c.in-Ok-unfold_table.ensures in
    subst (All IsSound) (sym same) (figures_sound c.args.depth (bodies_of c.args.table.now) c.requires.kept (λ c. c)
    (bodies_of c.args.table.now None) unmoved_rigid (c.requires.kept None))
