use Rattle.std.proofs.Common.{◌≡◌, ◌⊎◌, ap, sym, ◌∙◌}
use Rattle.std.proofs.lemmas.Result.{err_from_is_err_and}
use Rattle.dpl_layer.specs.declared.error.LayerError.{LayerError}
use Rattle.dpl_layer.specs.declared.error.LayerError.TheVariants.{NoMemory}
use Rattle.dpl_layer.specs.Reasons.{FirstOf}
use Rattle.dpl_layer.specs.Drawings.{drawing_reasons, IsDrawingOf}
use Rattle.dpl_layer.proofs.RefusalLemmas.{one_comes, only_comes, one_drawing_refusal, reading_refuses, drawing_is}
use Rattle.dpl_layer.proofs.drawing.read_drawing.Goals as goal

pub returns-in_err-drawing-clause-refused : goal.returns-in_err-drawing-clause-refused
returns-in_err-drawing-clause-refused c =
    let p = err_from_is_err_and c.from_residual.result c.from_residual.ensures.1 in
    let R : LayerError → Type 0 = FirstOf (drawing_reasons c.args.options.now c.args.text.now) in
    let applies : (p.0 ≡ NoMemory) ⊎ R p.0 = rw p.2 (reading_refuses c.args.options.now c.args.text.now
    _ (rw (c.layer.ensures.value, c.keep.ensures.value) at c.in_err-drawing.ensures.refused)) in
    only_comes R _ p.0 p.1 applies

pub returns-in_err-drawing-clause-exact : goal.returns-in_err-drawing-clause-exact
returns-in_err-drawing-clause-exact c =
    let p = err_from_is_err_and c.from_residual.result c.from_residual.ensures.1 in
    let R : LayerError → Type 0 = FirstOf (drawing_reasons c.args.options.now c.args.text.now) in
    let applies : (p.0 ≡ NoMemory) ⊎ R p.0 = rw p.2 (reading_refuses c.args.options.now c.args.text.now
    _ (rw (c.layer.ensures.value, c.keep.ensures.value) at c.in_err-drawing.ensures.refused)) in
    one_comes R _ p.0 (one_drawing_refusal c.args.options.now c.args.text.now) p.1 applies

pub returns-clause-drawing : goal.returns-clause-drawing
returns-clause-drawing c = drawing_is c.args.options.now c.args.text.now c.in_ok-drawing.drawing
    (rw c.layer.ensures.value at c.in_ok-drawing.ensures.layer) (rw c.keep.ensures.value at c.in_ok-drawing.ensures.keep)

pub returns-clause-exact : goal.returns-clause-exact
returns-clause-exact c =
    let is : IsDrawingOf c.args.options.now c.args.text.now c.in_ok-drawing.drawing = drawing_is c.args.options.now
    c.args.text.now c.in_ok-drawing.drawing (rw c.layer.ensures.value at c.in_ok-drawing.ensures.layer)
    (rw c.keep.ensures.value at c.in_ok-drawing.ensures.keep) in
    λ e r. absurd (is.taken e r)
