use Rattle.std.proofs.Common.{rules, ◌≡◌, ◌⊎◌}
use Rattle.std.proofs.lemmas.Result.{err_from_is_err_and}
use Rattle.dpl_layer.specs.declared.error.LayerError.{LayerError}
use Rattle.dpl_layer.specs.declared.error.LayerError.TheVariants.{NoMemory}
use Rattle.dpl_layer.specs.Drawings.{Cells}
use Rattle.dpl_layer.specs.Layers.{IsCutLayer}
use Rattle.dpl_layer.specs.Reasons.{FirstOf}
use Rattle.dpl_layer.specs.Refusals.{layer_reasons}
use Rattle.dpl_layer.proofs.TextLemmas.{on_drawing}
use Rattle.dpl_layer.proofs.RefusalLemmas.{none_comes, one_comes, only_comes, one_text_refusal, drawing_text_refuses, cells_text_refuse}
use Rattle.dpl_layer.proofs.reading.layer_of_commands.Goals as goal

pub returns-in_err-drawing-clause-refused : goal.returns-in_err-drawing-clause-refused
returns-in_err-drawing-clause-refused c =
    let p = err_from_is_err_and c.from_residual.result c.from_residual.ensures.1 in
    let R : LayerError → Type 0 = FirstOf (layer_reasons c.args.options.now c.args.text.now) in
    let applies : (p.0 ≡ NoMemory) ⊎ R p.0 = rw p.2 (drawing_text_refuses c.args.options.now c.args.text.now _ (search rules)) in
    only_comes R _ p.0 p.1 applies

pub returns-in_err-drawing-clause-exact : goal.returns-in_err-drawing-clause-exact
returns-in_err-drawing-clause-exact c =
    let p = err_from_is_err_and c.from_residual.result c.from_residual.ensures.1 in
    let R : LayerError → Type 0 = FirstOf (layer_reasons c.args.options.now c.args.text.now) in
    let applies : (p.0 ≡ NoMemory) ⊎ R p.0 = rw p.2 (drawing_text_refuses c.args.options.now c.args.text.now _ (search rules)) in
    one_comes R _ p.0 (one_text_refusal c.args.options.now c.args.text.now) p.1 applies

pub returns-in_err-layer-clause-refused : goal.returns-in_err-layer-clause-refused
returns-in_err-layer-clause-refused c =
    let p = err_from_is_err_and c.from_residual-in_err-layer.result c.from_residual-in_err-layer.ensures.1 in
    let R : LayerError → Type 0 = FirstOf (layer_reasons c.args.options.now c.args.text.now) in
    let applies : (p.0 ≡ NoMemory) ⊎ R p.0 = rw p.2 (cells_text_refuse c.args.options.now c.args.text.now
    c.in_ok-drawing.drawing _ c.in_ok-drawing.ensures.drawing (search rules)) in
    only_comes R _ p.0 p.1 applies

pub returns-in_err-layer-clause-exact : goal.returns-in_err-layer-clause-exact
returns-in_err-layer-clause-exact c =
    let p = err_from_is_err_and c.from_residual-in_err-layer.result c.from_residual-in_err-layer.ensures.1 in
    let R : LayerError → Type 0 = FirstOf (layer_reasons c.args.options.now c.args.text.now) in
    let applies : (p.0 ≡ NoMemory) ⊎ R p.0 = rw p.2 (cells_text_refuse c.args.options.now c.args.text.now
    c.in_ok-drawing.drawing _ c.in_ok-drawing.ensures.drawing (search rules)) in
    one_comes R _ p.0 (one_text_refusal c.args.options.now c.args.text.now) p.1 applies

pub returns-clause-layer : goal.returns-clause-layer
returns-clause-layer c =
    let P : Cells → Cells → Type 0 = λ cells kept. IsCutLayer c.args.options.now cells kept c.in_ok-layer.layer.fragments c.in_ok-layer.layer.net in
    on_drawing c.args.options.now c.args.text.now c.in_ok-drawing.drawing P c.in_ok-drawing.ensures.drawing c.in_ok-layer.ensures.layer

pub returns-clause-exact : goal.returns-clause-exact
returns-clause-exact c =
    let P : Cells → Cells → Type 0 = λ cells kept. IsCutLayer c.args.options.now cells kept c.in_ok-layer.layer.fragments c.in_ok-layer.layer.net in
    λ e r. absurd (none_comes c.args.options.now c.args.text.now c.in_ok-layer.layer.fragments c.in_ok-layer.layer.net
    (on_drawing c.args.options.now c.args.text.now c.in_ok-drawing.drawing P c.in_ok-drawing.ensures.drawing
    c.in_ok-layer.ensures.layer) e r)
