use Rattle.dpl_cell.specs.Layers.{cells_of}
use Rattle.dpl_layer.specs.declared.laying.Layer.{Layer}
use Rattle.dpl_layer.specs.Layers.{IsCutLayer}
use Rattle.dpl_layer.specs.Reasons.{FirstOf}
use Rattle.dpl_layer.specs.Refusals.{cells_reasons}
use Rattle.dpl_layer.proofs.RefusalLemmas.{cells_free, error_refuses, one_cells_refusal, refusal_comes}
use Rattle.dpl_layer.proofs.laying.layer_of.Goals as goal

pub returns-clause-refused : goal.returns-clause-refused
returns-clause-refused c = error_refuses (FirstOf (cells_reasons c.args.options.now (cells_of c.args.drawing.now.layer)
    (cells_of c.args.drawing.now.keep))) _ c.link_drawing.ensures.refused

pub returns-clause-exact : goal.returns-clause-exact
returns-clause-exact c =
    let o = c.args.options.now in
    let cells = cells_of c.args.drawing.now.layer in
    let kept = cells_of c.args.drawing.now.keep in
    let L : Layer → Type 0 = λ l. IsCutLayer o cells kept l.fragments l.net in
    refusal_comes L (FirstOf (cells_reasons o cells kept)) _ (one_cells_refusal o cells kept)
    (λ l k. cells_free o cells kept l.fragments l.net k.is) c.link_drawing.ensures.layer
    c.link_drawing.ensures.refused
