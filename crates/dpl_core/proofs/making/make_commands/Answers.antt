use Rattle.std.proofs.Common.{rules, ◌≡◌, ◌⊎◌}
use Rattle.std.proofs.lemmas.Result.{err_from_is_err_and}
use Rattle.dpl_layer.specs.declared.error.LayerError.{LayerError}
use Rattle.dpl_layer.specs.declared.error.LayerError.TheVariants.{NoMemory}
use Rattle.dpl_layer.specs.Reasons.{FirstOf}
use Rattle.dpl_layer.specs.Refusals.{layer_reasons}
use Rattle.dpl_layer.proofs.TextLemmas.{some_layer}
use Rattle.dpl_layer.proofs.RefusalLemmas.{none_comes, one_comes, one_text_refusal, only_comes}
use Rattle.dpl_core.proofs.MaskLemmas.{report_of_text}
use Rattle.dpl_core.proofs.making.make_commands.Goals as goal

pub report_of_layer-requires : goal.report_of_layer-requires
report_of_layer-requires c = record {
  layer = some_layer c.args.options.now c.args.text.now
      c.in_ok-layer.layer.fragments c.in_ok-layer.layer.net c.in_ok-layer.ensures.layer;
}

pub returns-in_err-layer-clause-refused : goal.returns-in_err-layer-clause-refused
returns-in_err-layer-clause-refused c =
    let p = err_from_is_err_and c.from_residual.result c.from_residual.ensures.1 in
    let none : (p.0 ≡ NoMemory) ⊎ FirstOf (layer_reasons c.args.options.now c.args.text.now) p.0 = rw p.2 (search rules) in
    only_comes (FirstOf (layer_reasons c.args.options.now c.args.text.now)) _ p.0 p.1 none

pub returns-in_err-layer-clause-exact : goal.returns-in_err-layer-clause-exact
returns-in_err-layer-clause-exact c =
    let p = err_from_is_err_and c.from_residual.result c.from_residual.ensures.1 in
    let R : LayerError → Type 0 = FirstOf (layer_reasons c.args.options.now c.args.text.now) in
    let none : (p.0 ≡ NoMemory) ⊎ R p.0 = rw p.2 (search rules) in
    one_comes R _ p.0 (one_text_refusal c.args.options.now c.args.text.now) p.1 none

pub returns-clause-made : goal.returns-clause-made
returns-clause-made c = report_of_text c.args.options.now c.args.text.now c.in_ok-layer.layer.fragments
    c.in_ok-layer.layer.net _ c.in_ok-report.ensures.report c.in_ok-report.ensures.masks c.in_ok-layer.ensures.layer

pub returns-clause-exact : goal.returns-clause-exact
returns-clause-exact c =
    λ e r. absurd (none_comes c.args.options.now c.args.text.now c.in_ok-layer.layer.fragments c.in_ok-layer.layer.net
    c.in_ok-layer.ensures.layer e r)
