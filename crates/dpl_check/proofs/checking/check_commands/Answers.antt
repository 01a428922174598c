use Rattle.dpl_layer.specs.Reasons.{FirstOf}
use Rattle.dpl_layer.specs.Refusals.{layer_reasons}
use Rattle.dpl_layer.proofs.RefusalLemmas.{error_refuses, one_text_refusal, refusal_comes}
use Rattle.dpl_check.specs.Checked.{IsVerdictOf}
use Rattle.dpl_check.proofs.OnceLemmas.{verdict_free, verdict_comes}
use Rattle.dpl_check.proofs.GoodMaskLemmas.{yes_accepts}
use Rattle.dpl_check.proofs.checking.check_commands.Goals as goal

pub returns-clause-refused : goal.returns-clause-refused
returns-clause-refused c = error_refuses (FirstOf (layer_reasons c.args.options.now c.args.text.now)) _ c.check_parts.ensures.refused

pub returns-clause-exact : goal.returns-clause-exact
returns-clause-exact c =
    let o = c.args.options.now in
    let text = c.args.text.now in
    refusal_comes (IsVerdictOf o text c.args.report.now) (FirstOf (layer_reasons o text)) _ (one_text_refusal o text)
    (verdict_free o text c.args.report.now) c.check_parts.ensures.verdict c.check_parts.ensures.refused

pub returns-clause-once : goal.returns-clause-once
returns-clause-once c = verdict_comes c.args.options.now c.args.text.now c.args.report.now _ c.check_parts.ensures.verdict c.check_parts.ensures.refused

pub returns-clause-accepted : goal.returns-clause-accepted
returns-clause-accepted c = yes_accepts c.args.options.now c.args.text.now c.args.report.now _ c.in_range.ensures c.check_parts.ensures.verdict
