use Rattle.std.proofs.Common.{rules}
use Rattle.dpl_cuts.specs.declared.types.Fragments.{Fragments}
use Rattle.dpl_sign.specs.declared.nets.Net.{Net}
use Rattle.dpl_good.proofs.ValidLemmas.{params_fit}
use Rattle.dpl_check.specs.Judged.{IsVerdict}
use Rattle.dpl_check.proofs.OnceLemmas.{verdict_of_text}
use Rattle.dpl_check.proofs.checking.check_parts.Goals as goal

pub judge-requires-clause-options : goal.judge-requires-clause-options
judge-requires-clause-options c = params_fit c.args.options.now c.in_range.ensures

pub returns-clause-verdict : goal.returns-clause-verdict
returns-clause-verdict c =
    let o = c.args.options.now in
    let f : Fragments = c.in_ok-layer.layer.fragments in
    let n : Net = c.in_ok-layer.layer.net in
    let v : IsVerdict o f n c.args.report.now c.in_ok-verdict.verdict = search rules in
    verdict_of_text o c.args.text.now c.args.report.now f n c.in_ok-verdict.verdict c.in_ok-layer.ensures.layer v
