use Rattle.std.proofs.Common.{◌≡◌, List, length, ap, ◌∙◌, arith, rules}
use Rattle.dpl_lex.specs.Cutting.{commands_of}
use Rattle.dpl_lex.specs.declared.types.Span.{Span}
use Rattle.dpl_lex.specs.declared.types.Commands.{Commands}
use Rattle.dpl_lex.proofs.Within.{commands_within, commands_few}
use Rattle.dpl_rules.specs.Bounds.{read_commands}
use Rattle.dpl_calls.proofs.Few.{all_fit}
use Rattle.dpl_calls.proofs.ScansNext.{way_on, scans_first, scanned}
use Rattle.dpl_calls.proofs.scanning.scan.Goals as goal

pub commands-preserved-in-Ok-step : goal.commands-preserved-in-Ok-step
commands-preserved-in-Ok-step c =
    way_on _ _ _ _ _ _ _ _ _ _ _ c.in-Ok.command c.in-Some.ensures.cases.0 c.in-Some.ensures.cases.1 c.in-Ok.ensures (search rules)
    c.in-Ok-step.ensures.scope c.in-Ok-step.ensures.bodies c.in-Ok-step.ensures.keys c.in-Ok-step.ensures.calls
    c.in-Ok-step.ensures.scale c.in-Ok-step.ensures.known c.commands.invariant

pub commands-preserved-in-Ok-step-2 : goal.commands-preserved-in-Ok-step-2
commands-preserved-in-Ok-step-2 c =
    way_on _ _ _ _ _ _ _ _ _ _ _ c.in-Ok.command c.in-Some.ensures.cases.0 c.in-Some.ensures.cases.1 c.in-Ok.ensures (search rules)
    c.in-Ok-step.ensures.scope c.in-Ok-step.ensures.bodies c.in-Ok-step.ensures.keys c.in-Ok-step.ensures.calls
    c.in-Ok-step.ensures.scale c.in-Ok-step.ensures.known c.commands.invariant

pub commands-preserved-in-Ok-step-3 : goal.commands-preserved-in-Ok-step-3
commands-preserved-in-Ok-step-3 c =
    way_on _ _ _ _ _ _ _ _ _ _ _ c.in-Ok.command c.in-Some.ensures.cases.0 c.in-Some.ensures.cases.1 c.in-Ok.ensures (search rules)
    c.in-Ok-step.ensures.scope c.in-Ok-step.ensures.bodies c.in-Ok-step.ensures.keys c.in-Ok-step.ensures.calls
    c.in-Ok-step.ensures.scale c.in-Ok-step.ensures.known c.commands.invariant

pub commands-preserved : goal.commands-preserved
commands-preserved c =
    way_on _ _ _ _ _ _ _ _ _ _ _ c.in-Ok.command c.in-Some.ensures.cases.0 c.in-Some.ensures.cases.1 c.in-Ok.ensures (search rules)
    c.in-Ok-step.ensures.scope c.in-Ok-step.ensures.bodies c.in-Ok-step.ensures.keys c.in-Ok-step.ensures.calls
    c.in-Ok-step.ensures.scale c.in-Ok-step.ensures.known c.commands.invariant

pub commands-init : goal.commands-init
commands-init c =
    let text : List _ = c.args.text.now in
    let spans : c.as_slice-rest.result.now ≡ c.args.commands.now.spans = c.as_slice-rest.ensures in
    let here : c.as_slice-rest.result.now ≡ (commands_of text).spans = spans ∙ ap (λ (cs : Commands). cs.spans) c.requires.commands in record {
      scans = scans_first c.args.layer.now _ _ c.args.commands.now.ending _
          (ap (λ (ss : List Span). read_commands text ss) spans) c.new.ensures c.new-2.ensures.empty;
      within = rw here (commands_within text);
      fit = all_fit text c.as_slice-rest.result.now c.requires.short;
      count = rw here (omega (arith, commands_few text, c.requires.short));
      scale = record { some = omega arith; times = omega arith; over = omega arith };
      known = tt;
    }

pub returns-in-None : goal.returns-in-None
returns-in-None c =
    scanned c.args.layer.now c.args.text.now (read_commands c.args.text.now c.args.commands.now.spans)
    c.commands.rest.now c.args.commands.now.ending c.commands.table c.commands.scope c.commands.at
    c.broken_at_end.result c.in_default.ensures.cases c.broken_at_end.ensures c.in-None.is
    c.commands.invariant.scans
