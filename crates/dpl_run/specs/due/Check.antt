-- What `check` answers for a layout and a report: why the layout has no layer, or the verdict.
use Rattle.std.specs.Prelude.{ℕ, ℤ, List, []}
use Rattle.dpl_options.specs.Options.{PlainOptions}
use Rattle.dpl_layer.specs.declared.error.LayerError.{LayerError}
use Rattle.dpl_layer.specs.Reasons.{FirstOf}
use Rattle.dpl_layer.specs.Refusals.{layer_reasons}
use Rattle.dpl_check.specs.declared.verdicts.Verdict.TheVariants.{Yes, No}
use Rattle.dpl_check.specs.Checked.{IsVerdictOf}
use Rattle.dpl_run.specs.declared.status.Status.{Status}
use Rattle.dpl_run.specs.declared.status.Status.TheVariants.{Done, Rejected}
use Rattle.dpl_run.specs.Lines.{yes_line}
use Rattle.dpl_run.specs.Errors.{status_of}

pub data IsCheckDue (o : PlainOptions) (text report : List ℕ) : Status → List ℕ → Type 0 where
  refused : (e : LayerError) → FirstOf (layer_reasons o text) e →
      IsCheckDue o text report (status_of e) []
  rejected : (reason place : ℕ) (found wanted : ℤ) →
      IsVerdictOf o text report (No reason place found wanted) →
      IsCheckDue o text report (Rejected reason place found wanted) []
  accepted : (cost bound : ℕ) → IsVerdictOf o text report (Yes cost bound) →
      IsCheckDue o text report Done (yes_line cost bound)
