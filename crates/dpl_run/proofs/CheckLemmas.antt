-- What is due for `check`: one answer at most, and the end of its work.
use Rattle.std.proofs.Common.{◌≡◌, ℕ, List, ◌++◌, Option, Some, true, refl, ap}
use Rattle.std.specs.Prelude.{Ok}
use Rattle.dpl_options.specs.Options.{PlainOptions, AreOptions}
use Rattle.dpl_layer.specs.Reasons.{FirstOf}
use Rattle.dpl_layer.specs.Refusals.{layer_reasons}
use Rattle.dpl_layer.proofs.RefusalLemmas.{layer_kind, never_memory, one_text_refusal}
use Rattle.dpl_check.specs.Checked.{IsAcceptedOf}
use Rattle.dpl_check.specs.declared.verdicts.Verdict.{Verdict}
use Rattle.dpl_check.specs.declared.verdicts.Verdict.TheVariants.{Yes, No}
use Rattle.dpl_check.proofs.GoodMaskLemmas.{yes_accepts}
use Rattle.dpl_check.proofs.OnceLemmas.{verdict_not_refused, one_verdict}
use Rattle.dpl_words.specs.declared.command.Command.{Command}
use Rattle.dpl_run.specs.declared.status.Status.{Status}
use Rattle.dpl_run.specs.declared.status.Status.TheVariants.{Done, Rejected}
use Rattle.dpl_run.specs.Inputs.{judges}
use Rattle.dpl_run.specs.due.Check.{IsCheckDue}
use Rattle.dpl_run.specs.due.Check.IsCheckDue.{refused, rejected, accepted}
use Rattle.dpl_run.specs.Lines.{yes_line}
use Rattle.dpl_run.specs.Errors.{status_of}
use Rattle.dpl_run.proofs.EndLemmas.{AllEnd, error_ends, refused_not_done}

-- what is due for check ends the work of a command that judges
pub check_ends : (c : Command) → judges c ≡ true → (o : PlainOptions) (text report : List ℕ) → AllEnd c (IsCheckDue o text report)
check_ends c judging o text report _ _ (refused e r) =
    error_ends c (FirstOf (layer_reasons o text)) (never_memory o text) (layer_kind o text) e r
check_ends c judging o text report _ _ (rejected reason place found wanted v) = (judging, refl)
check_ends c judging o text report _ _ (accepted cost bound v) = tt

abbrev status_of_verdict : Verdict → Status
status_of_verdict (Yes cost bound) = Done
status_of_verdict (No reason place found wanted) = Rejected reason place found wanted

-- at most one status is due for check
pub one_check : (o : PlainOptions) (text report : List ℕ) (a b : Status) (x y : List ℕ) → IsCheckDue o text report a x → IsCheckDue o text report b y → a ≡ b
one_check o text report _ _ _ _ (refused e r) (refused f q) = ap status_of (one_text_refusal o text e f r q)
one_check o text report _ _ _ _ (refused e r) (rejected reason place found wanted w) =
    absurd (verdict_not_refused o text report e (No reason place found wanted) r w)
one_check o text report _ _ _ _ (refused e r) (accepted cost bound w) = absurd (verdict_not_refused o text report e (Yes cost bound) r w)
one_check o text report _ _ _ _ (rejected reason place found wanted v) (refused f q) =
    absurd (verdict_not_refused o text report f (No reason place found wanted) q v)
one_check o text report _ _ _ _ (rejected reason place found wanted v) (rejected reason' place' found' wanted' w) =
    ap status_of_verdict (one_verdict o text report (No reason place found wanted) (No reason' place' found' wanted') v w)
one_check o text report _ _ _ _ (rejected reason place found wanted v) (accepted cost bound w) =
    ap status_of_verdict (one_verdict o text report (No reason place found wanted) (Yes cost bound) v w)
one_check o text report _ _ _ _ (accepted cost bound v) (refused f q) = absurd (verdict_not_refused o text report f (Yes cost bound) q v)
one_check o text report _ _ _ _ (accepted cost bound v) (rejected reason place found wanted w) =
    ap status_of_verdict (one_verdict o text report (Yes cost bound) (No reason place found wanted) v w)
one_check o text report _ _ _ _ (accepted cost bound v) (accepted cost' bound' w) = refl

-- ---- what an accepted report means

-- where check is done, what was written is a cost and a bound with which the report is accepted
pub accepted_bound : (o : PlainOptions) (text report taken : List ℕ) (now : Option (List ℕ)) (a : Status) (x : List ℕ)
    → AreOptions o → IsCheckDue o text report a x → a ≡ Done → now ≡ Some (taken ++ x)
    → (cost : ℕ) × (bound : ℕ) × (now ≡ Some (taken ++ yes_line cost bound)) × IsAcceptedOf o text report cost bound
accepted_bound o text report taken now _ _ ranges (refused e r) d is = absurd (refused_not_done e d)
accepted_bound o text report taken now _ _ ranges (rejected reason place found wanted v) d is = absurd (cc)
accepted_bound o text report taken now _ _ ranges (accepted cost bound v) d is =
    (cost, bound, is, yes_accepts o text report (Ok (Yes cost bound)) ranges v cost bound refl)
