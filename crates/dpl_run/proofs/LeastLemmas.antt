-- What an answer means for every other pair of masks.
use Rattle.std.proofs.Common.{◌≡◌, ℕ, List, ◌++◌, Option, Some, None, refl, ap, subst}
use Rattle.std.specs.Prelude.{Ok}
use Rattle.std.specs.Io.KnownBytes.{Appends}
use Rattle.dpl_options.specs.Options.{PlainOptions}
use Rattle.dpl_layer.specs.Reasons.{FirstOf}
use Rattle.dpl_layer.proofs.TextLemmas.{on_layer}
use Rattle.dpl_check.specs.Checked.{IsAcceptedOf}
use Rattle.dpl_layer.specs.Refusals.{layer_reasons}
use Rattle.dpl_core.specs.Reports.{IsBalancedOfCells, IsBalancedSplit, IsRefinedSplit, IsReportOfCells, IsSplit}
use Rattle.dpl_words.specs.Commands.{asked_by}
use Rattle.dpl_words.specs.declared.command.Command.{Command}
use Rattle.dpl_words.specs.declared.command.Command.TheVariants as asked
use Rattle.dpl_words.specs.declared.work.Work.TheVariants.{Split, Check, Balance, Refine}
use Rattle.dpl_run.specs.declared.status.Status.{Status}
use Rattle.dpl_run.specs.declared.status.Status.TheVariants.{Done}
use Rattle.dpl_run.specs.Answer.{Answers, DueOf, IsDue, IsDueFor, IsDueOf}
use Rattle.dpl_run.specs.Answer.IsDueFor.{too_long, carried_out}
use Rattle.dpl_run.specs.Lines.{yes_line}
use Rattle.dpl_run.proofs.EndLemmas.{refused_not_done}
use Rattle.dpl_run.proofs.MadeLemmas.{made_done}
use Rattle.dpl_run.proofs.CheckLemmas.{accepted_bound}
use Rattle.dpl_run.proofs.RangeLemmas.{layout_range}

-- ---- what was written where the run is done

appended : (now : Option (List ℕ)) (taken output : List ℕ) → Appends (Some taken) now output → now ≡ Some (taken ++ output)
appended None taken output a = absurd a
appended (Some x) taken output a = ap Some a

due_for_done : (c : Command) (text second : List ℕ) (a : Status) (x : List ℕ) → IsDueFor c text second a x → a ≡ Done → DueOf c text second Done x
due_for_done c text second _ _ (too_long e r) d = absurd (refused_not_done e d)
due_for_done c text second _ _ (carried_out a x none d) e = subst (λ z. DueOf c text second z x) e d

-- the output of a command that is done
record Written (c : Command) (text second taken : List ℕ) (now : Option (List ℕ)) : Type 0 where
  output : List ℕ
  is : now ≡ Some (taken ++ output)
  due : DueOf c text second Done output

written : (words : List (List ℕ)) (c : Command) (text second taken : List ℕ) (now : Option (List ℕ)) → asked_by words ≡ Ok c
    → Answers (IsDue words text second) (Some taken) now Done → Written c text second taken now
written words c text second taken now e w =
    let due = subst (λ z. IsDueOf z text second Done w.output) e w.due in
    record { output = w.output; is = appended now taken w.output w.taken; due = due_for_done c text second Done w.output due refl }

-- an output of this kind was written behind what was taken
abbrev pub WasWritten : (List ℕ → Type 0) → List ℕ → Option (List ℕ) → Type 0
WasWritten Is taken now = (output : List ℕ) × (now ≡ Some (taken ++ output)) × Is output

-- ---- a split

-- a split whose masks cover about the same area is a split
pub as_split : (o : PlainOptions) (text output : List ℕ) → IsBalancedSplit o text output → IsSplit o text output
as_split o text output p = record {
  report = p.report;
  has = on_layer o text (IsBalancedOfCells o p.report) (IsReportOfCells o p.report) (λ cells kept c. c.of_cells) p.has;
  is = p.is;
}

-- where a split is done, its text was written
pub writes_split : (words : List (List ℕ)) (o : PlainOptions) (text second taken : List ℕ) (now : Option (List ℕ)) → asked_by words ≡ Ok (asked.Layout o Split)
    → Answers (IsDue words text second) (Some taken) now Done → WasWritten (IsSplit o text) taken now
writes_split words o text second taken now e a =
    let w = written words (asked.Layout o Split) text second taken now e a in
    (w.output, w.is, made_done (FirstOf (layer_reasons o text)) (IsSplit o text) Done w.output w.due refl)

-- where a balanced split is done, its text was written
pub writes_balanced : (words : List (List ℕ)) (o : PlainOptions) (text second taken : List ℕ) (now : Option (List ℕ)) → asked_by words ≡ Ok (asked.Layout o Balance)
    → Answers (IsDue words text second) (Some taken) now Done → WasWritten (IsBalancedSplit o text) taken now
writes_balanced words o text second taken now e a =
    let w = written words (asked.Layout o Balance) text second taken now e a in
    (w.output, w.is, made_done (FirstOf (layer_reasons o text)) (IsBalancedSplit o text) Done w.output w.due refl)

-- where a refined split is done, its text was written
pub writes_refined : (words : List (List ℕ)) (o : PlainOptions) (text second taken : List ℕ) (now : Option (List ℕ)) → asked_by words ≡ Ok (asked.Layout o Refine)
    → Answers (IsDue words text second) (Some taken) now Done → WasWritten (IsRefinedSplit o text) taken now
writes_refined words o text second taken now e a =
    let w = written words (asked.Layout o Refine) text second taken now e a in
    (w.output, w.is, made_done (FirstOf (layer_reasons o text)) (IsRefinedSplit o text) Done w.output w.due refl)

-- ---- an accepted report

-- where a check is done, what was written is a cost and a bound with which the report is accepted
pub writes_bound : (words : List (List ℕ)) (o : PlainOptions) (name text report taken : List ℕ) (now : Option (List ℕ))
    → asked_by words ≡ Ok (asked.Layout o (Check name)) → Answers (IsDue words text report) (Some taken) now Done
    → (cost : ℕ) × (bound : ℕ) × (now ≡ Some (taken ++ yes_line cost bound)) × IsAcceptedOf o text report cost bound
writes_bound words o name text report taken now e a =
    let w = written words (asked.Layout o (Check name)) text report taken now e a in
    accepted_bound o text report taken now Done w.output (layout_range words o (Check name) e) w.due refl w.is
