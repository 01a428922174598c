-- What is due for `load`.
use Rattle.std.proofs.Common.{◌≡◌, ◌⊎◌, ℕ, List, [], refl, sym, subst, inl, inr}
use Rattle.dpl_options.specs.Options.{PlainOptions}
use Rattle.dpl_report.specs.Plain.{PlainReport}
use Rattle.dpl_report.specs.Valid.{IsReport}
use Rattle.dpl_layer.specs.declared.error.LayerError.{LayerError}
use Rattle.dpl_layer.specs.declared.error.LayerError.TheVariants as refusal
use Rattle.dpl_layer.specs.Reasons.{FirstOf, NoneOf}
use Rattle.dpl_layer.proofs.TextLemmas.{of_layer}
use Rattle.dpl_layer.specs.Refusals.{layer_reasons}
use Rattle.dpl_core.specs.Reports.{IsReportOf, IsReportOfCells}
use Rattle.dpl_run.specs.declared.status.Status.{Status}
use Rattle.dpl_run.specs.declared.status.Status.TheVariants.{Done, NoMemory}
use Rattle.dpl_run.specs.due.Load.{IsLoaded, loaded_line, made_options}
use Rattle.dpl_run.specs.due.Made.{IsMade}
use Rattle.dpl_run.specs.due.Made.IsMade.{refused, done}
use Rattle.dpl_run.specs.Errors.{status_of}
use Rattle.dpl_run.specs.Telling.{IsWorked}
use Rattle.dpl_run.proofs.EndLemmas.{refused_worked}

-- what is due for a made text
abbrev pub LoadDue : PlainOptions → List ℕ → Status → List ℕ → Type 0
LoadDue o text = IsMade (FirstOf (layer_reasons o text)) (IsLoaded o text)

-- the line of a report is due, and want of memory is free
pub load_told : (o : PlainOptions) (text made : List ℕ) (r : PlainReport) (s : Status) (x : List ℕ)
    → made ≡ text → o ≡ made_options → IsReportOf o made r → NoneOf (layer_reasons o made)
    → (s ≡ Done → x ≡ loaded_line r) → (s ≡ Done) ⊎ ((s ≡ NoMemory) × (x ≡ []))
    → IsWorked (LoadDue made_options text) s x
load_told o text made r s x m same good free line (inl d) =
    let due : LoadDue o text Done (loaded_line r) = done (loaded_line r)
    (r, subst (λ z. IsReportOf o z r) m good, refl) (subst (λ z. NoneOf (layer_reasons o z)) m free) in
    subst (λ z. IsWorked (LoadDue z text) s x) same (subst (λ z. IsWorked (LoadDue o text) z x) (sym d) (subst (LoadDue o text Done) (sym (line d)) due))
load_told o text made r s x m same good free line (inr d) = subst (λ z. IsWorked (LoadDue made_options text) z x) (sym d.0) d.1

-- where the split of the made text is refused, that ends the work, but for want of memory
pub load_refused : (o : PlainOptions) (text made : List ℕ) (e : LayerError) (s : Status) (x : List ℕ)
    → made ≡ text → o ≡ made_options → (e ≡ refusal.NoMemory) ⊎ FirstOf (layer_reasons o made) e
    → s ≡ status_of e → x ≡ [] → IsWorked (LoadDue made_options text) s x
load_refused o text made e s x m same h is none =
    subst (λ z. IsWorked (LoadDue z text) s x) same (refused_worked (LoadDue o text) (FirstOf (layer_reasons o made)) e s x
    (λ f r. refused f (subst (λ z. FirstOf (layer_reasons o z) f) m r)) h is none)

-- the report of a text is valid
pub valid_report : (o : PlainOptions) (text : List ℕ) (r : PlainReport) → IsReportOf o text r → IsReport r
valid_report o text r h = of_layer o text (IsReportOfCells o r) (λ cells kept c. c.facts.valid) h
