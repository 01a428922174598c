-- What is due for a command that makes an output: one answer at most, and the end of its work.
use Rattle.std.proofs.Common.{◌≡◌, ◌⊎◌, ℕ, List, [], refl, sym, ap, subst, inl, inr, Vec}
use Rattle.std.specs.Prelude.{Ok, Err, Result, IfOk, IfErr}
use Rattle.dpl_options.specs.Options.{PlainOptions}
use Rattle.dpl_layer.specs.declared.error.LayerError.{LayerError}
use Rattle.dpl_layer.specs.declared.error.LayerError.TheVariants as refusal
use Rattle.dpl_layer.specs.Reasons.{FirstOf}
use Rattle.dpl_layer.proofs.ReasonLemmas.{IsOnce}
use Rattle.dpl_layer.specs.Refusals.{layer_reasons}
use Rattle.dpl_layer.proofs.RefusalLemmas.{layer_kind, never_memory}
use Rattle.dpl_words.specs.declared.command.Command.{Command}
use Rattle.dpl_run.specs.declared.status.Status.{Status}
use Rattle.dpl_run.specs.declared.status.Status.TheVariants.{Done}
use Rattle.dpl_run.specs.due.Made.{IsMade}
use Rattle.dpl_run.specs.due.Made.IsMade.{refused, done}
use Rattle.dpl_run.specs.Errors.{status_of}
use Rattle.dpl_run.specs.Telling.{IsWorked}
use Rattle.dpl_run.proofs.EndLemmas.{AllEnd, IsWorkLimit, error_ends, refused_worked, refused_not_done}

-- what is due ends the work, where no refusal is want of memory and each limit is one of the work
pub made_ends : (c : Command) (R : LayerError → Type 0) (M : List ℕ → Type 0) → (R refusal.NoMemory → ⊥)
    → ((k n : ℕ) → R (refusal.Limit k n) → IsWorkLimit k) → AllEnd c (IsMade R M)
made_ends c R M some kinds _ _ (refused e r) = error_ends c R some kinds e r
made_ends c R M some kinds _ _ (done output p free) = tt

-- the same for a split
pub split_ends : (c : Command) → (o : PlainOptions) (text : List ℕ) (M : List ℕ → Type 0)
    → AllEnd c (IsMade (FirstOf (layer_reasons o text)) M)
split_ends c o text M = made_ends c (FirstOf (layer_reasons o text)) M (never_memory o text)
    (layer_kind o text)

-- at most one status is due, where at most one refusal applies
pub one_made : (R : LayerError → Type 0) (M : List ℕ → Type 0) → IsOnce R → (a b : Status) (x y : List ℕ) → IsMade R M a x → IsMade R M b y → a ≡ b
one_made R M once _ _ _ _ (refused e r) (refused f q) = ap status_of (once e f r q)
one_made R M once _ _ _ _ (refused e r) (done output p free) = absurd (free e r)
one_made R M once _ _ _ _ (done output p free) (refused f q) = absurd (free f q)
one_made R M once _ _ _ _ (done output p free) (done other q also) = refl

-- where all is done, such an output was made
pub made_done : (R : LayerError → Type 0) (M : List ℕ → Type 0) (a : Status) (x : List ℕ) → IsMade R M a x → a ≡ Done → M x
made_done R M _ _ (refused e r) d = absurd (refused_not_done e d)
made_done R M _ _ (done output p free) d = p

-- where each refusal that applies is answered, none applies to what was made
pub free_of : {T : Type 0} (R : LayerError → Type 0) (result : Result T LayerError) (v : T) → result ≡ Ok v
    → ((e : LayerError) → R e → (result ≡ Err e) ⊎ (result ≡ Err refusal.NoMemory)) → (e : LayerError) → ¬ R e
free_of R result v h exact e r = elim (exact e r) [
  | inl a ↦ absurd (cc)
  | inr a ↦ absurd (cc)
]

-- what is due for a report that was made, or for the refusal in its place
pub made_worked : {Z : Type 0} (R : LayerError → Type 0) (M : List ℕ → Type 0) (made : Result (Vec ℕ Z) LayerError)
    (s : Status) (x : List ℕ) → IfOk made (λ v. M v.items)
    → ((e : LayerError) → made ≡ Err e → (e ≡ refusal.NoMemory) ⊎ R e)
    → ((e : LayerError) → R e → (made ≡ Err e) ⊎ (made ≡ Err refusal.NoMemory))
    → IfOk made (λ v. (s ≡ Done) × (x ≡ v.items)) → IfErr made (λ e. (s ≡ status_of e) × (x ≡ []))
    → IsWorked (IsMade R M) s x
made_worked R M (Ok v) s x m r exact d f =
    let due : IsMade R M Done v.items = done v.items m (free_of R (Ok v) v refl exact) in
    subst (λ z. IsWorked (IsMade R M) z x) (sym d.0) (subst (λ z. IsMade R M Done z) (sym d.1) due)
made_worked R M (Err e) s x m r exact d f = refused_worked (IsMade R M) R e s x refused (r e refl) f.0 f.1
