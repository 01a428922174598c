-- What is due for a command that makes an output.
use Rattle.std.specs.Prelude.{ℕ, List, []}
use Rattle.dpl_layer.specs.declared.error.LayerError.{LayerError}
use Rattle.dpl_run.specs.declared.status.Status.{Status}
use Rattle.dpl_run.specs.declared.status.Status.TheVariants.{Done}
use Rattle.dpl_run.specs.Errors.{status_of}

-- the refusal that applies is answered, and where none does such an output is written
pub data IsMade (Refuses : LayerError → Type 0) (Makes : List ℕ → Type 0)
    : Status → List ℕ → Type 0 where
  refused : (e : LayerError) → Refuses e → IsMade Refuses Makes (status_of e) []
  done : (output : List ℕ) → Makes output → ((e : LayerError) → ¬ Refuses e) →
      IsMade Refuses Makes Done output
