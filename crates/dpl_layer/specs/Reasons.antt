-- Why work is refused: reasons in the order in which they are looked at, each with its answers. The order is our own.
use Rattle.std.specs.Prelude.{◌≡◌, ◌⊎◌, ℕ, ◌<◌, List, [], ◌∷◌, Result, Err}
use Rattle.dpl_limits.specs.Limits.{number_of, most_of}
use Rattle.dpl_limits.specs.declared.counted.Counted.{Counted}
use Rattle.dpl_calls.specs.Totals.{shown}
use Rattle.dpl_layer.specs.declared.error.LayerError.{LayerError}
use Rattle.dpl_layer.specs.declared.error.LayerError.TheVariants.{Limit, NoMemory}
use Rattle.dpl_layer.specs.Errors.{passed}

-- the first of the reasons that applies is answered
unfoldable pub FirstOf : List (LayerError → Type 0) → LayerError → Type 0
FirstOf [] e = ⊥
FirstOf (R ∷ Rs) e = R e ⊎ (((f : LayerError) → ¬ R f) × FirstOf Rs e)

-- none of the reasons applies
abbrev pub NoneOf : List (LayerError → Type 0) → Type 0
NoneOf Rs = (e : LayerError) → ¬ FirstOf Rs e

-- an error is want of memory, or a refusal that applies
abbrev pub RefusesOnly : {T : Type 0} → (LayerError → Type 0) → Result T LayerError → Type 0
RefusesOnly R result = (e : LayerError) → result ≡ Err e → (e ≡ NoMemory) ⊎ R e

-- a refusal that applies comes as the error, unless memory runs out
abbrev pub RefusesWhere : {T : Type 0} → (LayerError → Type 0) → Result T LayerError → Type 0
RefusesWhere R result = (e : LayerError) → R e → (result ≡ Err e) ⊎ (result ≡ Err NoMemory)

-- so many are more than the limit takes
abbrev pub IsOver : Counted → ℕ → LayerError → Type 0
IsOver counted n e = (most_of counted < n) × (e ≡ Limit (number_of counted) (shown n))

-- the limit is passed where there is a cause; what is beyond is not counted
abbrev pub IsPassed : Counted → Type 0 → LayerError → Type 0
IsPassed counted cause e = cause × (e ≡ passed counted)
