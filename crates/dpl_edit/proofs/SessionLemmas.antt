-- What is said of a session under other names, and when its edits are refused.
use Rattle.std.proofs.Common.{◌≡◌, ◌⊎◌, inl, inr, ◌++◌, ◌∷◌, ℕ, List, [], append-nil, refl, sym, ap, ◌∙◌, subst}
use Rattle.dpl_cell.specs.declared.layout.Primitive.{Primitive}
use Rattle.dpl_cell.specs.declared.rect.Rect.{Rect}
use Rattle.dpl_options.specs.Options.{PlainOptions}
use Rattle.dpl_edit.specs.declared.placed.Placed.{Placed}
use Rattle.dpl_layer.specs.declared.error.LayerError.{LayerError}
use Rattle.dpl_layer.specs.declared.error.LayerError.TheVariants.{NoMemory}
use Rattle.dpl_edit.specs.declared.errors.RemoveError.{RemoveError}
use Rattle.dpl_edit.specs.declared.errors.RemoveError.TheVariants.{NoBox, Refused}
use Rattle.dpl_edit.specs.Contents.{content, boxes_without, HasBox, Refuses}
use Rattle.dpl_edit.specs.Optima.{Optimum, IsSolvedContent}
use Rattle.dpl_edit.specs.Sessions.{State, RefusesRemoval}
use Rattle.dpl_edit.proofs.RefusalLemmas.{content_once, content_free}

-- two contents that are the same, with the same options and keep layer
pub record AreOne (o o' : PlainOptions) (prims prims' keep keep' : List Primitive) : Type 0 where
  pub options : o ≡ o'
  pub prims_are : prims ≡ prims'
  pub keep_is : keep ≡ keep'

pub refuses_there : (o o' : PlainOptions) (prims prims' keep keep' : List Primitive)
    → AreOne o o' prims prims' keep keep' → (e : LayerError) → Refuses o prims keep e
    → Refuses o' prims' keep' e
refuses_there o o' prims prims' keep keep' h e r =
    subst (λ z. Refuses o' prims' z e) h.keep_is (subst (λ z. Refuses o' z keep e) h.prims_are (subst (λ z. Refuses z prims keep e) h.options r))

pub refuses_here : (o o' : PlainOptions) (prims prims' keep keep' : List Primitive)
    → AreOne o o' prims prims' keep keep' → (e : LayerError) → Refuses o' prims' keep' e
    → Refuses o prims keep e
refuses_here o o' prims prims' keep keep' h e r =
    subst (λ z. Refuses z prims keep e) (sym h.options)
    (subst (λ z. Refuses o' z keep e) (sym h.prims_are) (subst (λ z. Refuses o' prims' z e) (sym h.keep_is) r))

-- where a content has an optimum no refusal applies
pub ok_free : (o o' : PlainOptions) (prims prims' keep keep' : List Primitive) (s : Optimum)
    → AreOne o o' prims prims' keep keep' → IsSolvedContent o prims keep s → (e : LayerError)
    → ¬ Refuses o' prims' keep' e
ok_free o o' prims prims' keep keep' s h solved e r = content_free o prims keep s solved e (refuses_here o o' prims prims' keep keep' h e r)

-- where a content is refused this comes, or want of memory
pub err_comes : (o o' : PlainOptions) (prims prims' keep keep' : List Primitive) (f : LayerError)
    → AreOne o o' prims prims' keep keep' → (f ≡ NoMemory) ⊎ Refuses o prims keep f → (e : LayerError)
    → Refuses o' prims' keep' e → (f ≡ e) ⊎ (f ≡ NoMemory)
err_comes o o' prims prims' keep keep' f h (inl m) e r = inr m
err_comes o o' prims prims' keep keep' f h (inr q) e r = inl (content_once o prims keep f e q (refuses_here o o' prims prims' keep keep' h e r))

abbrev pub placed : ℕ → Rect → Placed
placed n r = record { number = n; rect = r }

pub added : (xs ys : List Placed) (m n : ℕ) (r : Rect) → xs ≡ ys → m ≡ n → xs ++ placed m r ∷ [] ≡ ys ++ placed n r ∷ []
added xs ys m n r p q = ap (λ z. z ++ placed m r ∷ []) p ∙ ap (λ z. ys ++ placed z r ∷ []) q

pub content_is : (begun begun' : List Primitive) (boxes boxes' : List Placed) → begun ≡ begun' → boxes ≡ boxes' → content begun boxes ≡ content begun' boxes'
content_is begun begun' boxes boxes' p q = ap (λ z. content z boxes) p ∙ ap (content begun') q

-- with no box the content is what it began with
pub none_behind : (prims begun : List Primitive) (boxes : List Placed) → begun ≡ prims → boxes ≡ [] → content begun boxes ≡ prims
none_behind prims begun boxes p q = ap (content begun) q ∙ append-nil begun ∙ p

-- ---- removals

pub edit_removes : (s : State) (number : ℕ) (e : LayerError) → HasBox number s.boxes
    → (e ≡ NoMemory) ⊎ Refuses s.options (content s.begun (boxes_without number s.boxes)) s.keep e
    → (Refused e ≡ Refused NoMemory) ⊎ RefusesRemoval s number (Refused e)
edit_removes s number e b (inl m) = inl (ap Refused m)
edit_removes s number e b (inr h) = inr (b, h)

-- what refuses the content without the box, as an answer of the edit
pub removal_edits : (s : State) (number : ℕ) → HasBox number s.boxes → (r : RemoveError)
    → RefusesRemoval s number r
    → (e : LayerError) × (Refused e ≡ r) × Refuses s.options (content s.begun (boxes_without number s.boxes)) s.keep e
removal_edits s number b (NoBox n) h = absurd (h.1 b)
removal_edits s number b (Refused e) h = (e, refl, h.1)
