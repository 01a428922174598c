-- Two labels along one cycle.
use Rattle.std.proofs.Common.{arith, ◌≡◌, ℕ, ◌+◌, ◌%◌, ◌<◌, sym, ap, ◌∙◌, Bool, true, cond, inl, inr}
use Rattle.std.proofs.lemmas.Bool.{cases_Bool, cond-true, cond-false}
use Rattle.dpl_cycle.specs.Cycles.{least, Permutes}
use Rattle.dpl_cycle.proofs.Least.{label_least}
use Rattle.dpl_cycle.proofs.AddedLabels.{Labels}

-- Along a face the labels of the darts and of the nodes differ by one constant, so that where i and j are on one
-- face the two differences at them are one. `tail` gives a dart's node, and `kept` says which darts are drawn.
pub face_constant : (n : ℕ) (f g w h nodes : ℕ → ℕ) (kept : ℕ → Bool) → Permutes n f g → Labels f w h n
    → ((z : ℕ) → z < n → kept (f z) ≡ kept z)
    → ((z : ℕ) → z < n → kept z ≡ true → nodes (f z) % 2 ≡ (nodes z + w z) % 2) → (i j : ℕ) → i < n → j < n
    → kept i ≡ true → kept j ≡ true → least f n i ≡ least f n j → (h i + nodes i) % 2 ≡ (h j + nodes j) % 2
face_constant n f g w h nodes kept p l stays fits i j hi hj ki kj e =
    let label : ℕ → ℕ = λ z. cond (kept z) ((h z + nodes z) % 2) 2 in
    let along : (z : ℕ) → z < n → label (f z) ≡ label z = λ z k. elim (cases_Bool (kept z)) [
      | inl t ↦ cond-true (kept (f z)) _ _ (stays z k ∙ t) ∙ omega (arith, l z k, fits z k t) ∙ sym (cond-true (kept z) _ _ t)
      | inr t ↦ cond-false {A = ℕ} (kept (f z)) _ 2 (stays z k ∙ t) ∙ sym (cond-false {A = ℕ} (kept z) _ 2 t)
    ] in
    let one : label i ≡ label j = sym (label_least n f g p label along i hi) ∙ ap label e ∙ label_least n f g p label along j hj in
    sym (cond-true (kept i) _ _ ki) ∙ one ∙ cond-true (kept j) _ _ kj
