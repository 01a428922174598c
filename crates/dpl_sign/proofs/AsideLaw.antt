-- Nothing is set aside exactly where the whole drawing is plane.
use Rattle.std.proofs.Common.{arith, ◌≡◌, ℕ, zero, suc, ◌<◌, ◌≤◌, refl, sym, ap, ◌∙◌, true, not, inl, inr, [], ◌∷◌, ◌++◌, length, length-append}
use Rattle.std.specs.Prelude.{◌↔◌}
use Rattle.std.proofs.lemmas.Bool.{cases_eq, cases_Bool, cond-true, cond-false, ltb-true}
use Rattle.dpl_sign.specs.declared.nets.Net.{Net}
use Rattle.dpl_sign.specs.Drawings.{is_in}
use Rattle.dpl_sign.specs.Excess.{excess, all_edges, raises_excess, kept_before, kept_edges, is_aside, aside_before, aside_edges}
use Rattle.dpl_sign.proofs.Same.{excess_same}
use Rattle.dpl_sign.proofs.ExcessLemmas.{kept_plane}
use Rattle.dpl_sign.proofs.KeptLemmas.{kept_at}
use Rattle.dpl_sign.proofs.MonotoneLemmas.{excess_rises}

none_listed : (net : Net) (n : ℕ) → aside_before net n ≡ [] → (e : ℕ) → e < n → is_in (kept_edges net) e ≡ true
none_listed net zero h e l = absurd (omega arith)
none_listed net (suc n) h e l = elim (cases_Bool (is_in (kept_edges net) n)) [
  | inl t ↦ elim (cases_eq e n) [
    | inl r ↦ ap (is_in (kept_edges net)) r ∙ t
    | inr r ↦ none_listed net n (sym (cond-false (is_aside net n) _ _ (ap not t)) ∙ h) e (omega arith)
  ]
  | inr t ↦
      let more : aside_before net (suc n) ≡ aside_before net n ++ n ∷ [] = cond-true (is_aside net n) _ _ (ap not t) in
      absurd (omega (arith, ap length (sym more ∙ h), length-append (aside_before net n) (n ∷ [])))
]

all_kept : (net : Net) → excess net all_edges ≡ 0 → (e : ℕ) → e < length net.graph.edges → is_in (kept_edges net) e ≡ true
all_kept net plane e h =
    let kept = kept_before net e in
    elim (cases_Bool (raises_excess net kept)) [
      | inl t ↦ absurd (omega (arith, ltb-true _ _ t, excess_rises net (is_in (kept ++ true ∷ [])) all_edges (λ x l s. refl), plane))
      | inr t ↦ kept_at net (length net.graph.edges) e h ∙ ap not t
    ]

none_before : (net : Net) → excess net all_edges ≡ 0 → (n : ℕ) → n ≤ length net.graph.edges → aside_before net n ≡ []
none_before net plane zero h = refl
none_before net plane (suc n) h = cond-false (is_aside net n) _ _ (ap not (all_kept net plane n (omega arith))) ∙ none_before net plane n (omega arith)

-- nothing is set aside exactly where the whole drawing has no excess
pub none_aside : (net : Net) → (aside_edges net ≡ [] ↔ excess net all_edges ≡ 0)
none_aside net =
    let n = length net.graph.edges in (
      λ h. excess_same net all_edges (is_in (kept_edges net)) (λ e l. sym (none_listed net n h e l)) ∙ kept_plane net n (omega arith),
      λ h. none_before net h n (omega arith),
    )
