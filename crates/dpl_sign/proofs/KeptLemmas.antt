-- Which edges are kept: the first ones are kept or not whatever comes later.
use Rattle.std.proofs.Common.{arith, ◌≡◌, ℕ, zero, suc, ◌<◌, ◌≤◌, refl, sym, ap, ◌∙◌, Bool, true, false, not, inl, inr, List, [], ◌∷◌, length}
use Rattle.std.proofs.lemmas.Bool.{cases_eq, cases_lt, both_ways, true≢false}
use Rattle.dpl_sign.specs.declared.nets.Net.{Net}
use Rattle.dpl_sign.specs.Drawings.{is_in}
use Rattle.dpl_sign.specs.Excess.{raises_excess, kept_before}
use Rattle.dpl_sign.proofs.ExcessLemmas.{kept_length, in_front, at_end}

-- an edge is kept exactly where it does not raise the excess of what is kept before it
pub kept_at : (net : Net) (n e : ℕ) → e < n → is_in (kept_before net n) e ≡ not (raises_excess net (kept_before net e))
kept_at net zero e h = absurd (omega arith)
kept_at net (suc n) e h =
    let kept = kept_before net n in
    let size = kept_length net n in
    elim (cases_eq e n) [
      | inl r ↦ ap (is_in (kept_before net (suc n))) (r ∙ sym size) ∙ at_end kept (not (raises_excess net kept)) ∙
          ap (λ x. not (raises_excess net (kept_before net x))) (sym r)
      | inr r ↦ in_front kept (not (raises_excess net kept)) e (λ q. r (q ∙ size)) ∙ kept_at net n e (omega arith)
    ]

-- the first edges are kept or not whatever comes later
pub kept_early : (net : Net) (m n e : ℕ) → e < m → e < n → is_in (kept_before net m) e ≡ is_in (kept_before net n) e
kept_early net m n e h k = kept_at net m e h ∙ sym (kept_at net n e k)

none_past : (xs : List Bool) (x : ℕ) → length xs ≤ x → is_in xs x ≡ false
none_past [] x h = refl
none_past (y ∷ ys) zero h = absurd (omega arith)
none_past (y ∷ ys) (suc x) h = none_past ys x (omega arith)

-- an edge that is kept before another has a smaller number
pub kept_inside : (net : Net) (m e : ℕ) → is_in (kept_before net m) e ≡ true → e < m
kept_inside net m e t = elim (cases_lt e m) [
  | inl h ↦ h
  | inr h ↦ absurd (both_ways _ (none_past (kept_before net m) e (omega (arith, kept_length net m, h))) t)
]
