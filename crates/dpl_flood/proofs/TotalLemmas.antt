-- What the sets that hold a member have, with its top and without it.
use Rattle.std.proofs.Common.{arith, ◌≡◌, ℕ, ◌+◌, ◌<◌, ◌≤◌, sym, ap, ◌∙◌, inl, inr, List, length, get_or}
use Rattle.std.specs.Prelude.{slice_set}
use Rattle.std.proofs.lemmas.Bool.{cases_eq}
use Rattle.std.proofs.lemmas.List.{get_or-set_other}
use Rattle.std.proofs.lemmas.Grind.{get_or-set_at}
use Rattle.dpl_laminar.specs.Families.{Sets, IsFamily}
use Rattle.dpl_pack.specs.Nests.{inner_of}
use Rattle.dpl_pack.specs.Points.{total_at}
use Rattle.dpl_flood.proofs.ShoreLemmas.{top_total}

-- what the top of a member has is the difference
pub top_adds : (f : Sets) → IsFamily f → (t top value : ℕ) → t < f.size → top ≡ f.top t → value ≡ f.value top
    → inner_of f (f.top t) t + value ≡ total_at f t
top_adds f fam t top value h is has = ap (λ z. inner_of f (f.top t) t + z) (has ∙ ap f.value is) ∙ top_total f fam t h

-- one number more is what it is to be
pub one_done : (sums : List ℕ) (i new : ℕ) (wanted : ℕ → ℕ) → i < length sums → ((t : ℕ) → t < i → get_or sums t 0 ≡ wanted t) → new ≡ wanted i
    → (t : ℕ) → t < i + 1 → get_or (slice_set sums i new) t 0 ≡ wanted t
one_done sums i new wanted inside done is t h = elim (cases_eq t i) [
  | inl e ↦ get_or-set_at sums i t new 0 e inside ∙ is ∙ ap wanted (sym e)
  | inr ne ↦ get_or-set_other sums i t new 0 ne ∙ done t (omega (arith, h, ne))
]

-- and those behind it are as they were
pub others_wait : (sums start : List ℕ) (i new : ℕ) → ((t : ℕ) → i ≤ t → get_or sums t 0 ≡ get_or start t 0)
    → (t : ℕ) → i + 1 ≤ t → get_or (slice_set sums i new) t 0 ≡ get_or start t 0
others_wait sums start i new wait t h = get_or-set_other sums i t new 0 (λ e. omega (arith, e, h)) ∙ wait t (omega (arith, h))
