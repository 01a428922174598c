use Rattle.std.proofs.Common.{arith, ℕ, zero, suc, ◌<◌, ◌≤◌, ◌^◌, refl, sym, ◌∙◌, inl, inr, List, [], ◌∷◌, get_or}
use Rattle.std.proofs.Math.Path.{subst₂}
use Rattle.dpl_dual.specs.declared.crosses.Cross.{Cross}
use Rattle.dpl_dual.specs.Chains.{Leads, length_of}
use Rattle.dpl_flood.specs.Flips.{AreOverChains}
use Rattle.dpl_flood.proofs.NearLemmas.{near_hub}
use Rattle.dpl_flood.proofs.tests.closing.faces_in_row.Goals as goal

abbrev cross : ℕ → ℕ → ℕ → ℕ → Cross
cross f g edge long = record { f = f; g = g; edge = edge; length = long }

abbrev row : List Cross
row = cross 0 1 0 2 ∷ cross 1 2 1 4 ∷ cross 2 3 2 20 ∷ []

-- the chains from the second face
from_second : (t : ℕ) → t < 4 → (xs : List Cross) × Leads row 1 xs (get_or {A = ℕ} (0 ∷ 1 ∷ 2 ∷ 3 ∷ []) t 0) × (length_of xs ≤ 2 ^ 50)
from_second zero h = (cross 0 1 0 2 ∷ [], ((0, omega arith, refl), inr refl, refl), omega arith)
from_second (suc zero) h = ([], refl, omega arith)
from_second (suc (suc zero)) h = (cross 1 2 1 4 ∷ [], ((1, omega arith, refl), inl refl, refl), omega arith)
from_second (suc (suc (suc zero))) h =
    (cross 1 2 1 4 ∷ cross 2 3 2 20 ∷ [], ((1, omega arith, refl), inl refl, ((2, omega arith, refl), inl refl, refl)), omega arith)
from_second (suc (suc (suc (suc t)))) h = absurd (omega (arith, h))

pub returns-clause-near : goal.returns-clause-near
returns-clause-near c =
    subst₂ (λ ways seats. AreOverChains ways seats (λ s t. 2 ^ 51)) (sym (c.new-crosses.ensures ∙ c.in_ok-from_slice.ensures.items))
    (sym (c.new-odd.ensures ∙ c.in_ok-from_slice-2.ensures.items)) (near_hub row (0 ∷ 1 ∷ 2 ∷ 3 ∷ []) 1 from_second)
